use Rattle.lt_waking_tests.proofs.interrupted.wait_and_interrupt.Given as goal

-- the name of the book that was just opened
abbrev pub ghosts-answers_named : goal.ghosts-answers_named
ghosts-answers_named g a = record { of = a.ready.of }
