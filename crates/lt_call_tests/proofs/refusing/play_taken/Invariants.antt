use Rattle.lt_call_tests.proofs.refusing.play_taken.Given as goal

-- the name of the book that was just opened
abbrev pub ghosts-taken_named : goal.ghosts-taken_named
ghosts-taken_named g a = record { of = a.ready.of }
