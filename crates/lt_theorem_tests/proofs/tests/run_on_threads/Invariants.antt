use Rattle.lt_theorem_tests.proofs.tests.run_on_threads.Given as goal

-- the name of the book that was just opened
abbrev pub ghosts-threads_named : goal.ghosts-threads_named
ghosts-threads_named g a = record { of = a.ready.of }
