use Rattle.lt_theorem_tests.proofs.tests.run.Given as goal

-- the name of the book that was just opened
abbrev pub ghosts-run_named : goal.ghosts-run_named
ghosts-run_named g a = record { of = a.ready.of }
