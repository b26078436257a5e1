use Rattle.lt_runner.proofs.whole.run.Given as goal

-- The name of the book that was just opened.
abbrev pub ghosts-run_named : goal.ghosts-run_named
ghosts-run_named g a = record { of = a.ready.of }
