use Rattle.lockbench_load.proofs.load.report.Given as goal

-- Instantiates the name with the book that was prepared for this load.
abbrev pub ghosts-play : goal.ghosts-play
ghosts-play g a = record { of = a.ready.of }
