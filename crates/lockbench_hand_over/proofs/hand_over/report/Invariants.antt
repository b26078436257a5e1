use Rattle.lockbench_hand_over.proofs.hand_over.report.Given as goal

-- Instantiates the name with the book that was prepared for this load.
abbrev pub ghosts-play : goal.ghosts-play
ghosts-play g a = record { of = a.ready.of }
