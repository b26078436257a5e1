use Rattle.lockbench_soak.proofs.soak.round.Given as goal

-- Instantiates the name with the book that was prepared for this round.
abbrev pub ghosts-play_named : goal.ghosts-play_named
ghosts-play_named g a = record { of = a.ready.of }
