use Rattle.lt_call_tests.proofs.playing.plays.Given as goal

-- the name of the book that was just opened
abbrev pub ghosts-play_named : goal.ghosts-play_named
ghosts-play_named g a = record { of = a.ready.of }
