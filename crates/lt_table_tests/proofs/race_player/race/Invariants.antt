use Rattle.lt_table_tests.proofs.race_player.race.Given as goal

-- the name of the book that was just opened
abbrev pub ghosts-race_named : goal.ghosts-race_named
ghosts-race_named g a = record { of = a.ready.of }
