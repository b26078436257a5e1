use Rattle.lt_table_tests.proofs.waiting.handing_player.hand_over.Given as goal

-- the name of the book that was just opened
abbrev pub ghosts-hand_named : goal.ghosts-hand_named
ghosts-hand_named g a = record { of = a.ready.of }
