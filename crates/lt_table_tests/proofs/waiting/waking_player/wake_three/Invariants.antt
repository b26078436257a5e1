use Rattle.lt_table_tests.proofs.waiting.waking_player.wake_three.Given as goal

-- the name of the book that was just opened
abbrev pub ghosts-wake_named : goal.ghosts-wake_named
ghosts-wake_named g a = record { of = a.ready.of }
