use Rattle.lt_table_tests.proofs.waiting.queue_player.take_turns.Given as goal

-- the name of the book that was just opened
abbrev pub ghosts-turns_named : goal.ghosts-turns_named
ghosts-turns_named g a = record { of = a.ready.of }
