use Rattle.lt_table_tests.proofs.stream_player.stream_work.Given as goal

-- the name of the book that was just opened
abbrev pub ghosts-stream_named : goal.ghosts-stream_named
ghosts-stream_named g a = record { of = a.ready.of }
