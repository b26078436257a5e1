use Rattle.lt_table_tests.proofs.waiting.timed_player.wait_twice.Given as goal

-- the name of the book that was just opened
abbrev pub ghosts-timed_named : goal.ghosts-timed_named
ghosts-timed_named g a = record { of = a.ready.of }
