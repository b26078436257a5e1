use Rattle.lt_table_tests.proofs.waiting.lent_player.lend_to_two.Given as goal

-- the name of the book that was just opened
abbrev pub ghosts-serve : goal.ghosts-serve
ghosts-serve g a = record { of = a.ready.of }
