use Rattle.lt_memory_tests.proofs.counting.run_in_room.Given as goal

-- the name of the book that was just opened
abbrev pub ghosts-make_in_room : goal.ghosts-make_in_room
ghosts-make_in_room g a = record { of = a.ready.of }
