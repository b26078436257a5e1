use Rattle.lt_waking_tests.proofs.readers.wake_readers.Given as goal

-- the name of the book that was just opened
abbrev pub ghosts-readers_named : goal.ghosts-readers_named
ghosts-readers_named g a = record { of = a.ready.of }
