use Rattle.lt_call_tests.proofs.refusing.play_whole.Given as goal

-- the name of the book that was just opened
abbrev pub ghosts-whole_named : goal.ghosts-whole_named
ghosts-whole_named g a = record { of = a.ready.of }
