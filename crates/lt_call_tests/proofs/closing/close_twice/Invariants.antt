use Rattle.lt_call_tests.proofs.closing.close_twice.Given as goal

-- the name of the book that was just opened
abbrev pub ghosts-close_twice_named : goal.ghosts-close_twice_named
ghosts-close_twice_named g a = record { of = a.ready.of }
