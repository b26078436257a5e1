use Rattle.lt_call_tests.proofs.keeping.keep.Given as goal

-- the name of the book that was just opened
abbrev pub ghosts-keep_named : goal.ghosts-keep_named
ghosts-keep_named g a = record { of = a.ready.of }
