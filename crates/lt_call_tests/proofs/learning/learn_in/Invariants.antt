use Rattle.lt_call_tests.proofs.learning.learn_in.Given as goal

-- the name of the book that was just opened
abbrev pub ghosts-learn_named : goal.ghosts-learn_named
ghosts-learn_named g a = record { of = a.ready.of }
