use Rattle.std.specs.Arc.{arc_value}
use Rattle.example_store_tests.proofs.turns.run.Given as goal

-- the names of the book and of the log of values that were just opened
abbrev pub ghosts-play-N-Name : goal.ghosts-play-N-Name
ghosts-play-N-Name g a = record { of = a.ready.of }

abbrev pub ghosts-play-N-ValueName : goal.ghosts-play-N-ValueName
ghosts-play-N-ValueName g a = record { values = arc_value a.values }
