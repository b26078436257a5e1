use Rattle.std.specs.Arc.{arc_value}
use Rattle.example_store_tests.proofs.waits.run.Given as goal

-- the names of the book and of the log of values that were just opened
abbrev pub ghosts-on_two-N-Name : goal.ghosts-on_two-N-Name
ghosts-on_two-N-Name g a = record { of = a.ready.of }

abbrev pub ghosts-on_two-N-ValueName : goal.ghosts-on_two-N-ValueName
ghosts-on_two-N-ValueName g a = record { values = arc_value a.values }
