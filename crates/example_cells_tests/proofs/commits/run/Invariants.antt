use Rattle.std.specs.Arc.{arc_value}
use Rattle.example_cells_tests.proofs.commits.run.Given as goal

-- the names of the book and of the log of values that were just opened
abbrev pub ghosts-play_all-N-Name : goal.ghosts-play_all-N-Name
ghosts-play_all-N-Name g a = record { of = a.ready.of }

abbrev pub ghosts-play_all-N-ValueName : goal.ghosts-play_all-N-ValueName
ghosts-play_all-N-ValueName g a = record { values = arc_value a.book }
