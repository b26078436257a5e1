use Rattle.std.specs.Arc.{arc_value}
use Rattle.example_bank.proofs.run_plan.Given as goal

-- Instantiates the names with the book and the log of values that were opened for this run.
abbrev pub ghosts-serve-N-Name : goal.ghosts-serve-N-Name
ghosts-serve-N-Name g a = record { of = a.ready.of }

abbrev pub ghosts-serve-N-ValueName : goal.ghosts-serve-N-ValueName
ghosts-serve-N-ValueName g a = record { values = arc_value a.values }
