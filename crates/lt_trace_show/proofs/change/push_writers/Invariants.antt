use Rattle.std.proofs.Common.{◌≡◌, ◌++◌, take}
use Rattle.std.specs.Prelude.{map}
use Rattle.lt_rules.specs.Rules.{writer_number}
use Rattle.lt_trace_show.proofs.change.push_writers.Given as goal

abbrev pub invariant-loop-writer : goal.invariant-loop-writer
invariant-loop-writer l = l.numbers.items ≡ l.initial.numbers.items ++ map writer_number (take l.writer-index l.writers)
