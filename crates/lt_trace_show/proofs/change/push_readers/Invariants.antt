use Rattle.std.proofs.Common.{◌≡◌, ◌++◌, take}
use Rattle.std.specs.Prelude.{map}
use Rattle.lt_rules.specs.Rules.{number_of}
use Rattle.lt_trace_show.proofs.change.push_readers.Given as goal

abbrev pub invariant-loop-reader : goal.invariant-loop-reader
invariant-loop-reader l = l.numbers.items ≡ l.initial.numbers.items ++ map number_of (take l.reader-index l.readers)
