use Rattle.std.proofs.Common.{◌-◌, vec_len}
use Rattle.std.specs.Io.KnownBytes.{Consumes}
use Rattle.lt_trace_check.proofs.stream.read_beginning.Given as goal

abbrev pub invariant-loop-reader : goal.invariant-loop-reader
invariant-loop-reader g l = Consumes (g.R.Read.remaining l.fn.reader) (g.R.Read.remaining l.reader) l.pending.items

abbrev pub decreases-loop-reader : goal.decreases-loop-reader
decreases-loop-reader g l = 8 - vec_len l.pending
