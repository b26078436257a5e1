use Rattle.std.specs.Io.KnownBytes.{Keeps}
use Rattle.lt_trace_check.proofs.chunks.read_once.Given as goal

abbrev pub invariant-loop : goal.invariant-loop
invariant-loop g l = Keeps (g.R.Read.remaining l.fn.reader) (g.R.Read.remaining l.reader)
