use Rattle.std.proofs.Common.{ℕ, List, subst, rules}
use Rattle.std.specs.Io.KnownBytes.{Consumes}
use Rattle.lt_trace_check.proofs.Streams.{consumes_nothing}
use Rattle.lt_trace_check.proofs.stream.read_beginning.Goals as goal

pub loop-reader-init : goal.loop-reader-init
loop-reader-init g c =
    let source = g.R.Read.remaining c.args.reader.now in
    subst (λ (t : List ℕ). Consumes source source t) (search rules) (consumes_nothing source)
