use Rattle.std.proofs.Common.{rules}
use Rattle.lt_trace_check.proofs.Streams.{first_line}
use Rattle.lt_trace_check.proofs.explained.read_first_line.Goals as goal

pub returns-clause-ok : goal.returns-clause-ok
returns-clause-ok g c =
    first_line (g.R.Read.remaining c.args.reader.now) (g.R.Read.remaining c.read_line.new.reader) _ _ _ c.in_ok-read_line.ensures.ok (search rules) c.in_ok-read_line.ensures.stops
