use Rattle.lt_trace_check.proofs.Streams.{line_stops}
use Rattle.lt_trace_check.proofs.stream.read_line.Goals as goal

pub returns-in-Ok-clause-stops : goal.returns-in-Ok-clause-stops
returns-in-Ok-clause-stops g c =
    line_stops (g.R.Read.remaining c.args.reader.now) (g.R.Read.remaining c.read_until.new.self) c.args.pending.now.items c.read_until.new.buf.items c.in-Ok.ensures.bytes c.in-Ok.ensures.rest
