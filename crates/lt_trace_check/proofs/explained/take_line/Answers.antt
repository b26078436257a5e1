use Rattle.lt_trace_check.proofs.Streams.{takes_next, refuses_next}
use Rattle.lt_trace_check.proofs.explained.take_line.Goals as goal

pub returns-clause-ok : goal.returns-clause-ok
returns-clause-ok g c =
    takes_next (g.R.Read.remaining c.args.reader.now) (g.R.Read.remaining c.read_next.new.reader) c.args.checker.now c.check_line.new.checker c.args.pending.now.items c.read_next.new.pending.items c.check_line.new.pending.items
    c.in_ok-read_next.ensures.ok.0 c.check_line.result c.in_ok-read_next.ensures.ok.1 c.check_line.ensures.ok

pub returns-clause-err : goal.returns-clause-err
returns-clause-err g c =
    refuses_next (g.R.Read.remaining c.args.reader.now) (g.R.Read.remaining c.read_next.new.reader) c.args.checker.now c.args.pending.now.items c.read_next.new.pending.items
    c.in_ok-read_next.ensures.ok.0 c.check_line.result c.in_ok-read_next.ensures.ok.1 c.check_line.ensures.err
