use Rattle.std.proofs.Common.{rules}
use Rattle.lt_trace_check.proofs.Streams.{moves_pending, reads_line, refused_pending, rest_accepted, rest_refused}
use Rattle.lt_trace_check.proofs.stream.check_rest.Goals as goal

pub returns-then-n-eq0-clause-ok : goal.returns-then-n-eq0-clause-ok
returns-then-n-eq0-clause-ok g c =
    rest_accepted (g.R.Read.remaining c.args.reader.now) (g.R.Read.remaining c.loop.reader) (g.R.Read.remaining c.read_chunk.new.reader) c.args.checker c.loop.checker c.args.pending.items c.loop.pending.items c.read_chunk.new.pending.items c.deref.result.now
    c.in_ok-n.n c.end.result c.loop.invariant c.in_ok-n.ensures.ok c.if-n-eq0.true c.deref.ensures.value c.end.ensures.ok

pub returns-then-n-eq0-clause-err : goal.returns-then-n-eq0-clause-err
returns-then-n-eq0-clause-err g c =
    rest_refused (g.R.Read.remaining c.args.reader.now) (g.R.Read.remaining c.loop.reader) (g.R.Read.remaining c.read_chunk.new.reader) c.args.checker c.loop.checker c.args.pending.items c.loop.pending.items c.read_chunk.new.pending.items c.deref.result.now
    c.in_ok-n.n c.end.result c.loop.invariant c.in_ok-n.ensures.ok c.if-n-eq0.true c.deref.ensures.value c.end.ensures.err

pub returns-in-Err-clause-err : goal.returns-in-Err-clause-err
returns-in-Err-clause-err g c = λ source h.
    refused_pending source (g.R.Read.remaining c.read_chunk.new.reader) c.loop.checker c.read_chunk.new.pending.items c.in-Err.error
    (reads_line source (g.R.Read.remaining c.loop.reader) (g.R.Read.remaining c.read_chunk.new.reader) c.loop.checker c.loop.pending.items c.read_chunk.new.pending.items c.in_ok-n.n (c.loop.invariant source h) c.in_ok-n.ensures.ok)
    c.in-Err.ensures.err

pub loop-preserved : goal.loop-preserved
loop-preserved g c = λ source h.
    moves_pending source (g.R.Read.remaining c.read_chunk.new.reader) c.loop.checker c.take_after.new.checker c.read_chunk.new.pending.items c.take_after.new.pending.items
    (reads_line source (g.R.Read.remaining c.loop.reader) (g.R.Read.remaining c.read_chunk.new.reader) c.loop.checker c.loop.pending.items c.read_chunk.new.pending.items c.in_ok-n.n (c.loop.invariant source h) c.in_ok-n.ensures.ok)
    (search rules)
