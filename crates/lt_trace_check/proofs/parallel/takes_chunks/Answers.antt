use Rattle.lt_trace_check.proofs.PieceJoins.{takes_chunk, takes_moved}
use Rattle.lt_trace_check.proofs.parallel.takes_chunks.Goals as goal

pub loop-preserved : goal.loop-preserved
loop-preserved g c =
    let source = g.R.Read.remaining c.args.reader.now in
    let mid = g.R.Read.remaining c.loop.reader in
    let now = g.R.Read.remaining c.read_chunk.new.reader in
    takes_moved source now c.args.checker.now c.loop.checker c.take_after.new.checker c.read_chunk.new.pending.items c.take_after.new.pending.items
    (takes_chunk source mid now c.args.checker.now c.loop.checker c.loop.pending.items c.read_chunk.new.pending.items c.in-Ok.n c.loop.invariant c.in-Ok.ensures.ok)
    c.in-Ok-take_after.ensures.ok
