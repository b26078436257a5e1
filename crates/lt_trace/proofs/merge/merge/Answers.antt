use Rattle.lt_trace.proofs.SortLaws.{all_taken}
use Rattle.lt_trace.proofs.merge.merge.Goals as goal

pub returns-in_default-clause-written : goal.returns-in_default-clause-written
returns-in_default-clause-written g c = all_taken c.write.result (g.W.Write.contents c.args.writer.now) (g.W.Write.contents c.loop.writer) (g.W.Write.contents c.write.new.writer) c.args.page.now c.loop.page c.write.new.self c.loop.invariant c.write.ensures.written c.write.ensures.counter
