use Rattle.std.proofs.Common.{arith}
use Rattle.lt_handles.specs.Shapes.{raw_writer}
use Rattle.lt_handles.proofs.Copied.{written-more}
use Rattle.lt_c.proofs.lists.write_writers.Goals as goal

pub loop-i-preserved : goal.loop-i-preserved
loop-i-preserved c =
    written-more raw_writer c.args.writers.now c.args.array.now c.loop-i.array c.loop-i.i c.index-writers-i.result c.raw_writer.result
    (omega (arith, c.loop-i-test.true)) (omega (arith, c.loop-i-test.true, c.requires)) c.loop-i.invariant c.index-writers-i.is c.raw_writer.ensures
