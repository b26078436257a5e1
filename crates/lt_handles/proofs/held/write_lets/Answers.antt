use Rattle.std.proofs.Common.{arith}
use Rattle.lt_handles.specs.Shapes.{raw_let}
use Rattle.lt_handles.proofs.Copied.{written-more}
use Rattle.lt_handles.proofs.held.write_lets.Goals as goal

pub loop-i-preserved : goal.loop-i-preserved
loop-i-preserved c =
    written-more raw_let c.args.lets.now c.args.array.now c.loop-i.array c.loop-i.i c.index-lets-i.result c.raw_let.result
    (omega (arith, c.loop-i-test.true)) (omega (arith, c.loop-i-test.true, c.requires)) c.loop-i.invariant c.index-lets-i.is c.raw_let.ensures
