use Rattle.std.proofs.Common.{arith}
use Rattle.lt_handles.specs.Shapes.{raw_reader}
use Rattle.lt_handles.proofs.Copied.{written-more}
use Rattle.lt_c.proofs.lists.write_readers.Goals as goal

pub loop-i-preserved : goal.loop-i-preserved
loop-i-preserved c =
    written-more raw_reader c.args.readers.now c.args.array.now c.loop-i.array c.loop-i.i c.index-readers-i.result c.raw_reader.result
    (omega (arith, c.loop-i-test.true)) (omega (arith, c.loop-i-test.true, c.requires)) c.loop-i.invariant c.index-readers-i.is c.raw_reader.ensures
