use Rattle.std.proofs.Common.{arith}
use Rattle.lt_handles.specs.Shapes.{raw_key_name}
use Rattle.lt_handles.proofs.Copied.{written-more}
use Rattle.lt_c.proofs.lists.write_keys.Goals as goal

pub loop-i-preserved : goal.loop-i-preserved
loop-i-preserved c =
    written-more raw_key_name c.args.keys.now c.args.array.now c.loop-i.array c.loop-i.i c.index-keys-i.result c.raw_key_name.result
    (omega (arith, c.loop-i-test.true)) (omega (arith, c.loop-i-test.true, c.requires)) c.loop-i.invariant c.index-keys-i.is c.raw_key_name.ensures
