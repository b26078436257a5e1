use Rattle.std.proofs.Common.{rules}
use Rattle.lt_walk.proofs.Ends.{less_one, on_none, more_tallied_alone}
use Rattle.lt_walk.proofs.closing.without_passes.Goals as goal

pub loop-pass-preserved : goal.loop-pass-preserved
loop-pass-preserved c =
    less_one (λ p. p) c.args.which c.args.index c.args.passes.now c.loop-pass.pass-index c.pass-item.result c.loop-pass.left c.in_ok-left.left c.args.steps c.loop-pass.invariant c.loop-pass-test.true c.pass-item.is (search rules)

pub returns-in_err-left-clause-none : goal.returns-in_err-left-clause-none
returns-in_err-left-clause-none c =
    on_none c.from_residual.result _ (more_tallied_alone c.args.which c.args.index c.args.passes.now c.loop-pass.pass-index c.pass-item.result c.loop-pass.left c.args.steps c.loop-pass.invariant c.loop-pass-test.true c.pass-item.is (search rules))
