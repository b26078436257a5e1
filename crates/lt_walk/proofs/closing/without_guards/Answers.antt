use Rattle.std.proofs.Common.{rules}
use Rattle.lt_walk.proofs.Ends.{less_one, on_none, more_tallied}
use Rattle.lt_walk.proofs.closing.without_guards.Goals as goal

pub loop-guard-preserved : goal.loop-guard-preserved
loop-guard-preserved c =
    less_one (λ g. g.pass) c.args.which c.args.index c.args.guards.now c.loop-guard.guard-index c.guard-item.result c.loop-guard.left c.in_ok-left.left c.args.steps c.loop-guard.invariant c.loop-guard-test.true c.guard-item.is (search rules)

pub returns-in_err-left-clause-none : goal.returns-in_err-left-clause-none
returns-in_err-left-clause-none c =
    on_none c.from_residual.result _ (more_tallied (λ g. g.pass) c.args.which c.args.index c.args.guards.now c.loop-guard.guard-index c.guard-item.result c.loop-guard.left c.args.steps c.loop-guard.invariant c.loop-guard-test.true c.guard-item.is (search rules))
