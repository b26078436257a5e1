use Rattle.std.proofs.Common.{◌≡◌, rules}
use Rattle.lt_test_kit.proofs.Lists.{all_with}
use Rattle.lt_test_kit.proofs.run.put.Goals as goal

pub returns-in-Open-clause-guards : goal.returns-in-Open-clause-guards
returns-in-Open-clause-guards g c = λ yes. all_with (λ x. x.pass.of ≡ g.N.Name.of) c.args.guards.now.items c.put_guard.new.guards.items c.in-Open.guard (c.put_guard.ensures yes) c.requires.guards (search rules)
