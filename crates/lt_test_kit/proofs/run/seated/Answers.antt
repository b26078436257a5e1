use Rattle.std.proofs.Common.{◌≡◌, rules}
use Rattle.std.specs.Vec.Iter.{into_iter_items}
use Rattle.lt_test_kit.proofs.Lists.{all_later}
use Rattle.lt_test_kit.proofs.run.seated.Goals as goal

pub loop-pass-preserved : goal.loop-pass-preserved
loop-pass-preserved g c = (search rules, all_later (λ p. p.of ≡ g.N.Name.of) c.in-Some.pass (into_iter_items c.next.new.self) (into_iter_items c.loop-pass.rest) (search rules) c.loop-pass.invariant.1)
