use Rattle.std.proofs.Common.{◌≡◌}
use Rattle.std.specs.List.{All}
use Rattle.lt_test_kit.proofs.run.gather.Given as goal

abbrev pub invariant-loop-seat : goal.invariant-loop-seat
invariant-loop-seat g l = record {
  passes : All (λ p. p.of ≡ g.N.Name.of) l.passes.items;
  guards : All (λ x. x.pass.of ≡ g.N.Name.of) l.guards.items;
}
