use Rattle.std.proofs.Common.{◌≡◌, ◌+◌, take, map}
use Rattle.lt_walk.specs.Closed.{tallied_at}
use Rattle.lt_walk.proofs.closing.without_guards.Given as goal

abbrev pub invariant-loop-guard : goal.invariant-loop-guard
invariant-loop-guard l = l.left + tallied_at l.which l.index (map (λ g. g.pass) (take l.guard-index l.guards)) ≡ l.steps
