use Rattle.std.proofs.Common.{◌≡◌, ◌+◌, take, map}
use Rattle.lt_walk.specs.Closed.{tallied_at}
use Rattle.lt_walk.proofs.closing.without_passes.Given as goal

abbrev pub invariant-loop-pass : goal.invariant-loop-pass
invariant-loop-pass l = l.left + tallied_at l.which l.index (map (λ p. p) (take l.pass-index l.passes)) ≡ l.steps
