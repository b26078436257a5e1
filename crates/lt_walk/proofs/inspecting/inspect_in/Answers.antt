use Rattle.lt_walk.proofs.Waits.{sees_let}
use Rattle.lt_walk.specs.Reported.{current_wait}
use Rattle.lt_walk.proofs.inspecting.inspect_in.Goals as goal

pub invariant_of-guard : goal.invariant_of-guard
invariant_of-guard g c = λ e. sees_let c.guard.inside.pass c.inspect.new.pass (current_wait c.guard.inside.walk) c.inspect.ensures.more (c.guard.invariant e)
