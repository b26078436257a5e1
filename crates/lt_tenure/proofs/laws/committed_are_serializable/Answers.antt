use Rattle.lt_tenure.proofs.Ordered.{committed_are_serializable}
use Rattle.lt_tenure.proofs.laws.committed_are_serializable.Goals as goal

pub returns : goal.returns
returns c = committed_are_serializable c.parts_begin.ensures c.steps_stay.ensures
