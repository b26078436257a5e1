use Rattle.lt_walk.proofs.Lives.{each_step_is_reported_once}
use Rattle.lt_walk.proofs.laws.each_step_is_reported_once.Goals as goal

pub returns : goal.returns
returns c = each_step_is_reported_once
