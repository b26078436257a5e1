use Rattle.std.proofs.Common.{rules}
use Rattle.lt_walk.proofs.walk_progress.may_visit.Goals as goal

pub returns-then-progress-keys : goal.returns-then-progress-keys
returns-then-progress-keys c = search rules
