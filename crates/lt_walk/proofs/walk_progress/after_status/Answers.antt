use Rattle.std.proofs.Common.{rules}
use Rattle.lt_walk.proofs.walk_progress.after_status.Goals as goal

pub returns-then-word-value : goal.returns-then-word-value
returns-then-word-value c = search rules
