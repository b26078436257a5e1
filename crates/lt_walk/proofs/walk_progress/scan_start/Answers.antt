use Rattle.std.proofs.Common.{rules}
use Rattle.lt_walk.proofs.walk_progress.scan_start.Goals as goal

pub returns-in-Let : goal.returns-in-Let
returns-in-Let c = search rules
