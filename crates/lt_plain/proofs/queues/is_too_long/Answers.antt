use Rattle.std.proofs.Common.{rules}
use Rattle.lt_plain.proofs.queues.is_too_long.Goals as goal

pub returns-then-longest-writers : goal.returns-then-longest-writers
returns-then-longest-writers c = search rules
