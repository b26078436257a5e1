use Rattle.std.proofs.Common.{rules}
use Rattle.lt_rules.proofs.look.waits_behind.Goals as goal

pub returns-in-Some : goal.returns-in-Some
returns-in-Some c = search rules
