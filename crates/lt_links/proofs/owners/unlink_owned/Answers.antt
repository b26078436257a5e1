use Rattle.std.proofs.Common.{rules}
use Rattle.lt_links.proofs.owners.unlink_owned.Goals as goal

pub returns-then-is_none-2 : goal.returns-then-is_none-2
returns-then-is_none-2 c = search rules
