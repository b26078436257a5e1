use Rattle.std.proofs.Common.{rules}
use Rattle.lt_entry.proofs.entry.Entry.call.Goals as goal

pub returns-in-Leave : goal.returns-in-Leave
returns-in-Leave c = search rules
