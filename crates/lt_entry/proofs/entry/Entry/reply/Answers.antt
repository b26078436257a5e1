use Rattle.std.proofs.Common.{rules}
use Rattle.lt_entry.proofs.entry.Entry.reply.Goals as goal

pub returns-in-WaitFirst : goal.returns-in-WaitFirst
returns-in-WaitFirst c = search rules
