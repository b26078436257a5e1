use Rattle.std.proofs.Common.{rules}
use Rattle.lt_checker.proofs.cursor.is_same_reply.Goals as goal

pub returns : goal.returns
returns c = search rules
