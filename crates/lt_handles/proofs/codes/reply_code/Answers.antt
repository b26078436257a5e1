use Rattle.std.proofs.Common.{rules}
use Rattle.lt_handles.proofs.codes.reply_code.Goals as goal

pub returns-in-Kept-clause-code : goal.returns-in-Kept-clause-code
returns-in-Kept-clause-code c = search rules
