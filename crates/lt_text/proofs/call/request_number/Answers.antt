use Rattle.std.proofs.Common.{rules}
use Rattle.lt_text.proofs.call.request_number.Goals as goal

pub returns : goal.returns
returns c = search rules
