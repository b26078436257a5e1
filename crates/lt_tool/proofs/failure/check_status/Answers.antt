use Rattle.std.proofs.Common.{rules}
use Rattle.lt_tool.proofs.failure.check_status.Goals as goal

pub returns-in-Check-Refused : goal.returns-in-Check-Refused
returns-in-Check-Refused c = search rules
