use Rattle.std.proofs.Common.{rules}
use Rattle.lt_tool.proofs.script.unscripted.Goals as goal

pub returns-in-Fault : goal.returns-in-Fault
returns-in-Fault c = search rules
