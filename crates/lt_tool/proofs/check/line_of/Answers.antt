use Rattle.std.proofs.lemmas.Grind.{common_steps}
use Rattle.std.proofs.Common.{arith}
use Rattle.lt_tool.proofs.check.line_of.Goals as goal

pub returns : goal.returns
returns c = grind (arith, common_steps)
