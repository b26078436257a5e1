use Rattle.lt_tool.proofs.Tells.{tells_all}
use Rattle.lt_tool.proofs.laws.output_tells.Goals as goal

pub returns : goal.returns
returns c = tells_all
