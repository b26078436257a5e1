use Rattle.std.proofs.lemmas.Grind.{common_steps}
use Rattle.std.proofs.Common.{arith, rules}
use Rattle.lt_script.proofs.read.read_script.Goals as goal

pub loop-bytes-preserved : goal.loop-bytes-preserved
loop-bytes-preserved c = grind (arith, common_steps)

pub loop-bytes-init : goal.loop-bytes-init
loop-bytes-init c = search rules
