use Rattle.lt_rules.proofs.Holders.{reads_pass}
use Rattle.lt_rules.proofs.laws.reads_pass.Goals as goal

pub returns : goal.returns
returns c = reads_pass
