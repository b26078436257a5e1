use Rattle.lt_rules.proofs.Writes.{writes_pass}
use Rattle.lt_rules.proofs.laws.writes_pass.Goals as goal

pub returns : goal.returns
returns c = writes_pass
