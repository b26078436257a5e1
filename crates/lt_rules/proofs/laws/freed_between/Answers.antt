use Rattle.lt_rules.proofs.Between.{freed_between}
use Rattle.lt_rules.proofs.laws.freed_between.Goals as goal

pub returns : goal.returns
returns c = freed_between
