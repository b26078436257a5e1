use Rattle.lt_rules.specs.Rules.{empty}
use Rattle.lt_rules.proofs.Holders.{history_tells}
use Rattle.lt_rules.proofs.laws.record_names_holder.Goals as goal

pub returns : goal.returns
returns c = λ past rest T legal. history_tells T empty past rest legal
