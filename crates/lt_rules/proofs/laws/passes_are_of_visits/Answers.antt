use Rattle.lt_rules.proofs.Passes.{passes_are_of_visits}
use Rattle.lt_rules.proofs.laws.passes_are_of_visits.Goals as goal

pub returns : goal.returns
returns c = passes_are_of_visits
