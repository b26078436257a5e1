use Rattle.example_values.proofs.Moving.{stay}
use Rattle.example_values.proofs.log.entries_stay.Goals as goal

pub returns : goal.returns
returns c = stay
