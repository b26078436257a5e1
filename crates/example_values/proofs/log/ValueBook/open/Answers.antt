use Rattle.example_values.proofs.Moving.{opens}
use Rattle.example_values.proofs.log.ValueBook.open.Goals as goal

pub open_row-seen-requires : goal.open_row-seen-requires
open_row-seen-requires c = (opens, λ xs. tt, c.alone.ensures.1)
