use Rattle.std.proofs.Common.{◌+◌, refl}
use Rattle.lt_words.proofs.Rows.{opens}
use Rattle.lt_words.proofs.book.open_row.Goals as goal

pub open_row-start-requires : goal.open_row-start-requires
open_row-start-requires c = (opens c.args.shards c.args.passes c.args.keeping (c.args.passes + 129) refl, λ xs. tt, c.alone.ensures.1)
