use Rattle.std.proofs.Common.{length}
use Rattle.lt_ids.proofs.Padded.{zeros_dropped, dropped_front}
use Rattle.lt_ids.proofs.key.cells_of_64.Goals as goal

pub returns-clause-padded : goal.returns-clause-padded
returns-clause-padded c = rw (c.copy_from_slice.ensures.after, dropped_front c.args.bytes.now _) (zeros_dropped 64 (length c.args.bytes.now))
