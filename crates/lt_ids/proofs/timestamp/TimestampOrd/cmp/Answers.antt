use Rattle.std.proofs.Common.{rules}
use Rattle.lt_ids.proofs.timestamp.TimestampOrd.cmp.Goals as goal

pub returns : goal.returns
returns c = search rules
