use Rattle.std.proofs.Common.{rules}
use Rattle.lt_ids.proofs.key.Bytes.copy.Goals as goal

pub returns-in-Short-clause-short : goal.returns-in-Short-clause-short
returns-in-Short-clause-short c = search rules
