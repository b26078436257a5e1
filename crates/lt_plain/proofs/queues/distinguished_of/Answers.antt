use Rattle.std.proofs.Common.{rules}
use Rattle.lt_plain.proofs.queues.distinguished_of.Goals as goal

pub returns : goal.returns
returns c = search rules
