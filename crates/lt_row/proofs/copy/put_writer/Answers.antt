use Rattle.std.proofs.Common.{rules}
use Rattle.lt_row.proofs.copy.put_writer.Goals as goal

pub returns : goal.returns
returns c = search rules
