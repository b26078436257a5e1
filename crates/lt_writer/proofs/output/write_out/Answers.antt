use Rattle.std.proofs.Common.{rules}
use Rattle.lt_writer.proofs.output.write_out.Goals as goal

pub returns-in_default-clause-ok : goal.returns-in_default-clause-ok
returns-in_default-clause-ok c = search rules
