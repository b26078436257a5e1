use Rattle.lt_checker.proofs.LineLaws.{read_is_line}
use Rattle.lt_checker.proofs.line.read_line.Goals as goal

pub returns-clause-line : goal.returns-clause-line
returns-clause-line c = read_is_line c.args.bytes.now c.read_parts.result (rw c.new.ensures at c.read_parts.ensures)
