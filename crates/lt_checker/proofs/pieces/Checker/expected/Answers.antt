use Rattle.lt_checker.specs.Cursor.{spot}
use Rattle.lt_checker.specs.Lines.{parts_of}
use Rattle.lt_checker.proofs.PieceLaws.{refused_comes_not}
use Rattle.lt_checker.proofs.pieces.Checker.expected.Goals as goal

pub returns-clause-next : goal.returns-clause-next
returns-clause-next c =
    refused_comes_not c.args.self.report.version (spot c.args.self.cursor) c.args.bytes.now (parts_of c.in_ok-line.line) c.expect.result c.in_ok-line.ensures.line c.in_ok-line.ensures.text c.expect.ensures.next
