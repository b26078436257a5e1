use Rattle.std.proofs.Common.{rules}
use Rattle.lt_checker.specs.Lines.{parts_of}
use Rattle.lt_checker.specs.Cursor.{spot}
use Rattle.lt_checker.proofs.PieceLaws.{takes_read, refuses_read}
use Rattle.lt_checker.proofs.pieces.Checker.follow_line.Goals as goal

pub returns-in_err-take_parts-clause-err : goal.returns-in_err-take_parts-clause-err
returns-in_err-take_parts-clause-err c =
    let faulty = refuses_read c.args.self.now.report.version (spot c.args.self.now.cursor) c.args.bytes.now (parts_of c.in_ok-line.line) c.as_bytes.result.now c.deref.result.now c.in_err-take_parts.field-0.0 c.as_bytes.ensures.bytes c.deref.ensures.value c.in_ok-line.ensures.line c.in_ok-line.ensures.text c.in_err-take_parts.ensures.err in
    search rules

pub returns-clause-ok : goal.returns-clause-ok
returns-clause-ok c =
    takes_read c.args.self.now c.take_parts.new.self c.args.bytes.now (parts_of c.in_ok-line.line) c.as_bytes.result.now c.deref.result.now c.as_bytes.ensures.bytes c.deref.ensures.value c.in_ok-line.ensures.line c.in_ok-line.ensures.text c.in_ok-take_parts.ensures.ok
