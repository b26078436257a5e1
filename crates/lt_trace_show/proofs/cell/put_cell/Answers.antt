use Rattle.std.proofs.lemmas.List.Elements.{All-append}
use Rattle.lt_trace_show.specs.Escape.{IsPrintable}
use Rattle.lt_trace_show.specs.Cells.{cell_of}
use Rattle.lt_trace_show.proofs.Fitted.{printable_cell}
use Rattle.lt_trace_show.proofs.cell.put_cell.Goals as goal

pub returns-clause-printable : goal.returns-clause-printable
returns-clause-printable c = λ old_printable.
    let line = c.args.line.now.items in
    let cell = cell_of c.args.width c.args.text.now in
    rw c.in_ok-put_fitted.ensures.cell (All-append IsPrintable line cell old_printable (printable_cell c.args.width c.args.text.now))
