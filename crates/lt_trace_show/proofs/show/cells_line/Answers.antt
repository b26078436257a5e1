use Rattle.std.proofs.Common.{◌<◌, ◌+◌, List, ℕ, length, get_or, sym, ap, ◌∙◌, arith}
use Rattle.std.proofs.lemmas.List.Sums.{sum_by_more}
use Rattle.lt_trace_show.proofs.show.cells_line.Goals as goal

pub loop-column-preserved : goal.loop-column-preserved
loop-column-preserved c =
    let widths : List ℕ = c.widths-widths.result in
    let column = c.loop-column.column in
    let inside : column < length widths = omega (arith, c.loop-column-test.true) in
    record {
      width = c.in_ok-put_cell.ensures.len ∙ ap (λ n. n + get_or widths column 0) c.loop-column.invariant.width ∙ sym (sum_by_more (λ x. x) widths column 0 inside);
      printable = c.in_ok-put_cell.ensures.printable c.loop-column.invariant.printable;
    }
