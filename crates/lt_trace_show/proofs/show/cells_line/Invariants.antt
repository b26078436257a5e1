use Rattle.std.proofs.Common.{◌≡◌, All, take}
use Rattle.std.specs.Prelude.{sum, vec_len}
use Rattle.lt_trace_show.specs.Escape.{IsPrintable}
use Rattle.lt_trace_show.proofs.show.cells_line.Given as goal

abbrev pub invariant-loop-column : goal.invariant-loop-column
invariant-loop-column l = record {
  width : vec_len l.line ≡ sum (take l.column l.widths);
  printable : All IsPrintable l.line.items;
}
