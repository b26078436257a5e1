use Rattle.std.proofs.Common.{◌≡◌, ◌++◌, drop}
use Rattle.lt_trace.specs.Page.{WritesFront}
use Rattle.lt_trace.specs.Sorting.{counted, page_lines}
use Rattle.lt_trace.proofs.sort.write_lines.Given as goal

abbrev pub invariant-loop-line : goal.invariant-loop-line
invariant-loop-line g l = record {
  written : WritesFront (g.W.Write.contents l.fn.writer) (g.W.Write.contents l.writer) (l.fn.page.bytes.items ++ page_lines l.fn.page.counter l.lines)
      (l.page.bytes.items ++ page_lines l.page.counter (drop l.line-index l.lines));
  counts : counted l.page.counter (drop l.line-index l.lines) ≡ counted l.fn.page.counter l.lines;
}
