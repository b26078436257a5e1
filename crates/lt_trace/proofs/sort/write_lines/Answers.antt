use Rattle.std.proofs.Common.{◌≡◌, ◌+◌, ◌++◌, List, ◌∷◌, drop, arith}
use Rattle.lt_trace.specs.declared.line.TraceLine.{TraceLine}
use Rattle.lt_trace.specs.Sorting.{counted, page_lines}
use Rattle.lt_trace.proofs.SortLaws.{drop_line, line_written, line_counted}
use Rattle.lt_trace.proofs.sort.write_lines.Goals as goal

pub loop-line-preserved : goal.loop-line-preserved
loop-line-preserved g c =
    let lines = c.args.lines.now in
    let i = c.loop-line.line-index in
    let next = drop_line lines i (i + 1) c.line-item.result c.loop-line-test.true c.line-item.is (omega arith) in
    record {
      written = line_written (g.W.Write.contents c.args.writer.now) (g.W.Write.contents c.loop-line.writer) (g.W.Write.contents c.write_if_full.new.writer)
          (c.args.page.now.bytes.items ++ page_lines c.args.page.now.counter lines) c.loop-line.page c.put.new.self c.write_if_full.new.self c.line-item.result
          (drop i lines) (drop (i + 1) lines) next c.loop-line.invariant.written
          c.in_ok-put.ensures.plain c.in_ok-put.ensures.numbered c.in_ok-write_if_full.ensures.written c.write_if_full.ensures.counter;
      counts = line_counted (counted c.args.page.now.counter lines) c.loop-line.page c.put.new.self c.write_if_full.new.self c.line-item.result
          (drop i lines) (drop (i + 1) lines) next c.loop-line.invariant.counts c.in_ok-put.ensures.numbered c.write_if_full.ensures.counter;
    }
