use Rattle.std.proofs.Common.{◌<◌, length, drop, arith, length-drop}
use Rattle.lt_trace_show.proofs.Fitted.{cut_wide}
use Rattle.lt_trace_show.proofs.cell.cut.Goals as goal

pub returns : goal.returns
returns c =
    let line = c.args.line.now.items in
    let wide : c.args.width < length (drop c.args.start line) = omega (arith, length-drop c.args.start line) in
    let cut = cut_wide line c.args.start c.args.width wide in
    rw (c.in_ok-push.ensures.items, c.truncate.ensures.items) cut
