use Rattle.std.proofs.Common.{◌≡◌, [], None, Some, arith, rules}
use Rattle.lt_trace.specs.Sorting.{TakesInputLine}
use Rattle.lt_trace.proofs.SortLaws.{skips_line, keeps_line}
use Rattle.lt_trace.proofs.sort.collect.Goals.{in-Some-None, in-Some-Some+in_ok-keep-in-Some-Some}
use Rattle.lt_trace.proofs.sort.collect.Goals as goal

pub loop-number-preserved : goal.loop-number-preserved
loop-number-preserved g c =
    let form = c.args.options.now.form in
    let source = g.R.Read.remaining c.args.input.now in
    let now = g.R.Read.remaining c.loop-number.input in
    let next = g.R.Read.remaining c.take_line.new.input in
    let old = c.args.batch.now.lines.items in
    let held = c.loop-number.batch.lines.items in
    elim c.match-this.branch [
      | in-Some-None w ↦ record {
        collecting = rw (w.batch-is, w.stack-is, w.steps-is) (skips_line form source now next c.loop-number.number c.loop-number.steps (c.loop-number.stack.runs.items ≡ []) old held c.loop-number.invariant.collecting (search rules));
        stored = rw w.stack-is c.loop-number.invariant.stored;
      }
      | in-Some-Some+in_ok-keep-in-Some-Some w ↦ record {
        collecting = rw (w.batch-is, w.stack-is, w.steps-is)
            (keeps_line form source now next c.loop-number.number c.loop-number.steps w.saturating_add-steps.result (c.loop-number.stack.runs.items ≡ []) (w.keep.new.stack.runs.items ≡ []) old held w.keep.new.batch.lines.items _
            c.loop-number.invariant.collecting (search rules) w.in_ok-keep-in-Some-Some.ensures.kept (λ few. omega (arith, w.saturating_add-steps.ensures, few)));
        stored = rw w.stack-is (λ some first. w.in_ok-keep-in-Some-Some.ensures.stored some (λ more. c.loop-number.invariant.stored more first));
      }
    ]
