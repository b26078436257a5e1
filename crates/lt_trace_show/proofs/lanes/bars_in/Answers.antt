use Rattle.std.proofs.Common.{get_or}
use Rattle.std.proofs.lemmas.Option.{slice_get-get_or}
use Rattle.lt_trace_show.specs.declared.timeline.Phase.TheVariants.{Out}
use Rattle.lt_trace_show.proofs.Runs.{RunsTo, runs_more, boundary, shown_more}
use Rattle.lt_trace_show.proofs.lanes.bars_in.Goals as goal

pub loop-from-preserved : goal.loop-from-preserved
loop-from-preserved c =
    let phases = c.args.phases.now in
    let from = c.loop-from.from in
    let end = c.run_end-end.result in
    let p = get_or phases from Out in
    let r : RunsTo phases from end p = record {
      at = slice_get-get_or phases from Out c.loop-from-test.true;
      before = c.loop-from.invariant.before;
      some = c.run_end-end.ensures.after;
      within = c.run_end-end.ensures.within;
      same = c.run_end-end.ensures.same;
      other = c.run_end-end.ensures.other;
    } in
    record {
      within = c.run_end-end.ensures.within;
      before = boundary phases from end p r;
      runs = rw c.in_ok-push_run.ensures (runs_more c.args.lane phases from end p c.loop-from.bars.items r c.loop-from.invariant.runs);
      all = rw c.in_ok-push_run.ensures (shown_more c.args.lane phases from end p c.loop-from.bars.items r c.loop-from.invariant.all);
    }
