use Rattle.std.proofs.Common.{◌≡◌, ◌<◌, Some, get_or, slice_get, arith}
use Rattle.std.proofs.lemmas.Option.{slice_get-get_or}
use Rattle.lt_trace_show.specs.declared.timeline.Lane.TheVariants.{Txn}
use Rattle.lt_trace_show.proofs.Named.{lanes_more_by}
use Rattle.lt_trace_show.proofs.lanes.without_repeats.Goals as goal

pub loop-index-preserved : goal.loop-index-preserved
loop-index-preserved c =
    let lanes = c.args.lanes.now in
    let n = c.loop-index.index in
    let here = get_or lanes n (Txn 0) in
    let at : slice_get lanes n ≡ Some here = slice_get-get_or lanes n (Txn 0) c.loop-index-test.true in
    lanes_more_by c.loop-index.own.items c.push_other.new.lanes.items lanes n here at c.in_ok-push_other.ensures.added c.in_ok-push_other.ensures.kept c.loop-index.invariant

pub returns : goal.returns
returns c = λ k l low is.
    let below : k < c.loop-index.index = omega arith in
    c.loop-index.invariant k l below is
