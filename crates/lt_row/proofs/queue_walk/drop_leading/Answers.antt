use Rattle.std.proofs.Common.{[], ◌∙◌, sym}
use Rattle.lt_row.proofs.Rows.{first_cut, cut_there}
use Rattle.lt_row.proofs.Fronts.{IsLeading-first, IsLeading-stops, IsLeading-next, IsLeading-end, leading_falls}
use Rattle.lt_row.proofs.queue_walk.drop_leading.Goals as goal

pub loop-at-init : goal.loop-at-init
loop-at-init c = IsLeading-first c.args.links.now c.args.queue.now c.first-at.result c.first-at.ensures.first c.requires.sound

pub stand-requires : goal.stand-requires
stand-requires c =
    let here = rw c.in-Some.is at c.loop-at.invariant in
    let cut = first_cut c.loop-at.links here.sound c.args.queue.now c.in-Some.node here.first in
    cut_there c.loop-at.links here.sound c.args.queue.now c.in-Some.node [] cut.0 cut.1

pub returns-then-is_some : goal.returns-then-is_some
returns-then-is_some c =
    let here = rw c.in-Some.is at c.loop-at.invariant in
    IsLeading-stops c.args.links.now c.loop-at.links c.args.queue.now c.in-Some.node c.stand.result here c.stand.ensures.stand (sym c.is_some.ensures ∙ c.if-is_some.true)

pub loop-at-smaller : goal.loop-at-smaller
loop-at-smaller c =
    let here = rw c.in-Some.is at c.loop-at.invariant in
    leading_falls c.args.links.now c.loop-at.links c.args.queue.now c.in-Some.node c.stand.result here c.stand.ensures.stand c.remove.new.self c.first-at-in-Some.result c.remove.ensures.removes c.remove.ensures.sound

pub loop-at-preserved : goal.loop-at-preserved
loop-at-preserved c =
    let here = rw c.in-Some.is at c.loop-at.invariant in
    IsLeading-next c.args.links.now c.loop-at.links c.args.queue.now c.in-Some.node c.stand.result here c.stand.ensures.stand c.remove.new.self c.first-at-in-Some.result c.remove.ensures.removes c.remove.ensures.sound (sym c.is_some.ensures ∙ c.if-is_some.false) c.first-at-in-Some.ensures.first

pub returns : goal.returns
returns c = IsLeading-end c.args.links.now c.loop-at.links c.args.queue.now (rw c.in_default.is at c.loop-at.invariant)
