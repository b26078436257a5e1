use Rattle.lt_row.proofs.Walks.{IsPlacing-last, IsPlacing-prev, IsPosition-here, placing_falls}
use Rattle.lt_row.proofs.queue_walk.position_of.Goals as goal

pub loop-at-init : goal.loop-at-init
loop-at-init c = IsPlacing-last c.args.links.now c.args.queue.now c.args.number c.last-at.result c.last-at.ensures.last c.last-at.ensures.sound

pub returns-then-stand-number-clause-position : goal.returns-then-stand-number-clause-position
returns-then-stand-number-clause-position c =
    let here = rw c.in-Some.is at c.loop-at.invariant in
    IsPosition-here c.args.links.now c.args.queue.now c.args.number c.in-Some.node here c.stand.ensures.sound c.stand.result c.stand.ensures.stand c.if-stand-number.true

pub loop-at-smaller : goal.loop-at-smaller
loop-at-smaller c =
    let here = rw c.in-Some.is at c.loop-at.invariant in
    rw c.in-Some.is (placing_falls c.args.links.now c.args.queue.now c.args.number c.in-Some.node here c.stand.ensures.sound c.prev-at.result (c.prev-at.ensures.prev c.args.queue.now))

pub loop-at-preserved : goal.loop-at-preserved
loop-at-preserved c =
    let here = rw c.in-Some.is at c.loop-at.invariant in
    IsPlacing-prev c.args.links.now c.args.queue.now c.args.number c.in-Some.node here c.stand.ensures.sound c.prev-at.result (c.prev-at.ensures.prev c.args.queue.now) c.stand.result c.stand.ensures.stand c.if-stand-number.false
