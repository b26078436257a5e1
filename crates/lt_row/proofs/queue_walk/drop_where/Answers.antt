use Rattle.std.proofs.Common.{◌∙◌, sym}
use Rattle.lt_links.specs.Maps.{queue}
use Rattle.lt_row.proofs.Places.{rest_falls}
use Rattle.lt_row.proofs.Walks.{IsDropping-first, IsDropping-stays, IsDropping-leaves, IsDropping-end, dropping_falls}
use Rattle.lt_row.proofs.queue_walk.drop_where.Goals as goal

pub loop-at-init : goal.loop-at-init
loop-at-init c = IsDropping-first c.args.who.now c.args.links.now c.args.queue.now c.first-at.result c.first-at.ensures.first c.requires.sound

pub loop-at-smaller-then-leaves : goal.loop-at-smaller-then-leaves
loop-at-smaller-then-leaves c =
    let here = rw c.in-Some.is at c.loop-at.invariant in
    rw c.in-Some.is (dropping_falls c.args.who.now c.args.links.now c.loop-at.links c.args.queue.now c.in-Some.node c.stand.result c.next-next.result here c.stand.ensures.stand (c.next-next.ensures.next c.args.queue.now) c.remove.new.self c.remove.ensures.removes c.remove.ensures.sound)

pub loop-at-preserved-then-leaves : goal.loop-at-preserved-then-leaves
loop-at-preserved-then-leaves c =
    let here = rw c.in-Some.is at c.loop-at.invariant in
    IsDropping-leaves c.args.who.now c.args.links.now c.loop-at.links c.args.queue.now c.in-Some.node c.stand.result c.next-next.result here c.stand.ensures.stand (c.next-next.ensures.next c.args.queue.now) c.remove.new.self c.remove.ensures.removes c.remove.ensures.sound (sym c.leaves.ensures ∙ c.if-leaves.true)

pub loop-at-smaller : goal.loop-at-smaller
loop-at-smaller c =
    let here = rw c.in-Some.is at c.loop-at.invariant in
    rw c.in-Some.is (rest_falls c.in-Some.node c.next-next.result (queue c.loop-at.links c.args.queue.now) here.position (here.sound.queues_distinct c.args.queue.now) (c.next-next.ensures.next c.args.queue.now))

pub loop-at-preserved : goal.loop-at-preserved
loop-at-preserved c =
    let here = rw c.in-Some.is at c.loop-at.invariant in
    IsDropping-stays c.args.who.now c.args.links.now c.loop-at.links c.args.queue.now c.in-Some.node c.stand.result c.next-next.result here c.stand.ensures.stand (c.next-next.ensures.next c.args.queue.now) (sym c.leaves.ensures ∙ c.if-leaves.false)

pub returns : goal.returns
returns c =
    let here = rw c.in_default.is at c.loop-at.invariant in
    IsDropping-end c.args.who.now c.args.links.now c.loop-at.links c.args.queue.now here
