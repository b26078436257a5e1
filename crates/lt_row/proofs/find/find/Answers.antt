use Rattle.std.proofs.Common.{◌≡◌, ◌≢◌, arith}
use Rattle.std.proofs.lemmas.Bool.Decides.{nat_tests}
use Rattle.lt_links.specs.Maps.{owned}
use Rattle.lt_row.proofs.Places.{rest_falls}
use Rattle.lt_row.proofs.Searches.{IsSearch-first, IsSearch-next, IsFound-here, IsMissing-end}
use Rattle.lt_row.proofs.find.find.Goals as goal

pub loop-at-init : goal.loop-at-init
loop-at-init c = IsSearch-first c.args.links.now c.args.id c.args.number c.owner_first-at.ensures.sound c.owner_first-at.result c.owner_first-at.ensures.first

pub returns-then-eq-clause-found : goal.returns-then-eq-clause-found
returns-then-eq-clause-found c =
    let here = rw c.in-Some.is at c.loop-at.invariant in
    let same : c.queue_of-queue.result.id ≡ c.args.id = grind (arith, nat_tests) in
    IsFound-here c.args.links.now c.args.id c.args.number c.queue_of-queue.ensures.sound c.in-Some.node c.queue_of-queue.result here c.queue_of-queue.ensures.queue same

pub loop-at-smaller : goal.loop-at-smaller
loop-at-smaller c =
    let here = rw c.in-Some.is at c.loop-at.invariant in
    rw c.in-Some.is (rest_falls c.in-Some.node c.owner_next-at.result (owned c.args.links.now c.args.number) here.position (c.owner_first-at.ensures.sound.numbers_distinct c.args.number) (c.owner_next-at.ensures.next c.args.number))

pub loop-at-preserved : goal.loop-at-preserved
loop-at-preserved c =
    let here = rw c.in-Some.is at c.loop-at.invariant in
    let other : c.queue_of-queue.result.id ≢ c.args.id = grind (arith, nat_tests) in
    IsSearch-next c.args.links.now c.args.id c.args.number c.owner_first-at.ensures.sound c.in-Some.node c.owner_next-at.result c.queue_of-queue.result here (c.owner_next-at.ensures.next c.args.number) c.queue_of-queue.ensures.queue other

pub returns-clause-found : goal.returns-clause-found
returns-clause-found c = IsMissing-end c.args.links.now c.args.id c.args.number c.owner_first-at.ensures.sound (rw c.in_default.is at c.loop-at.invariant)
