use Rattle.std.proofs.Common.{arith}
use Rattle.std.proofs.lemmas.Bool.Decides.{nat_tests}
use Rattle.lt_links.specs.Maps.{owned}
use Rattle.lt_row.proofs.Places.{rest_falls}
use Rattle.lt_row.proofs.SameTxn.{IsCount-first, IsCount-next, HasOnly-end}
use Rattle.lt_row.proofs.same_txn.has_only.Goals as goal

pub loop-at-init : goal.loop-at-init
loop-at-init c = IsCount-first c.args.links.now c.args.txn c.args.number c.nodes_of-count.result c.owner_first-at.ensures.sound c.owner_first-at.result c.owner_first-at.ensures.first

pub loop-at-smaller : goal.loop-at-smaller
loop-at-smaller c =
    let here = rw c.in-Some.is at c.loop-at.invariant in
    rw c.in-Some.is (rest_falls c.in-Some.node c.owner_next-at.result (owned c.args.links.now c.args.number) here.position (c.owner_first-at.ensures.sound.numbers_distinct c.args.number) (c.owner_next-at.ensures.next c.args.number))

pub loop-at-preserved : goal.loop-at-preserved
loop-at-preserved c =
    let here = rw c.in-Some.is at c.loop-at.invariant in
    rw c.less_own-left.ensures (IsCount-next c.args.links.now c.args.txn c.args.number c.nodes_of-count.result c.owner_first-at.ensures.sound c.in-Some.node c.stand.result c.owner_next-at.result c.loop-at.left here (c.owner_next-at.ensures.next c.args.number) c.stand.ensures.stand)

pub returns-clause-only : goal.returns-clause-only
returns-clause-only c = λ none. HasOnly-end c.args.links.now c.args.txn c.args.number c.nodes_of-count.result c.owner_first-at.ensures.sound c.loop-at.left (rw c.in_default.is at c.loop-at.invariant) (grind (arith, nat_tests)) c.nodes_of-count.ensures.tally
