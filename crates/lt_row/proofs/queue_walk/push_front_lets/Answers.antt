use Rattle.std.proofs.Common.{ℕ, List, [], ◌∷◌, ◌++◌, ◌∙◌, sym, ap, refl, subst, arith, vec_capacity}
use Rattle.lt_links.specs.Maps.{queue}
use Rattle.lt_row.specs.Row.{line, IsNamed}
use Rattle.lt_row.specs.Found.{waiting_lets, leading_writers}
use Rattle.lt_row.proofs.Written.{stand_is}
use Rattle.lt_row.proofs.Places.{rest_falls, rest_here}
use Rattle.lt_row.proofs.Walks.{IsWalk-first, IsWalk-next, all_at}
use Rattle.lt_row.proofs.Fronts.{front_and, front_more, front_end, front_part}
use Rattle.lt_row.proofs.Rooms.{on_err, no_room}
use Rattle.lt_row.proofs.queue_walk.push_front_lets.Goals as goal

pub loop-at-init : goal.loop-at-init
loop-at-init c =
    let l : List ℕ = queue c.args.links.now c.args.queue.now in
    record {
      walk = IsWalk-first l c.first-at.result (front_and c.args.links.now c.args.lets.now.items) (c.args.lets.now.items ++ waiting_lets (leading_writers (line c.args.links.now c.args.queue.now))) c.first-at.ensures.first (c.first-at.ensures.sound.queues_distinct c.args.queue.now) refl;
      room = omega arith;
    }

pub push_let-requires : goal.push_let-requires
push_let-requires c =
    let here = rw c.in-Some.is at c.loop-at.invariant.walk in
    subst IsNamed (stand_is c.args.links.now c.in-Some.node c.stand-stand.result c.stand-stand.ensures.stand)
    (all_at IsNamed c.args.links.now c.in-Some.node (queue c.args.links.now c.args.queue.now) here.position c.requires.named)

pub returns-then-is_some-clause-ok : goal.returns-then-is_some-clause-ok
returns-then-is_some-clause-ok c =
    let here = rw c.in-Some.is at c.loop-at.invariant.walk in
    let l : List ℕ = queue c.args.links.now c.args.queue.now in
    c.in_ok-push_let.ensures.ok ∙ front_end c.args.links.now l c.loop-at.lets.items c.in-Some.node c.stand-stand.result (c.args.lets.now.items ++ waiting_lets (leading_writers (line c.args.links.now c.args.queue.now))) here c.stand-stand.ensures.stand (sym c.is_some.ensures ∙ c.if-is_some.true)

pub loop-at-smaller : goal.loop-at-smaller
loop-at-smaller c =
    let here = rw c.in-Some.is at c.loop-at.invariant.walk in
    let l : List ℕ = queue c.args.links.now c.args.queue.now in
    rw c.in-Some.is (rest_falls c.in-Some.node c.next-at.result l here.position (c.first-at.ensures.sound.queues_distinct c.args.queue.now) (c.next-at.ensures.next c.args.queue.now))

pub loop-at-preserved : goal.loop-at-preserved
loop-at-preserved c =
    let here = rw c.in-Some.is at c.loop-at.invariant.walk in
    let l : List ℕ = queue c.args.links.now c.args.queue.now in
    let m = c.args.links.now in
    record {
      walk = IsWalk-next l c.in-Some.node c.next-at.result (front_and m c.loop-at.lets.items) (front_and m c.push_let.new.lets.items) (c.args.lets.now.items ++ waiting_lets (leading_writers (line m c.args.queue.now))) (c.first-at.ensures.sound.queues_distinct c.args.queue.now) here (c.next-at.ensures.next c.args.queue.now)
          (λ rest. ap (λ done. front_and m done rest) c.in_ok-push_let.ensures.ok ∙ front_more m c.loop-at.lets.items c.in-Some.node c.stand-stand.result rest c.stand-stand.ensures.stand (sym c.is_some.ensures ∙ c.if-is_some.false));
      room = omega (arith, c.loop-at.invariant.room, c.push_let.ensures.kept);
    }

pub returns-in_err-push_let-clause-full : goal.returns-in_err-push_let-clause-full
returns-in_err-push_let-clause-full c =
    let here = rw c.in-Some.is at c.loop-at.invariant.walk in
    let m = c.args.links.now in
    let done = c.loop-at.lets.items in
    let s = c.stand-stand.result in
    let rest = rest_here c.in-Some.node (queue m c.args.queue.now) here.position in
    let part = front_part m done c.in-Some.node s rest.0 c.stand-stand.ensures.stand in
    on_err c.from_residual.result _
    (no_room (vec_capacity c.args.lets.now) (vec_capacity c.loop-at.lets) (done ++ waiting_lets (s ∷ [])) part.0 (c.args.lets.now.items ++ waiting_lets (leading_writers (line m c.args.queue.now)))
    (part.1 ∙ ap (front_and m done) (sym rest.1) ∙ here.comes_to)
    c.loop-at.invariant.room c.in_err-push_let.ensures.full)
