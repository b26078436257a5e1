use Rattle.std.proofs.Common.{ℕ, List, [], ◌∷◌, ◌++◌, ◌≡◌, ◌∙◌, sym, ap, refl, subst, arith, vec_capacity, vec_len}
use Rattle.lt_links.specs.Maps.{queue}
use Rattle.lt_rules.specs.Rules.{through_of}
use Rattle.lt_row.specs.Row.{line, stands_at, request_of, IsNamed}
use Rattle.lt_row.proofs.Written.{stand_is}
use Rattle.lt_row.proofs.Places.{rest_falls, rest_here}
use Rattle.lt_row.proofs.Walks.{IsWalk-first, IsWalk-next, lets_and, lets_of, lets_more, lets_same, all_at}
use Rattle.lt_row.proofs.Rooms.{on_err, no_room, full_before}
use Rattle.lt_row.proofs.queue_walk.push_selected.Goals as goal
use Rattle.lt_row.proofs.queue_walk.push_selected.Goals.{then-goes_on+in_ok-push, else-goes_on}

pub loop-at-init : goal.loop-at-init
loop-at-init c =
    let l : List ℕ = queue c.args.links.now c.args.queue.now in
    record {
      walk = IsWalk-first l c.first-at.result (lets_and c.args.who.now c.args.links.now c.args.lets.now.items) (c.args.lets.now.items ++ lets_of c.args.who.now (line c.args.links.now c.args.queue.now)) c.first-at.ensures.first (c.first-at.ensures.sound.queues_distinct c.args.queue.now) refl;
      room = omega arith;
    }

pub through-requires : goal.through-requires
through-requires c =
    let here = rw c.in-Some.is at c.loop-at.invariant.walk in
    subst IsNamed (stand_is c.args.links.now c.in-Some.node c.stand-stand.result c.stand-stand.ensures.stand)
    (all_at IsNamed c.args.links.now c.in-Some.node (queue c.args.links.now c.args.queue.now) here.position c.requires.named)

pub loop-at-smaller : goal.loop-at-smaller
loop-at-smaller c =
    let here = rw c.in-Some.is at c.loop-at.invariant.walk in
    let l : List ℕ = queue c.args.links.now c.args.queue.now in
    rw c.in-Some.is (rest_falls c.in-Some.node c.next-at.result l here.position (c.first-at.ensures.sound.queues_distinct c.args.queue.now) (c.next-at.ensures.next c.args.queue.now))

pub loop-at-preserved : goal.loop-at-preserved
loop-at-preserved c =
    let here = rw c.in-Some.is at c.loop-at.invariant.walk in
    let l : List ℕ = queue c.args.links.now c.args.queue.now in
    let f = lets_and c.args.who.now c.args.links.now c.loop-at.lets.items in
    let g = lets_and c.args.who.now c.args.links.now c.if-goes_on.lets.items in
    record {
      walk = IsWalk-next l c.in-Some.node c.next-at.result f g (c.args.lets.now.items ++ lets_of c.args.who.now (line c.args.links.now c.args.queue.now)) (c.first-at.ensures.sound.queues_distinct c.args.queue.now) here (c.next-at.ensures.next c.args.queue.now)
          (elim c.if-goes_on.branch [
            | then-goes_on+in_ok-push w ↦ λ rest.
                let items : c.if-goes_on.lets.items ≡ c.loop-at.lets.items ++ through_of (request_of c.stand-stand.result) ∷ [] =
                ap (λ v. v.items) w.lets-is ∙ w.in_ok-push.ensures.items ∙ ap (λ t. c.loop-at.lets.items ++ t ∷ []) w.through.ensures in
                ap (λ done. lets_and c.args.who.now c.args.links.now done rest) items
                ∙ lets_more c.args.who.now c.args.links.now c.loop-at.lets.items c.in-Some.node c.stand-stand.result rest c.stand-stand.ensures.stand (sym c.goes_on.ensures ∙ w.if-goes_on.true)
            | else-goes_on w ↦ λ rest.
                ap (λ v. lets_and c.args.who.now c.args.links.now v.items rest) w.lets-is
                ∙ lets_same c.args.who.now c.args.links.now c.loop-at.lets.items c.in-Some.node c.stand-stand.result rest c.stand-stand.ensures.stand (sym c.goes_on.ensures ∙ w.if-goes_on.false)
          ]);
      room = elim c.if-goes_on.branch [
        | then-goes_on+in_ok-push w ↦
            let at = ap vec_capacity w.lets-is in
            let more = w.push.ensures.capacity in
            let before = c.loop-at.invariant.room in
            omega (arith, at, more, before)
        | else-goes_on w ↦
            let at = ap vec_capacity w.lets-is in
            let before = c.loop-at.invariant.room in
            omega (arith, at, before)
      ];
    }

pub returns-in_err-push-clause-full : goal.returns-in_err-push-clause-full
returns-in_err-push-clause-full c =
    let here = rw c.in-Some.is at c.loop-at.invariant.walk in
    let m = c.args.links.now in
    let who = c.args.who.now in
    let done = c.loop-at.lets.items in
    let s = c.stand-stand.result in
    let rest = rest_here c.in-Some.node (queue m c.args.queue.now) here.position in
    on_err c.from_residual.result _
    (no_room (vec_capacity c.args.lets.now) (vec_capacity c.loop-at.lets) (done ++ through_of (request_of s) ∷ []) (lets_of who (stands_at m rest.0)) (c.args.lets.now.items ++ lets_of who (line m c.args.queue.now))
    (lets_more who m done c.in-Some.node s rest.0 c.stand-stand.ensures.stand (sym c.goes_on.ensures ∙ c.if-goes_on.true) ∙ ap (lets_and who m done) (sym rest.1) ∙ here.comes_to)
    c.loop-at.invariant.room
    (full_before (vec_capacity c.loop-at.lets) (vec_len c.loop-at.lets) done (through_of (request_of s)) c.in_err-push.ensures.full c.loop-at.lets.ok.0))
