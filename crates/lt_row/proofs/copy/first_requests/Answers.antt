use Rattle.std.proofs.Common.{ℕ, List, [], ◌∷◌, ◌∙◌, ap, subst, arith, rules, length, length-append}
use Rattle.std.specs.Prelude.{map}
use Rattle.lt_links.specs.Maps.{queue}
use Rattle.lt_row.specs.Row.{line, request_of, IsNamed}
use Rattle.lt_row.proofs.Written.{stand_is}
use Rattle.lt_row.proofs.Places.{rest_falls}
use Rattle.lt_row.proofs.Walks.{IsWalk-first, IsWalk-next, all_at}
use Rattle.lt_row.proofs.Copies.{copies_and, copies_more}
use Rattle.lt_row.proofs.copy.first_requests.Goals as goal

pub loop-at-init : goal.loop-at-init
loop-at-init c =
    let l : List ℕ = queue c.args.links.now c.args.queue.now in
    (IsWalk-first l c.first-at.result (copies_and request_of c.args.links.now c.new-all.result.items) (map request_of (line c.args.links.now c.args.queue.now)) c.first-at.ensures.first (c.first-at.ensures.sound.queues_distinct c.args.queue.now) (ap (λ done. copies_and request_of c.args.links.now done l) c.new-all.ensures.items), search rules)

pub put_request-requires : goal.put_request-requires
put_request-requires c =
    let here = rw c.in-Some.is at c.loop-at.invariant.0 in
    subst IsNamed (stand_is c.args.links.now c.in-Some.node c.stand-stand.result c.stand-stand.ensures.stand)
    (all_at IsNamed c.args.links.now c.in-Some.node (queue c.args.links.now c.args.queue.now) here.position c.requires.named)

pub loop-at-smaller : goal.loop-at-smaller
loop-at-smaller c =
    let here = rw c.in-Some.is at c.loop-at.invariant.0 in
    let l : List ℕ = queue c.args.links.now c.args.queue.now in
    rw c.in-Some.is (rest_falls c.in-Some.node c.next-at.result l here.position (c.first-at.ensures.sound.queues_distinct c.args.queue.now) (c.next-at.ensures.next c.args.queue.now))

pub loop-at-preserved : goal.loop-at-preserved
loop-at-preserved c =
    let here = rw c.in-Some.is at c.loop-at.invariant.0 in
    let l : List ℕ = queue c.args.links.now c.args.queue.now in (
      IsWalk-next l c.in-Some.node c.next-at.result (copies_and request_of c.args.links.now c.loop-at.all.items) (copies_and request_of c.args.links.now c.put_request.new.all.items) (map request_of (line c.args.links.now c.args.queue.now)) (c.first-at.ensures.sound.queues_distinct c.args.queue.now) here (c.next-at.ensures.next c.args.queue.now)
          (λ rest. ap (λ done. copies_and request_of c.args.links.now done rest) c.in_ok-put_request.ensures ∙ copies_more request_of c.args.links.now c.loop-at.all.items c.in-Some.node c.stand-stand.result rest c.stand-stand.ensures.stand),
      omega (arith, c.if-len-most.false, c.len.ensures, c.loop-at.invariant.1, c.put_request.new.all.ok.0, c.loop-at.all.ok.0, ap length c.in_ok-put_request.ensures, length-append c.loop-at.all.items (request_of c.stand-stand.result ∷ [])),
    )
