use Rattle.std.proofs.Common.{ℕ, List, Bool, ◌∙◌, sym, ap, refl, Option}
use Rattle.std.specs.List.{find}
use Rattle.std.specs.Option.{option_map}
use Rattle.lt_links.specs.declared.stand.Stand.{Stand}
use Rattle.lt_links.specs.Maps.{queue}
use Rattle.lt_rules.specs.Rules.{is_eligible}
use Rattle.lt_row.specs.Row.{line, request_of, writer_of}
use Rattle.lt_row.proofs.Places.{rest_falls}
use Rattle.lt_row.proofs.Walks.{IsWalk-first, IsWalk-next, found_in, found_later, found_here}
use Rattle.lt_row.proofs.queue_walk.first_eligible.Goals as goal

-- whether the search looks for this entry
abbrev seeks : Option Stand → Stand → Bool
seeks reserved s = is_eligible (option_map request_of reserved) (writer_of s)

pub loop-at-init : goal.loop-at-init
loop-at-init c =
    let l : List ℕ = queue c.args.links.now c.args.queue.now in
    let p : Stand → Bool = seeks c.args.reserved.now in
    IsWalk-first l c.first-at.result (found_in p c.args.links.now) (find p (line c.args.links.now c.args.queue.now)) c.first-at.ensures.first (c.first-at.ensures.sound.queues_distinct c.args.queue.now) refl

pub returns-then-is_eligible : goal.returns-then-is_eligible
returns-then-is_eligible c =
    let here = rw c.in-Some.is at c.loop-at.invariant in
    let l : List ℕ = queue c.args.links.now c.args.queue.now in
    let p : Stand → Bool = seeks c.args.reserved.now in
    sym (ap (option_map (λ s. s.number)) (found_here p c.args.links.now l c.in-Some.node c.stand-stand.result (find p (line c.args.links.now c.args.queue.now)) here c.stand-stand.ensures.stand (sym c.is_eligible.ensures ∙ c.if-is_eligible.true)))

pub loop-at-smaller : goal.loop-at-smaller
loop-at-smaller c =
    let here = rw c.in-Some.is at c.loop-at.invariant in
    rw c.in-Some.is (rest_falls c.in-Some.node c.next-at.result (queue c.args.links.now c.args.queue.now) here.position (c.first-at.ensures.sound.queues_distinct c.args.queue.now) (c.next-at.ensures.next c.args.queue.now))

pub loop-at-preserved : goal.loop-at-preserved
loop-at-preserved c =
    let here = rw c.in-Some.is at c.loop-at.invariant in
    let l : List ℕ = queue c.args.links.now c.args.queue.now in
    let p : Stand → Bool = seeks c.args.reserved.now in
    let f : List ℕ → Option Stand = found_in p c.args.links.now in
    IsWalk-next l c.in-Some.node c.next-at.result f f (find p (line c.args.links.now c.args.queue.now)) (c.first-at.ensures.sound.queues_distinct c.args.queue.now) here (c.next-at.ensures.next c.args.queue.now)
    (λ rest. found_later p c.args.links.now c.in-Some.node c.stand-stand.result rest c.stand-stand.ensures.stand (sym c.is_eligible.ensures ∙ c.if-is_eligible.false))
