use Rattle.std.proofs.Common.{◌≡◌, true, Some, ◌∙◌, sym, ap, refl, subst}
use Rattle.slab.specs.Slab.{get, Updates}
use Rattle.lt_links.specs.Maps.{Maps, PutsAfter, has_record}
use Rattle.lt_links.specs.View.{maps_of, stand_of}
use Rattle.lt_links.proofs.Views.{record_is, stand_is}
use Rattle.lt_links.proofs.Pushes.{Links-slots, Links-unchanged, maps-unchanged, at_there, next_there, last_there, node_in, new_node, Links-pushed, PutsAfter-pushed}
use Rattle.std.proofs.Common.{List, Option, Result, Ok, Err}
use Rattle.std.specs.Result.{OnErr}
use Rattle.lt_links.specs.declared.node.Node.{Node}
use Rattle.lt_links.specs.Maps.{queue}
use Rattle.lt_links.specs.Ring.{is_in}
use Rattle.lt_links.proofs.Views.{queue_is}
use Rattle.lt_links.proofs.Counts.{AreCounted-with, len_below_slots, Links-recounted, Are-recounted}
use Rattle.lt_links.proofs.Shows.{IsSound-links}
use Rattle.lt_links.specs.Tallies.{is_node_of, AreTallied}
use Rattle.lt_links.specs.Maps.{stand}
use Rattle.lt_links.proofs.Tallies.{AreTallied-same, AreTallied-in, AreTallied-back}
use Rattle.lt_links.proofs.links.Links.put_after.Goals as goal

on_err : {T E P : Type 0} (r : Result T E) → P → OnErr r P
on_err (Ok v) p = tt
on_err (Err e) p = p

pub invariant_of-self : goal.invariant_of-self
invariant_of-self c =
    let inv = c.self.invariant.0 in (
      record {
        queues = inv.queues;
        numbers = inv.numbers;
        links = Links-slots c.self.inside.nodes c.reserve.new.self c.self.inside.heads c.self.inside.owners inv.queues inv.numbers (ap (λ s. s.slots) c.reserve.ensures.rest_kept) inv.links;
        lens = inv.lens;
      },
      subst (λ (m : Maps). AreTallied m c.self.inside.txns)
          (sym (maps-unchanged c.self.inside.nodes c.reserve.new.self c.self.inside.heads c.self.inside.owners c.self.inside.owners (ap (λ s. s.slots) c.reserve.ensures.rest_kept) refl)) c.self.invariant.1,
    )

pub invariant_of-self-in_err-tally_in : goal.invariant_of-self-in_err-tally_in
invariant_of-self-in_err-tally_in c =
    let inv = c.self.invariant.0 in
    let maps = maps-unchanged c.self.inside.nodes c.reserve.new.self c.self.inside.heads c.self.inside.owners c.self.inside.owners (ap (λ s. s.slots) c.reserve.ensures.rest_kept) refl in (
      record {
        queues = inv.queues;
        numbers = inv.numbers;
        links = Links-slots c.self.inside.nodes c.reserve.new.self c.self.inside.heads c.self.inside.owners inv.queues inv.numbers (ap (λ s. s.slots) c.reserve.ensures.rest_kept) inv.links;
        lens = inv.lens;
      },
      AreTallied-same (maps_of c.self.inside.nodes c.self.inside.heads c.self.inside.owners) _ c.self.inside.txns c.tally_in.new.txns (λ i t. ap (λ (m : Maps). is_node_of (stand m i) t) maps) c.in_err-tally_in.ensures.err c.self.invariant.1,
    )

pub invariant_of-self-in_default : goal.invariant_of-self-in_default
invariant_of-self-in_default c =
    let inv = c.self.invariant.0 in
    let maps = maps-unchanged c.self.inside.nodes c.reserve.new.self c.self.inside.heads c.self.inside.owners c.push_owner.new.owners (ap (λ s. s.slots) c.reserve.ensures.rest_kept) c.in_default.ensures.err in (
      record {
        queues = inv.queues;
        numbers = inv.numbers;
        links = Links-unchanged c.self.inside.nodes c.reserve.new.self c.self.inside.heads c.self.inside.owners c.push_owner.new.owners (ap (λ s. s.slots) c.reserve.ensures.rest_kept) c.in_default.ensures.err inv.queues inv.numbers inv.links;
        lens = inv.lens;
      },
      AreTallied-back (maps_of c.reserve.new.self c.self.inside.heads c.push_owner.new.owners) c.self.inside.txns c.tally_in.new.txns c.tally_out.new.txns c.args.stand.txn
          (subst (λ (m : Maps). AreTallied m c.self.inside.txns) (sym maps) c.self.invariant.1) c.in_ok-tally_in.ensures.ok c.tally_out.ensures,
    )

pub returns-in_err-tally_in-clause-err : goal.returns-in_err-tally_in-clause-err
returns-in_err-tally_in-clause-err c =
    on_err _ (maps-unchanged c.self.inside.nodes c.reserve.new.self c.self.inside.heads c.self.inside.owners c.self.inside.owners (ap (λ s. s.slots) c.reserve.ensures.rest_kept) refl ∙ c.self.view_is)

pub returns-in_default-clause-err : goal.returns-in_default-clause-err
returns-in_default-clause-err c =
    maps-unchanged c.self.inside.nodes c.reserve.new.self c.self.inside.heads c.self.inside.owners c.push_owner.new.owners (ap (λ s. s.slots) c.reserve.ensures.rest_kept) c.in_default.ensures.err ∙ c.self.view_is

pub queued-next-requires : goal.queued-next-requires
queued-next-requires c =
    let inv = c.self.invariant.0 in
    let has : has_record c.args.self.now c.args.queue.now.id ≡ true = c.requires.record in
    let place : is_in (queue c.args.self.now c.args.queue.now) c.args.at ≡ true = c.requires.at in
    at_there c.reserve.new.self c.insert_reserved.new.self c.self.inside.heads c.self.inside.owners inv.queues inv.numbers c.vacant_key-key.result c.args.stand c.args.queue.now
    (Links-slots c.self.inside.nodes c.reserve.new.self c.self.inside.heads c.self.inside.owners inv.queues inv.numbers (ap (λ s. s.slots) c.reserve.ensures.rest_kept) inv.links)
    c.vacant_key-key.ensures.vacant (subst (λ k. Updates c.reserve.new.self c.insert_reserved.new.self k (Some (new_node c.args.stand c.args.queue.now))) (c.insert_reserved.ensures.key ∙ sym c.vacant_key-key.ensures.value) (rw c.new.ensures at c.insert_reserved.ensures.updates))
    (sym (record_is c.self.inside.nodes c.self.inside.heads c.self.inside.owners c.args.queue.now.id) ∙ (rw (← c.self.view_is) at has))
    c.args.at (sym (ap (λ l. is_in l c.args.at) (queue_is c.self.inside.nodes c.self.inside.heads c.self.inside.owners inv.queues inv.numbers inv.links c.args.queue.now)) ∙ (rw (← c.self.view_is) at place))

pub link-requires-clause-before : goal.link-requires-clause-before
link-requires-clause-before c =
    let inv = c.self.invariant.0 in
    let has : has_record c.args.self.now c.args.queue.now.id ≡ true = c.requires.record in
    let place : is_in (queue c.args.self.now c.args.queue.now) c.args.at ≡ true = c.requires.at in
    at_there c.reserve.new.self c.insert_reserved.new.self c.self.inside.heads c.self.inside.owners inv.queues inv.numbers c.vacant_key-key.result c.args.stand c.args.queue.now
    (Links-slots c.self.inside.nodes c.reserve.new.self c.self.inside.heads c.self.inside.owners inv.queues inv.numbers (ap (λ s. s.slots) c.reserve.ensures.rest_kept) inv.links)
    c.vacant_key-key.ensures.vacant (subst (λ k. Updates c.reserve.new.self c.insert_reserved.new.self k (Some (new_node c.args.stand c.args.queue.now))) (c.insert_reserved.ensures.key ∙ sym c.vacant_key-key.ensures.value) (rw c.new.ensures at c.insert_reserved.ensures.updates))
    (sym (record_is c.self.inside.nodes c.self.inside.heads c.self.inside.owners c.args.queue.now.id) ∙ (rw (← c.self.view_is) at has))
    c.args.at (sym (ap (λ l. is_in l c.args.at) (queue_is c.self.inside.nodes c.self.inside.heads c.self.inside.owners inv.queues inv.numbers inv.links c.args.queue.now)) ∙ (rw (← c.self.view_is) at place))

pub link-requires-clause-after : goal.link-requires-clause-after
link-requires-clause-after c =
    let inv = c.self.invariant.0 in
    let has : has_record c.args.self.now c.args.queue.now.id ≡ true = c.requires.record in
    let place : is_in (queue c.args.self.now c.args.queue.now) c.args.at ≡ true = c.requires.at in
    rw c.queued-next.ensures (next_there c.reserve.new.self c.insert_reserved.new.self c.self.inside.heads c.self.inside.owners inv.queues inv.numbers c.vacant_key-key.result c.args.stand c.args.queue.now
    (Links-slots c.self.inside.nodes c.reserve.new.self c.self.inside.heads c.self.inside.owners inv.queues inv.numbers (ap (λ s. s.slots) c.reserve.ensures.rest_kept) inv.links)
    c.vacant_key-key.ensures.vacant (subst (λ k. Updates c.reserve.new.self c.insert_reserved.new.self k (Some (new_node c.args.stand c.args.queue.now))) (c.insert_reserved.ensures.key ∙ sym c.vacant_key-key.ensures.value) (rw c.new.ensures at c.insert_reserved.ensures.updates))
    (sym (record_is c.self.inside.nodes c.self.inside.heads c.self.inside.owners c.args.queue.now.id) ∙ (rw (← c.self.view_is) at has))
    c.args.at (sym (ap (λ l. is_in l c.args.at) (queue_is c.self.inside.nodes c.self.inside.heads c.self.inside.owners inv.queues inv.numbers inv.links c.args.queue.now)) ∙ (rw (← c.self.view_is) at place)))

pub follow_last-requires-clause-last : goal.follow_last-requires-clause-last
follow_last-requires-clause-last c =
    let inv = c.self.invariant.0 in
    let has : has_record c.args.self.now c.args.queue.now.id ≡ true = c.requires.record in
    let place : is_in (queue c.args.self.now c.args.queue.now) c.args.at ≡ true = c.requires.at in
    last_there c.reserve.new.self c.insert_reserved.new.self c.self.inside.heads c.self.inside.owners inv.queues inv.numbers c.vacant_key-key.result c.args.stand c.args.queue.now
    (Links-slots c.self.inside.nodes c.reserve.new.self c.self.inside.heads c.self.inside.owners inv.queues inv.numbers (ap (λ s. s.slots) c.reserve.ensures.rest_kept) inv.links)
    c.vacant_key-key.ensures.vacant (subst (λ k. Updates c.reserve.new.self c.insert_reserved.new.self k (Some (new_node c.args.stand c.args.queue.now))) (c.insert_reserved.ensures.key ∙ sym c.vacant_key-key.ensures.value) (rw c.new.ensures at c.insert_reserved.ensures.updates))
    (sym (record_is c.self.inside.nodes c.self.inside.heads c.self.inside.owners c.args.queue.now.id) ∙ (rw (← c.self.view_is) at has))
    c.args.at (sym (ap (λ l. is_in l c.args.at) (queue_is c.self.inside.nodes c.self.inside.heads c.self.inside.owners inv.queues inv.numbers inv.links c.args.queue.now)) ∙ (rw (← c.self.view_is) at place))
    c.link.new.nodes c.link.new.ends c.push_owner.new.owners c.in-Ok.last (rw c.in-Ok.is at c.push_owner.ensures.ok) c.queued-next.result.next (ap (λ j. j.next) c.queued-next.ensures) c.link.ensures

pub follow_last-requires-clause-node : goal.follow_last-requires-clause-node
follow_last-requires-clause-node c =
    let inv = c.self.invariant.0 in
    let has : has_record c.args.self.now c.args.queue.now.id ≡ true = c.requires.record in
    let place : is_in (queue c.args.self.now c.args.queue.now) c.args.at ≡ true = c.requires.at in
    node_in c.reserve.new.self c.insert_reserved.new.self c.self.inside.heads c.self.inside.owners inv.queues inv.numbers c.vacant_key-key.result c.args.stand c.args.queue.now
    (Links-slots c.self.inside.nodes c.reserve.new.self c.self.inside.heads c.self.inside.owners inv.queues inv.numbers (ap (λ s. s.slots) c.reserve.ensures.rest_kept) inv.links)
    c.vacant_key-key.ensures.vacant (subst (λ k. Updates c.reserve.new.self c.insert_reserved.new.self k (Some (new_node c.args.stand c.args.queue.now))) (c.insert_reserved.ensures.key ∙ sym c.vacant_key-key.ensures.value) (rw c.new.ensures at c.insert_reserved.ensures.updates))
    (sym (record_is c.self.inside.nodes c.self.inside.heads c.self.inside.owners c.args.queue.now.id) ∙ (rw (← c.self.view_is) at has))
    c.args.at (sym (ap (λ l. is_in l c.args.at) (queue_is c.self.inside.nodes c.self.inside.heads c.self.inside.owners inv.queues inv.numbers inv.links c.args.queue.now)) ∙ (rw (← c.self.view_is) at place))
    c.link.new.nodes c.link.new.ends c.push_owner.new.owners c.in-Ok.last (rw c.in-Ok.is at c.push_owner.ensures.ok) c.queued-next.result.next (ap (λ j. j.next) c.queued-next.ensures) c.link.ensures

pub count_in-requires-clause-there : goal.count_in-requires-clause-there
count_in-requires-clause-there c =
    let has : has_record c.args.self.now c.args.queue.now.id ≡ true = c.requires.record in
    c.link.ensures.keeps.heads_kept c.args.queue.now.id ∙ sym (record_is c.self.inside.nodes c.self.inside.heads c.self.inside.owners c.args.queue.now.id) ∙ (rw (← c.self.view_is) at has)

pub count_in-requires-clause-room : goal.count_in-requires-clause-room
count_in-requires-clause-room c =
    let inv = c.self.invariant.0 in
    let has : has_record c.args.self.now c.args.queue.now.id ≡ true = c.requires.record in
    let place : is_in (queue c.args.self.now c.args.queue.now) c.args.at ≡ true = c.requires.at in
    len_below_slots inv.queues c.args.queue.now c.args.at c.vacant_key-key.result
    (sym (ap (λ l. is_in l c.args.at) (queue_is c.self.inside.nodes c.self.inside.heads c.self.inside.owners inv.queues inv.numbers inv.links c.args.queue.now)) ∙ (rw (← c.self.view_is) at place))
    c.link.new.ends (λ q. c.link.ensures.keeps.lens_kept q ∙ inv.lens q) c.follow_last.new.nodes c.link.new.ends c.push_owner.new.owners _
    (Links-pushed c.reserve.new.self c.insert_reserved.new.self c.self.inside.heads c.self.inside.owners inv.queues inv.numbers c.vacant_key-key.result c.args.stand c.args.queue.now
    (Links-slots c.self.inside.nodes c.reserve.new.self c.self.inside.heads c.self.inside.owners inv.queues inv.numbers (ap (λ s. s.slots) c.reserve.ensures.rest_kept) inv.links)
    c.vacant_key-key.ensures.vacant (subst (λ k. Updates c.reserve.new.self c.insert_reserved.new.self k (Some (new_node c.args.stand c.args.queue.now))) (c.insert_reserved.ensures.key ∙ sym c.vacant_key-key.ensures.value) (rw c.new.ensures at c.insert_reserved.ensures.updates))
    (sym (record_is c.self.inside.nodes c.self.inside.heads c.self.inside.owners c.args.queue.now.id) ∙ (rw (← c.self.view_is) at has))
    c.args.at (sym (ap (λ l. is_in l c.args.at) (queue_is c.self.inside.nodes c.self.inside.heads c.self.inside.owners inv.queues inv.numbers inv.links c.args.queue.now)) ∙ (rw (← c.self.view_is) at place))
    c.link.new.nodes c.link.new.ends c.push_owner.new.owners c.in-Ok.last (rw c.in-Ok.is at c.push_owner.ensures.ok) c.queued-next.result.next (ap (λ j. j.next) c.queued-next.ensures) c.link.ensures
    c.follow_last.new.nodes c.follow_last.ensures)

pub returns-clause-fresh : goal.returns-clause-fresh
returns-clause-fresh c =
    rw (c.new-2.ensures, ← c.self.view_is) (stand_is c.self.inside.nodes c.self.inside.heads c.self.inside.owners c.vacant_key-key.result ∙ ap stand_of (sym (ap (λ (l : List (Option Node)). get (record c.reserve.new.self { slots = l }) c.vacant_key-key.result) (ap (λ s. s.slots) c.reserve.ensures.rest_kept)) ∙ c.vacant_key-key.ensures.vacant))

pub returns-clause-puts : goal.returns-clause-puts
returns-clause-puts c =
    let inv = c.self.invariant.0 in
    let has : has_record c.args.self.now c.args.queue.now.id ≡ true = c.requires.record in
    let place : is_in (queue c.args.self.now c.args.queue.now) c.args.at ≡ true = c.requires.at in
    rw (c.new-2.ensures, ← c.self.view_is)
    (subst (λ (m : Maps). PutsAfter m (maps_of c.follow_last.new.nodes c.count_in.new.heads c.push_owner.new.owners) c.args.queue.now c.args.at c.vacant_key-key.result c.args.stand)
    (maps-unchanged c.self.inside.nodes c.reserve.new.self c.self.inside.heads c.self.inside.owners c.self.inside.owners (ap (λ s. s.slots) c.reserve.ensures.rest_kept) refl)
    (Are-recounted c.follow_last.new.nodes c.link.new.ends c.count_in.new.heads c.push_owner.new.owners _ _
    (Links-pushed c.reserve.new.self c.insert_reserved.new.self c.self.inside.heads c.self.inside.owners inv.queues inv.numbers c.vacant_key-key.result c.args.stand c.args.queue.now
    (Links-slots c.self.inside.nodes c.reserve.new.self c.self.inside.heads c.self.inside.owners inv.queues inv.numbers (ap (λ s. s.slots) c.reserve.ensures.rest_kept) inv.links)
    c.vacant_key-key.ensures.vacant (subst (λ k. Updates c.reserve.new.self c.insert_reserved.new.self k (Some (new_node c.args.stand c.args.queue.now))) (c.insert_reserved.ensures.key ∙ sym c.vacant_key-key.ensures.value) (rw c.new.ensures at c.insert_reserved.ensures.updates))
    (sym (record_is c.self.inside.nodes c.self.inside.heads c.self.inside.owners c.args.queue.now.id) ∙ (rw (← c.self.view_is) at has))
    c.args.at (sym (ap (λ l. is_in l c.args.at) (queue_is c.self.inside.nodes c.self.inside.heads c.self.inside.owners inv.queues inv.numbers inv.links c.args.queue.now)) ∙ (rw (← c.self.view_is) at place))
    c.link.new.nodes c.link.new.ends c.push_owner.new.owners c.in-Ok.last (rw c.in-Ok.is at c.push_owner.ensures.ok) c.queued-next.result.next (ap (λ j. j.next) c.queued-next.ensures) c.link.ensures
    c.follow_last.new.nodes c.follow_last.ensures)
    c.args.queue.now _ c.count_in.ensures _ _ _ _
    (PutsAfter-pushed c.reserve.new.self c.insert_reserved.new.self c.self.inside.heads c.self.inside.owners inv.queues inv.numbers c.vacant_key-key.result c.args.stand c.args.queue.now
    (Links-slots c.self.inside.nodes c.reserve.new.self c.self.inside.heads c.self.inside.owners inv.queues inv.numbers (ap (λ s. s.slots) c.reserve.ensures.rest_kept) inv.links)
    c.vacant_key-key.ensures.vacant (subst (λ k. Updates c.reserve.new.self c.insert_reserved.new.self k (Some (new_node c.args.stand c.args.queue.now))) (c.insert_reserved.ensures.key ∙ sym c.vacant_key-key.ensures.value) (rw c.new.ensures at c.insert_reserved.ensures.updates))
    (sym (record_is c.self.inside.nodes c.self.inside.heads c.self.inside.owners c.args.queue.now.id) ∙ (rw (← c.self.view_is) at has))
    c.args.at (sym (ap (λ l. is_in l c.args.at) (queue_is c.self.inside.nodes c.self.inside.heads c.self.inside.owners inv.queues inv.numbers inv.links c.args.queue.now)) ∙ (rw (← c.self.view_is) at place))
    c.link.new.nodes c.link.new.ends c.push_owner.new.owners c.in-Ok.last (rw c.in-Ok.is at c.push_owner.ensures.ok) c.queued-next.result.next (ap (λ j. j.next) c.queued-next.ensures) c.link.ensures
    c.follow_last.new.nodes c.follow_last.ensures)))

pub invariant_of-self-2 : goal.invariant_of-self-2
invariant_of-self-2 c =
    let inv = c.self.invariant.0 in
    let has : has_record c.args.self.now c.args.queue.now.id ≡ true = c.requires.record in
    let place : is_in (queue c.args.self.now c.args.queue.now) c.args.at ≡ true = c.requires.at in (
      record {
        queues = _;
        numbers = _;
        links = Links-recounted c.follow_last.new.nodes c.link.new.ends c.count_in.new.heads c.push_owner.new.owners _ _
            (Links-pushed c.reserve.new.self c.insert_reserved.new.self c.self.inside.heads c.self.inside.owners inv.queues inv.numbers c.vacant_key-key.result c.args.stand c.args.queue.now
            (Links-slots c.self.inside.nodes c.reserve.new.self c.self.inside.heads c.self.inside.owners inv.queues inv.numbers (ap (λ s. s.slots) c.reserve.ensures.rest_kept) inv.links)
            c.vacant_key-key.ensures.vacant (subst (λ k. Updates c.reserve.new.self c.insert_reserved.new.self k (Some (new_node c.args.stand c.args.queue.now))) (c.insert_reserved.ensures.key ∙ sym c.vacant_key-key.ensures.value) (rw c.new.ensures at c.insert_reserved.ensures.updates))
            (sym (record_is c.self.inside.nodes c.self.inside.heads c.self.inside.owners c.args.queue.now.id) ∙ (rw (← c.self.view_is) at has))
            c.args.at (sym (ap (λ l. is_in l c.args.at) (queue_is c.self.inside.nodes c.self.inside.heads c.self.inside.owners inv.queues inv.numbers inv.links c.args.queue.now)) ∙ (rw (← c.self.view_is) at place))
            c.link.new.nodes c.link.new.ends c.push_owner.new.owners c.in-Ok.last (rw c.in-Ok.is at c.push_owner.ensures.ok) c.queued-next.result.next (ap (λ j. j.next) c.queued-next.ensures) c.link.ensures
            c.follow_last.new.nodes c.follow_last.ensures)
            c.args.queue.now _ c.count_in.ensures;
        lens = AreCounted-with inv.queues c.args.queue.now c.args.at c.vacant_key-key.result
            (sym (ap (λ l. is_in l c.args.at) (queue_is c.self.inside.nodes c.self.inside.heads c.self.inside.owners inv.queues inv.numbers inv.links c.args.queue.now)) ∙ (rw (← c.self.view_is) at place))
            c.link.new.ends c.count_in.new.heads (λ q. c.link.ensures.keeps.lens_kept q ∙ inv.lens q) c.count_in.ensures;
      },
      AreTallied-in c.args.self.now _ c.new-2.result c.args.stand (returns-clause-puts c).stands_are (returns-clause-fresh c) c.self.inside.txns c.tally_in.new.txns
          (subst (λ m. AreTallied m c.self.inside.txns) c.self.view_is c.self.invariant.1) c.in_ok-tally_in.ensures.ok,
    )

pub returns-in_err-reserve-clause-sound : goal.returns-in_err-reserve-clause-sound
returns-in_err-reserve-clause-sound c =
    let inv = (invariant_of-self c).0 in
    IsSound-links _ _ _ inv.queues inv.numbers inv.links

pub returns-in_err-tally_in-clause-sound : goal.returns-in_err-tally_in-clause-sound
returns-in_err-tally_in-clause-sound c =
    let inv = (invariant_of-self-in_err-tally_in c).0 in
    IsSound-links _ _ _ inv.queues inv.numbers inv.links

pub returns-in_default-clause-sound : goal.returns-in_default-clause-sound
returns-in_default-clause-sound c =
    let inv = (invariant_of-self-in_default c).0 in
    IsSound-links _ _ _ inv.queues inv.numbers inv.links

pub returns-clause-sound : goal.returns-clause-sound
returns-clause-sound c =
    let inv = (invariant_of-self-2 c).0 in
    IsSound-links _ _ _ inv.queues inv.numbers inv.links
