use Rattle.std.proofs.Common.{◌∙◌, sym, ap, subst, List, Option, refl}
use Rattle.std.specs.Prelude.{is_some}
use Rattle.slab.specs.Slab.{get}
use Rattle.lt_links.specs.declared.node.Heads.{Heads}
use Rattle.lt_links.specs.Maps.{Maps, AddsRecord}
use Rattle.lt_links.proofs.Views.{record_is}
use Rattle.lt_links.proofs.Edits.{Links-head_slots, maps-head_slots, Links-added, AreCounted-added, AddsRecord-added, IsEmpty-added}
use Rattle.lt_links.proofs.Counts.{AreCounted-slots}
use Rattle.lt_links.specs.View.{maps_of}
use Rattle.lt_links.proofs.Shows.{IsSound-links}
use Rattle.lt_links.specs.Tallies.{is_node_of, AreTallied}
use Rattle.lt_links.proofs.Tallies.{AreTallied-same}
use Rattle.lt_links.proofs.links.Links.add_record.Goals as goal

pub invariant_of-self : goal.invariant_of-self
invariant_of-self c =
    let inv = c.self.invariant.0 in (
      record {
        queues = inv.queues;
        numbers = inv.numbers;
        links = Links-head_slots c.self.inside.nodes c.self.inside.heads c.reserve.new.self c.self.inside.owners inv.queues inv.numbers (ap (λ s. s.slots) c.reserve.ensures.rest_kept) inv.links;
        lens = AreCounted-slots c.self.inside.heads c.reserve.new.self inv.queues (ap (λ s. s.slots) c.reserve.ensures.rest_kept) inv.lens;
      },
      subst (λ (m : Maps). AreTallied m c.self.inside.txns) (sym (maps-head_slots c.self.inside.nodes c.self.inside.heads c.reserve.new.self c.self.inside.owners (ap (λ s. s.slots) c.reserve.ensures.rest_kept))) c.self.invariant.1,
    )

pub returns-clause-fresh : goal.returns-clause-fresh
returns-clause-fresh c =
    rw (c.new-2.ensures, ← c.self.view_is)
    (record_is c.self.inside.nodes c.self.inside.heads c.self.inside.owners c.insert_reserved-key.result
    ∙ ap is_some (sym (ap (λ (l : List (Option Heads)). get (record c.reserve.new.self { slots = l }) c.insert_reserved-key.result) (ap (λ s. s.slots) c.reserve.ensures.rest_kept)) ∙ c.insert_reserved-key.ensures.was_vacant))

pub returns-clause-adds : goal.returns-clause-adds
returns-clause-adds c =
    let inv = c.self.invariant.0 in
    rw (c.new-2.ensures, ← c.self.view_is)
    (subst (λ (m : Maps). AddsRecord m (maps_of c.self.inside.nodes c.insert_reserved-key.new.self c.self.inside.owners) c.insert_reserved-key.result)
    (maps-head_slots c.self.inside.nodes c.self.inside.heads c.reserve.new.self c.self.inside.owners (ap (λ s. s.slots) c.reserve.ensures.rest_kept))
    (AddsRecord-added c.self.inside.nodes c.reserve.new.self c.insert_reserved-key.new.self c.self.inside.owners inv.queues inv.numbers
    (Links-head_slots c.self.inside.nodes c.self.inside.heads c.reserve.new.self c.self.inside.owners inv.queues inv.numbers (ap (λ s. s.slots) c.reserve.ensures.rest_kept) inv.links)
    c.insert_reserved-key.result c.insert_reserved-key.ensures.was_vacant (rw c.new.ensures at c.insert_reserved-key.ensures.updates)))

pub invariant_of-self-2 : goal.invariant_of-self-2
invariant_of-self-2 c =
    let inv = c.self.invariant.0 in (
      record {
        queues = inv.queues;
        numbers = inv.numbers;
        links = Links-added c.self.inside.nodes c.reserve.new.self c.insert_reserved-key.new.self c.self.inside.owners inv.queues inv.numbers
            (Links-head_slots c.self.inside.nodes c.self.inside.heads c.reserve.new.self c.self.inside.owners inv.queues inv.numbers (ap (λ s. s.slots) c.reserve.ensures.rest_kept) inv.links)
            c.insert_reserved-key.result c.insert_reserved-key.ensures.was_vacant (rw c.new.ensures at c.insert_reserved-key.ensures.updates);
        lens = AreCounted-added c.self.inside.nodes c.reserve.new.self c.insert_reserved-key.new.self c.self.inside.owners inv.queues inv.numbers
            (Links-head_slots c.self.inside.nodes c.self.inside.heads c.reserve.new.self c.self.inside.owners inv.queues inv.numbers (ap (λ s. s.slots) c.reserve.ensures.rest_kept) inv.links)
            c.insert_reserved-key.result c.insert_reserved-key.ensures.was_vacant (rw c.new.ensures at c.insert_reserved-key.ensures.updates)
            (AreCounted-slots c.self.inside.heads c.reserve.new.self inv.queues (ap (λ s. s.slots) c.reserve.ensures.rest_kept) inv.lens);
      },
      AreTallied-same c.args.self.now _ c.self.inside.txns c.self.inside.txns (λ i t. ap (λ o. is_node_of o t) ((returns-clause-adds c).stands_are i)) (λ t. refl) (subst (λ m. AreTallied m c.self.inside.txns) c.self.view_is c.self.invariant.1),
    )

pub returns-clause-empty : goal.returns-clause-empty
returns-clause-empty c = IsEmpty-added c.args.self.now _ c.new-2.result (returns-clause-fresh c) (returns-clause-adds c)

pub returns-in_err-reserve-clause-sound : goal.returns-in_err-reserve-clause-sound
returns-in_err-reserve-clause-sound c =
    let inv = (invariant_of-self c).0 in
    IsSound-links _ _ _ inv.queues inv.numbers inv.links

pub returns-clause-sound : goal.returns-clause-sound
returns-clause-sound c =
    let inv = (invariant_of-self-2 c).0 in
    IsSound-links _ _ _ inv.queues inv.numbers inv.links
