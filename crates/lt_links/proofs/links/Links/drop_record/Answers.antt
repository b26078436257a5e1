use Rattle.std.proofs.Common.{◌≡◌, true, ◌∙◌, sym, ap, subst, refl}
use Rattle.lt_links.specs.Maps.{IsEmpty, has_record}
use Rattle.lt_links.proofs.Views.{record_is}
use Rattle.lt_links.proofs.Edits.{Links-dropped, AreCounted-dropped, DropsRecord-dropped}
use Rattle.lt_links.proofs.Shows.{IsSound-links}
use Rattle.lt_links.specs.Tallies.{is_node_of, AreTallied}
use Rattle.lt_links.proofs.Tallies.{AreTallied-same}
use Rattle.lt_links.proofs.links.Links.drop_record.Goals as goal

pub remove-requires : goal.remove-requires
remove-requires c =
    let there : has_record c.args.self.now c.args.id ≡ true = c.requires.record in
    rw c.key.ensures (sym (record_is c.self.inside.nodes c.self.inside.heads c.self.inside.owners c.args.id) ∙ (rw (← c.self.view_is) at there))

pub returns-clause-drops : goal.returns-clause-drops
returns-clause-drops c =
    let inv = c.self.invariant.0 in
    let empty : IsEmpty c.args.self.now c.args.id = c.requires.empty in
    rw (← c.self.view_is)
    (DropsRecord-dropped c.self.inside.nodes c.self.inside.heads c.remove.new.self c.self.inside.owners inv.queues inv.numbers inv.links c.args.id
    (rw (← c.self.view_is) at empty) (rw c.key.ensures at c.remove.ensures.updates))

pub invariant_of-self : goal.invariant_of-self
invariant_of-self c =
    let inv = c.self.invariant.0 in
    let empty : IsEmpty c.args.self.now c.args.id = c.requires.empty in (
      record {
        queues = inv.queues;
        numbers = inv.numbers;
        links = Links-dropped c.self.inside.nodes c.self.inside.heads c.remove.new.self c.self.inside.owners inv.queues inv.numbers inv.links c.args.id
            (rw (← c.self.view_is) at empty) (rw c.key.ensures at c.remove.ensures.updates);
        lens = AreCounted-dropped c.self.inside.nodes c.self.inside.heads c.remove.new.self c.self.inside.owners inv.queues inv.numbers inv.links c.args.id
            (rw (← c.self.view_is) at empty) (rw c.key.ensures at c.remove.ensures.updates) inv.lens;
      },
      AreTallied-same c.args.self.now _ c.self.inside.txns c.self.inside.txns (λ i t. ap (λ o. is_node_of o t) ((returns-clause-drops c).stands_are i)) (λ t. refl) (subst (λ m. AreTallied m c.self.inside.txns) c.self.view_is c.self.invariant.1),
    )

pub returns-clause-sound : goal.returns-clause-sound
returns-clause-sound c =
    let inv = (invariant_of-self c).0 in
    IsSound-links _ _ _ inv.queues inv.numbers inv.links
