use Rattle.std.proofs.Common.{◌≡◌, Some, ◌∙◌, sym, ap, refl}
use Rattle.std.specs.Prelude.{is_some}
use Rattle.std.specs.Option.{option_map}
use mathlib.Core.Bool.{true≢false}
use Rattle.slab.proofs.SlabLemmas.{Updates-with_value}
use Rattle.lt_links.specs.declared.stand.Stand.{Stand}
use Rattle.lt_links.specs.Maps.{number_at, stand}
use Rattle.lt_links.specs.View.{maps_of}
use Rattle.lt_links.proofs.Edits.{Links-set, SetsStand-set, number_there, number_same}
use Rattle.lt_links.proofs.Shows.{IsSound-links}
use Rattle.lt_links.proofs.Steps.{stand_found}
use Rattle.lt_links.proofs.Tallies.{AreTallied-same, AreTallied-retallied, out_positive}
use Rattle.lt_links.proofs.links.Links.set_stand.Goals as goal

pub index-requires : goal.index-requires
index-requires c =
    let number : number_at c.args.self.now c.args.node ≡ Some c.args.stand.number = c.requires in
    rw c.key-key.ensures (number_there c.self.inside.nodes c.self.inside.heads c.self.inside.owners c.args.node c.args.stand.number (rw (← c.self.view_is) at number))

pub retally-requires : goal.retally-requires
retally-requires c =
    out_positive (maps_of c.self.inside.nodes c.self.inside.heads c.self.inside.owners) c.self.inside.txns c.key-key.result c.index.result.now.stand c.self.invariant.1
    (stand_found c.self.inside.nodes c.self.inside.heads c.self.inside.owners c.key-key.result _ c.index.ensures)

pub invariant_of-self : goal.invariant_of-self
invariant_of-self c =
    (c.self.invariant.0, AreTallied-same _ _ c.self.inside.txns c.retally.new.txns (λ i t. refl) c.in_err-retally.ensures.err c.self.invariant.1)

pub returns-in_err-retally-clause-same_txn : goal.returns-in_err-retally-clause-same_txn
returns-in_err-retally-clause-same_txn c = λ same.
    let there : stand c.args.self.now c.args.node ≡ Some c.index.result.now.stand =
    rw (← c.self.view_is, ← c.key-key.ensures) (stand_found c.self.inside.nodes c.self.inside.heads c.self.inside.owners c.key-key.result _ c.index.ensures) in
    let own : Some c.index.result.now.stand.txn ≡ Some c.args.stand.txn = sym (ap (option_map (λ (s : Stand). s.txn)) there) ∙ same in
    absurd (true≢false (sym (c.in_err-retally.ensures.same (cc))))

pub returns-in_err-retally-clause-sound : goal.returns-in_err-retally-clause-sound
returns-in_err-retally-clause-sound c =
    let inv = c.self.invariant.0 in
    IsSound-links _ _ _ inv.queues inv.numbers inv.links

pub invariant_of-self-2 : goal.invariant_of-self-2
invariant_of-self-2 c =
    let inv = c.self.invariant.0 in
    let number : number_at c.args.self.now c.args.node ≡ Some c.args.stand.number = c.requires in
    let same = number_same c.self.inside.nodes c.self.inside.heads c.self.inside.owners c.key-key.result c.args.stand.number (rw c.key-key.ensures (rw (← c.self.view_is) at number)) c.index_mut.result.now c.index_mut.ensures.value in
    let writes = Updates-with_value c.self.inside.nodes c.key-key.result _ (ap is_some c.index_mut.ensures.value) in (
      record {
        queues = inv.queues;
        numbers = inv.numbers;
        links = Links-set c.self.inside.nodes _ c.self.inside.heads c.self.inside.owners inv.queues inv.numbers inv.links c.key-key.result c.index_mut.result.now c.args.stand c.index_mut.ensures.value same writes;
        lens = inv.lens;
      },
      AreTallied-retallied (maps_of c.self.inside.nodes c.self.inside.heads c.self.inside.owners) _ c.key-key.result c.args.stand c.index.result.now.stand
          (SetsStand-set c.self.inside.nodes _ c.self.inside.heads c.self.inside.owners inv.queues inv.numbers inv.links c.key-key.result c.index_mut.result.now c.args.stand c.index_mut.ensures.value same writes).stands_are
          (stand_found c.self.inside.nodes c.self.inside.heads c.self.inside.owners c.key-key.result _ c.index.ensures)
          c.self.inside.txns c.retally.new.txns c.self.invariant.1 c.in_ok-retally.ensures.ok,
    )

pub returns-clause-sets : goal.returns-clause-sets
returns-clause-sets c =
    let inv = c.self.invariant.0 in
    let number : number_at c.args.self.now c.args.node ≡ Some c.args.stand.number = c.requires in
    rw (← c.self.view_is, ← c.key-key.ensures)
    (SetsStand-set c.self.inside.nodes _ c.self.inside.heads c.self.inside.owners inv.queues inv.numbers inv.links c.key-key.result c.index_mut.result.now c.args.stand c.index_mut.ensures.value
    (number_same c.self.inside.nodes c.self.inside.heads c.self.inside.owners c.key-key.result c.args.stand.number (rw c.key-key.ensures (rw (← c.self.view_is) at number)) c.index_mut.result.now c.index_mut.ensures.value)
    (Updates-with_value c.self.inside.nodes c.key-key.result _ (ap is_some c.index_mut.ensures.value)))

pub returns-clause-sound : goal.returns-clause-sound
returns-clause-sound c =
    let inv = (invariant_of-self-2 c).0 in
    IsSound-links _ _ _ inv.queues inv.numbers inv.links
