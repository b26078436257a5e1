use Rattle.std.proofs.Common.{◌≡◌, ◌↔◌, Bool, true, sym, subst}
use Rattle.std.specs.Prelude.{IsTrue, is_some}
use Rattle.slab.specs.Slab.{get}
use Rattle.lt_links.specs.Maps.{Maps, IsSound, has_record}
use Rattle.lt_links.proofs.Views.{record_is}
use Rattle.lt_links.proofs.Shows.{IsSound-links}
use Rattle.lt_links.proofs.links.Links.contains_record.Goals as goal

pub returns-clause-contains : goal.returns-clause-contains
returns-clause-contains c =
    let found : IsTrue c.contains.result ↔ (is_some (get c.self.inside.heads c.args.id) ≡ true) = rw (← c.key.ensures) c.contains.ensures in
    subst (λ (m : Maps). IsTrue c.contains.result ↔ (has_record m c.args.id ≡ true)) c.self.view_is
    (subst (λ (b : Bool). IsTrue c.contains.result ↔ (b ≡ true)) (sym (record_is c.self.inside.nodes c.self.inside.heads c.self.inside.owners c.args.id)) found)

pub returns-clause-sound : goal.returns-clause-sound
returns-clause-sound c = let inv = c.self.invariant.0 in subst IsSound c.self.view_is (IsSound-links c.self.inside.nodes c.self.inside.heads c.self.inside.owners inv.queues inv.numbers inv.links)
