use Rattle.std.proofs.Common.{◌∙◌, sym, ap, length, subst}
use Rattle.lt_links.specs.Maps.{Maps, IsSound, queue}
use Rattle.lt_links.proofs.Views.{record_is}
use Rattle.lt_links.proofs.Shows.{IsSound-links, len_is}
use Rattle.lt_links.proofs.links.Links.len.Goals as goal

pub stored_len-requires : goal.stored_len-requires
stored_len-requires c = sym (record_is c.self.inside.nodes c.self.inside.heads c.self.inside.owners c.args.queue.id) ∙ (rw (← c.self.view_is) at c.requires)

pub returns-clause-len : goal.returns-clause-len
returns-clause-len c =
    let inv = c.self.invariant.0 in
    c.stored_len.ensures ∙ len_is c.self.inside.nodes c.self.inside.heads c.self.inside.owners inv.queues inv.numbers inv.links c.args.queue (inv.lens c.args.queue) ∙ ap (λ (m : Maps). length (queue m c.args.queue)) c.self.view_is

pub returns-clause-sound : goal.returns-clause-sound
returns-clause-sound c = let inv = c.self.invariant.0 in subst IsSound c.self.view_is (IsSound-links c.self.inside.nodes c.self.inside.heads c.self.inside.owners inv.queues inv.numbers inv.links)
