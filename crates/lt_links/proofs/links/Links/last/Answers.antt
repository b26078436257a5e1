use Rattle.std.proofs.Common.{None, ◌∙◌, sym, ap, subst}
use Rattle.lt_links.specs.Maps.{Maps, IsSound, queue}
use Rattle.std.specs.List.{last_or}
use Rattle.lt_links.proofs.Views.{record_is}
use Rattle.lt_links.proofs.Shows.{IsSound-links, last_there, last_is}
use Rattle.lt_links.proofs.links.Links.last.Goals as goal

pub queued-requires : goal.queued-requires
queued-requires c = sym (record_is c.self.inside.nodes c.self.inside.heads c.self.inside.owners c.args.queue.id) ∙ (rw (← c.self.view_is) at c.requires)

pub returns-clause-last : goal.returns-clause-last
returns-clause-last c =
    let inv = c.self.invariant.0 in
    c.at.ensures ∙ ap (λ j. j.prev) c.queued.ensures ∙ last_is c.self.inside.nodes c.self.inside.heads c.self.inside.owners inv.queues inv.numbers inv.links c.args.queue ∙ ap (λ (m : Maps). last_or None (queue m c.args.queue)) c.self.view_is

pub returns-clause-sound : goal.returns-clause-sound
returns-clause-sound c = let inv = c.self.invariant.0 in subst IsSound c.self.view_is (IsSound-links c.self.inside.nodes c.self.inside.heads c.self.inside.owners inv.queues inv.numbers inv.links)

pub returns-clause-there : goal.returns-clause-there
returns-clause-there c =
    let inv = c.self.invariant.0 in
    rw (c.at.ensures, c.queued.ensures, ← c.self.view_is) (last_there c.self.inside.nodes c.self.inside.heads c.self.inside.owners inv.queues inv.numbers inv.links c.args.queue)
