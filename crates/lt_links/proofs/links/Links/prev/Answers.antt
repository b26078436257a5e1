use Rattle.std.proofs.Common.{subst}
use Rattle.lt_links.specs.Maps.{IsSound}
use Rattle.lt_links.proofs.Steps.{node_there}
use Rattle.lt_links.proofs.Shows.{IsSound-links, prev_there, prev_of_node}
use Rattle.lt_links.proofs.links.Links.prev.Goals as goal

pub index-requires : goal.index-requires
index-requires c = rw c.key.ensures (node_there c.self.inside.nodes c.self.inside.heads c.self.inside.owners c.args.node (rw (← c.self.view_is) at c.requires))

pub returns-clause-prev : goal.returns-clause-prev
returns-clause-prev c =
    let inv = c.self.invariant.0 in
    rw (c.at.ensures, ← c.self.view_is, ← c.key.ensures) (prev_of_node c.self.inside.nodes c.self.inside.heads c.self.inside.owners inv.queues inv.numbers inv.links c.key.result c.index.result.now c.index.ensures)

pub returns-clause-sound : goal.returns-clause-sound
returns-clause-sound c = let inv = c.self.invariant.0 in subst IsSound c.self.view_is (IsSound-links c.self.inside.nodes c.self.inside.heads c.self.inside.owners inv.queues inv.numbers inv.links)

pub returns-clause-there : goal.returns-clause-there
returns-clause-there c =
    let inv = c.self.invariant.0 in
    rw (c.at.ensures, ← c.self.view_is) (prev_there c.self.inside.nodes c.self.inside.heads c.self.inside.owners inv.queues inv.numbers inv.links c.key.result c.index.result.now c.index.ensures)
