use Rattle.std.proofs.Common.{subst}
use Rattle.lt_links.specs.Maps.{IsSound}
use Rattle.lt_links.proofs.Shows.{IsSound-links}
use Rattle.lt_links.proofs.Steps.{node_there, stand_found}
use Rattle.lt_links.proofs.links.Links.stand.Goals as goal

pub index-found-requires : goal.index-found-requires
index-found-requires c = rw c.key.ensures (node_there c.self.inside.nodes c.self.inside.heads c.self.inside.owners c.args.node (rw (← c.self.view_is) at c.requires))

pub returns-clause-stand : goal.returns-clause-stand
returns-clause-stand c = rw (← c.self.view_is) (stand_found c.self.inside.nodes c.self.inside.heads c.self.inside.owners c.args.node _ (rw c.key.ensures at c.index-found.ensures))

pub returns-clause-sound : goal.returns-clause-sound
returns-clause-sound c = let inv = c.self.invariant.0 in subst IsSound c.self.view_is (IsSound-links c.self.inside.nodes c.self.inside.heads c.self.inside.owners inv.queues inv.numbers inv.links)
