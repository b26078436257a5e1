use Rattle.std.proofs.Common.{subst}
use Rattle.lt_links.specs.Maps.{IsSound}
use Rattle.lt_links.specs.Tallies.{HasTally}
use Rattle.lt_links.proofs.Shows.{IsSound-links}
use Rattle.lt_links.proofs.Tallies.{tally_is}
use Rattle.lt_links.proofs.links.Links.nodes_of.Goals as goal

pub returns-clause-tally : goal.returns-clause-tally
returns-clause-tally c = subst (λ m. HasTally m c.args.txn c.count_of.result) c.self.view_is (tally_is _ c.self.inside.txns c.args.txn c.count_of.result c.self.invariant.1 c.count_of.ensures)

pub returns-clause-sound : goal.returns-clause-sound
returns-clause-sound c = let inv = c.self.invariant.0 in subst IsSound c.self.view_is (IsSound-links c.self.inside.nodes c.self.inside.heads c.self.inside.owners inv.queues inv.numbers inv.links)
