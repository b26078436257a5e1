use Rattle.std.proofs.Common.{◌≤◌, length, refl}
use Rattle.lt_walk.specs.Closed.{passes_of}
use Rattle.lt_walk.proofs.Ends.{whole_closed, all_mapped}
use Rattle.lt_table_core.proofs.table.Table.close.Goals as goal

pub returns-clause-closed : goal.returns-clause-closed
returns-clause-closed g c =
    let e = c.in_ok-ended.ended in
    whole_closed g.N.Name.of (passes_of c.args.passes.items c.args.guards.items) e.rests.shards.items c.into_histories.result.shards.items e.rests.draws c.into_histories.result.draws c.in_ok-ended.ensures.closed (c.in_ok-ended.ensures.whole refl) c.into_histories.ensures.shards c.into_histories.ensures.draws

pub returns-clause-limit : goal.returns-clause-limit
returns-clause-limit g c = rw c.into_histories.ensures.shards (all_mapped (λ es. length es.items ≤ c.args.self.max_steps) (λ t. t.entries) c.in_ok-ended.ended.rests.shards.items c.in_ok-ended.ensures.limit)
