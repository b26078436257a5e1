use Rattle.std.proofs.Common.{◌≡◌, ◌≤◌, true, length, refl, subst, All, IfOk}
use Rattle.lt_walk.specs.Closed.{passes_of, AreRestsOf, AreWhole}
use Rattle.lt_walk.proofs.Ends.{whole_closed, all_mapped}
use Rattle.lt_try.proofs.table.TryTable.close.Goals as goal

pub returns-in-Ok-clause-closed : goal.returns-in-Ok-clause-closed
returns-in-Ok-clause-closed g c =
    let of = c.args.self.of in
    let e = c.in-Ok.ended in
    let closed = subst (λ r. IfOk r (λ x. AreRestsOf of c.args.passes.items c.args.guards.items x.rests)) c.in-Ok.is c.in_ok-ended.ensures.closed in
    let whole = subst (λ r. IfOk r (λ x. true ≡ true → AreWhole of x.rests.shards.items)) c.in-Ok.is c.in_ok-ended.ensures.whole in
    whole_closed of (passes_of c.args.passes.items c.args.guards.items) e.rests.shards.items c.into_histories.result.shards.items e.rests.draws c.into_histories.result.draws closed (whole refl) c.into_histories.ensures.shards c.into_histories.ensures.draws

pub returns-in-Ok-clause-limit : goal.returns-in-Ok-clause-limit
returns-in-Ok-clause-limit g c =
    let limit = subst (λ r. IfOk r (λ x. All (λ t. length t.entries.items ≤ c.args.self.config.max_steps) x.rests.shards.items)) c.in-Ok.is c.in_ok-ended.ensures.limit in
    rw c.into_histories.ensures.shards (all_mapped (λ es. length es.items ≤ c.args.self.config.max_steps) (λ t. t.entries) c.in-Ok.ended.rests.shards.items limit)
