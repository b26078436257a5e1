use Rattle.std.proofs.Common.{map, refl}
use Rattle.lt_walk.specs.Closed.{passes_of}
use Rattle.example_store.proofs.Passes.{closed_in_order}
use Rattle.example_store.proofs.store.Store.close.Goals as goal

pub returns-in-Ok-clause-in_order : goal.returns-in-Ok-clause-in_order
returns-in-Ok-clause-in_order g c =
    let own = c.in_ok-passes.passes.items in
    let all = passes_of own c.new.result.items in (
      all,
      closed_in_order g.N.Name.of own all c.in-Ok.rests c.in_ok-passes.logs.items c.in_ok-passes.ensures.each
          c.in_ok-passes.ensures.differ
          (map (λ guard. guard.pass) c.new.result.items, refl)
          c.in-Ok.ensures.closed c.commits_went_in_order.ensures,
    )
