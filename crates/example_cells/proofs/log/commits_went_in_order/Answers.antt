use Rattle.std.proofs.Common.{◌≡◌, ◌+◌, [], ◌∷◌, ◌++◌, take, rules, sym, subst}
use lib.ListN.{get_or}
use Rattle.std.specs.List.{AllByRecursion}
use Rattle.std.proofs.lemmas.List.{take_more, take_all}
use Rattle.example_cells.specs.Committing.{IsLog}
use Rattle.example_cells.proofs.Freed.{every_more}
use Rattle.example_cells.proofs.InOrder.{went_in_order}
use Rattle.example_cells.proofs.log.commits_went_in_order.Goals as goal

pub loop-log-preserved : goal.loop-log-preserved
loop-log-preserved g c =
    let logs = c.args.logs.now.items in
    let i = c.loop-log.log-index in
    let item : c.log-item.result ≡ get_or logs i c.log-item.result = search rules in
    let next : take (i + 1) logs ≡ take i logs ++ get_or logs i c.log-item.result ∷ [] = take_more logs i c.log-item.result (search rules) in
    subst (AllByRecursion (IsLog g.N.Name.of)) (sym next)
    (every_more (IsLog g.N.Name.of) (IsLog g.N.Name.of) (take i logs) (get_or logs i c.log-item.result) (λ l x. x) c.loop-log.invariant (subst (IsLog g.N.Name.of) item c.is_log.ensures))

pub returns : goal.returns
returns g c =
    let whole : take c.loop-log.log-index c.args.logs.now.items ≡ c.args.logs.now.items = take_all c.loop-log.log-index c.args.logs.now.items (search rules) in
    went_in_order c.committed_are_serializable.ensures c.numbers_are_of_one_pass.ensures c.draws_stay.ensures g.N.Name.of c.args.logs.now.items (subst (AllByRecursion (IsLog g.N.Name.of)) whole c.loop-log.invariant)
