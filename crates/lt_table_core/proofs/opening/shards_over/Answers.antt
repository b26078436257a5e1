use Rattle.std.proofs.Common.{◌≡◌, ◌∷◌, [], arith, rules, ap, sym, subst, ◌∙◌, length, length-append}
use Rattle.std.proofs.lemmas.Iterator.Adapters.{YieldsList-from_vec}
use Rattle.std.proofs.lemmas.Iterator.Consumers.{YieldsList-turn, YieldsList-end}
use Rattle.lt_shard.specs.Shards.{new_shard}
use Rattle.lt_walk.specs.Configs.{AreNewShards}
use Rattle.lt_walk.proofs.Ends.{new_more}
use Rattle.lt_table_core.proofs.opening.shards_over.Goals as goal

pub new-requires-clause-empty : goal.new-requires-clause-empty
new-requires-clause-empty g c =
    let turn = YieldsList-turn (YieldsList-from_vec {s = c.into_iter-table-iterator.result} c.args.tables.items (search rules) (search rules)) c.loop-table.yielded c.loop-table.table-iterator c.loop-table.yielded_by c.next.result c.next.new.self c.in-Some.table c.in-Some.is c.next.ensures.steps in
    ap (λ t. g.T.KeyTable.records t) turn.1 ∙ c.requires.empty (length c.loop-table.yielded) c.in-Some.table turn.0

pub new-requires-clause-index : goal.new-requires-clause-index
new-requires-clause-index g c =
    let turn = YieldsList-turn (YieldsList-from_vec {s = c.into_iter-table-iterator.result} c.args.tables.items (search rules) (search rules)) c.loop-table.yielded c.loop-table.table-iterator c.loop-table.yielded_by c.next.result c.next.new.self c.in-Some.table c.in-Some.is c.next.ensures.steps in
    omega (arith, turn.0, c.loop-table.invariant.0, c.requires.many, c.len-index.ensures, c.loop-table.shards.ok.0)

pub loop-table-preserved : goal.loop-table-preserved
loop-table-preserved g c =
    let index : c.len-index.result ≡ length c.loop-table.shards.items = omega (arith, c.len-index.ensures, c.loop-table.shards.ok.0) in
    let new : c.new.result ≡ new_shard c.args.book.now (length c.loop-table.shards.items) c.args.max_steps = c.new.ensures ∙ ap (λ s. new_shard c.args.book.now s c.args.max_steps) index in
    let grown = c.in_ok-push.ensures.items in (
      omega (arith, ap length grown, length-append c.loop-table.shards.items (c.new.result ∷ []), length-append c.loop-table.yielded (c.in-Some.table ∷ []), c.loop-table.invariant.0),
      subst (AreNewShards c.args.book.now c.args.max_steps) (sym grown) (new_more c.args.book.now c.args.max_steps c.loop-table.shards.items c.new.result c.loop-table.invariant.1 new),
    )

pub returns-clause-many : goal.returns-clause-many
returns-clause-many g c =
    let all = YieldsList-end (YieldsList-from_vec {s = c.into_iter-table-iterator.result} c.args.tables.items (search rules) (search rules)) c.loop-table.yielded c.loop-table.table-iterator c.loop-table.yielded_by c.next.result c.next.new.self c.in-None.is c.next.ensures.steps in
    omega (arith, all.1, c.loop-table.invariant.0, c.requires.many)
