use Rattle.std.proofs.Common.{◌∷◌, [], arith, rules, ap, ◌∙◌, length, length-append}
use Rattle.std.proofs.lemmas.Iterator.Adapters.{YieldsList-from_vec}
use Rattle.std.proofs.lemmas.Iterator.Consumers.{YieldsList-turn, YieldsList-end}
use Rattle.lt_table_core.proofs.Starts.{slot_more}
use Rattle.lt_table_core.proofs.closing.slots_back.Goals as goal

pub push_reserved-requires : goal.push_reserved-requires
push_reserved-requires g c =
    let turn = YieldsList-turn (YieldsList-from_vec {s = c.into_iter-shard-iterator.result} c.args.shards.items (search rules) (search rules)) c.loop-shard.yielded c.loop-shard.shard-iterator c.loop-shard.yielded_by c.next.result c.next.new.self c.in-Some.shard c.in-Some.is c.next.ensures.steps in
    omega (arith, turn.0, c.loop-shard.invariant.0, c.loop-shard.invariant.1, c.requires.room, c.loop-shard.slots.ok.0)

pub loop-shard-preserved : goal.loop-shard-preserved
loop-shard-preserved g c =
    let grown = c.push_reserved.ensures.items in (
      omega (arith, ap length grown, length-append c.loop-shard.slots.items (c.back.result ∷ []), length-append c.loop-shard.yielded (c.in-Some.shard ∷ []), c.loop-shard.invariant.0),
      search rules,
      slot_more (λ s. s.label) c.args.max_steps c.loop-shard.slots.items c.back.result c.loop-shard.invariant.2 grown (c.back.ensures.label ∙ ap (λ n. record { index = n; max_steps = c.args.max_steps }) (omega (arith, c.len.ensures, c.loop-shard.slots.ok.0))),
    )

pub returns-clause-many : goal.returns-clause-many
returns-clause-many g c =
    let all = YieldsList-end (YieldsList-from_vec {s = c.into_iter-shard-iterator.result} c.args.shards.items (search rules) (search rules)) c.loop-shard.yielded c.loop-shard.shard-iterator c.loop-shard.yielded_by c.next.result c.next.new.self c.in-None.is c.next.ensures.steps in
    omega (arith, all.1, c.loop-shard.invariant.0)
