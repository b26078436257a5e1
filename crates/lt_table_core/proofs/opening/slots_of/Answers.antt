use Rattle.std.proofs.Common.{◌≡◌, ◌∷◌, [], arith, rules, ap, subst, ◌∙◌, length, length-append}
use Rattle.std.proofs.lemmas.Iterator.Adapters.{YieldsList-from_vec}
use Rattle.std.proofs.lemmas.Iterator.Consumers.{YieldsList-turn, YieldsList-end}
use Rattle.std.specs.Prelude.{IfOk}
use Rattle.lt_shard.specs.Shards.{new_shard}
use Rattle.lt_table_core.proofs.Starts.{slot_more}
use Rattle.lt_table_core.proofs.opening.slots_of.Goals as goal

pub new-requires : goal.new-requires
new-requires g c =
    let turn = YieldsList-turn (YieldsList-from_vec {s = c.into_iter-shard-iterator.result} c.args.shards.items (search rules) (search rules)) c.loop-shard.yielded c.loop-shard.shard-iterator c.loop-shard.yielded_by c.next.result c.next.new.self c.in-Some.shard c.in-Some.is c.next.ensures.steps in
    let index : length c.loop-shard.yielded ≡ c.len.result = omega (arith, c.len.ensures, c.loop-shard.slots.ok.0, c.loop-shard.invariant.0) in
    record { new = turn.1 ∙ c.requires.new (length c.loop-shard.yielded) c.in-Some.shard turn.0 ∙ ap (λ s. new_shard g.N.Name.of s c.args.max_steps) index; fits = subst (λ r. IfOk r (λ v. g.V.ShardValue.fits [] v)) c.in_ok-value.was (c.requires.fit c.len.result c.make.result c.make.ensures) }

pub loop-shard-preserved : goal.loop-shard-preserved
loop-shard-preserved g c =
    let grown = c.in_ok-push.ensures.items in (
      omega (arith, ap length grown, length-append c.loop-shard.slots.items (c.new.result ∷ []), length-append c.loop-shard.yielded (c.in-Some.shard ∷ []), c.loop-shard.invariant.0),
      slot_more (λ s. s.label) c.args.max_steps c.loop-shard.slots.items c.new.result c.loop-shard.invariant.1 grown (c.new.ensures.label ∙ ap (λ n. record { index = n; max_steps = c.args.max_steps }) (omega (arith, c.len.ensures, c.loop-shard.slots.ok.0))),
    )

pub returns-clause-many : goal.returns-clause-many
returns-clause-many g c =
    let all = YieldsList-end (YieldsList-from_vec {s = c.into_iter-shard-iterator.result} c.args.shards.items (search rules) (search rules)) c.loop-shard.yielded c.loop-shard.shard-iterator c.loop-shard.yielded_by c.next.result c.next.new.self c.in-None.is c.next.ensures.steps in
    omega (arith, all.1, c.loop-shard.invariant.0)
