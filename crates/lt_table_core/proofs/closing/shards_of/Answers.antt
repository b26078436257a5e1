use Rattle.std.proofs.Common.{arith, rules}
use Rattle.std.proofs.lemmas.Iterator.Adapters.{YieldsList-from_vec}
use Rattle.std.proofs.lemmas.Iterator.Consumers.{YieldsList-turn, YieldsList-end}
use Rattle.lt_table_core.proofs.closing.shards_of.Goals as goal

pub push_reserved-requires : goal.push_reserved-requires
push_reserved-requires g c =
    let turn = YieldsList-turn (YieldsList-from_vec {s = c.into_iter-slot-iterator.result} c.args.slots.items (search rules) (search rules)) c.loop-slot.yielded c.loop-slot.slot-iterator c.loop-slot.yielded_by c.next.result c.next.new.self c.in-Some.slot c.in-Some.is c.next.ensures.steps in
    omega (arith, turn.0, c.loop-slot.invariant.0, c.loop-slot.invariant.1, c.requires.room, c.loop-slot.shards.ok.0)

pub returns : goal.returns
returns g c =
    let all = YieldsList-end (YieldsList-from_vec {s = c.into_iter-slot-iterator.result} c.args.slots.items (search rules) (search rules)) c.loop-slot.yielded c.loop-slot.slot-iterator c.loop-slot.yielded_by c.next.result c.next.new.self c.in-None.is c.next.ensures.steps in
    omega (arith, all.1, c.loop-slot.invariant.0)
