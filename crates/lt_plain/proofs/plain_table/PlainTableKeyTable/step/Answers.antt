use Rattle.std.proofs.Common.{subst, sym, vec_capacity}
use Rattle.lt_rules.specs.Step.{step}
use Rattle.lt_rules.specs.Table.{Records}
use Rattle.lt_rules.specs.Memory.{HasRoom}
use Rattle.lt_rules.proofs.Lawfulness.{step_keeps_lawful}
use Rattle.lt_rules.proofs.Maps.{step_dropped, sound_dropped}
use Rattle.lt_plain.specs.Plain.{tree_records}
use Rattle.lt_plain.proofs.Trees.{room_dropped}
use Rattle.lt_plain.proofs.plain_table.PlainTableKeyTable.step.Goals as goal

pub returns-clause-ok : goal.returns-clause-ok
returns-clause-ok c = rw (← c.self.view_is) (step_dropped (tree_records c.self.inside.records) (tree_records c.step_at.new.records) (tree_records c.drop_if_empty.new.records) c.args.key.now (λ r. step r c.args.pass c.args.call.now) c.in_ok-reply.reply c.step_at.new.lets.items c.in_ok-reply.ensures.ok c.drop_if_empty.ensures)

pub invariant_of-self-2 : goal.invariant_of-self-2
invariant_of-self-2 c = sound_dropped (tree_records c.self.inside.records) (tree_records c.step_at.new.records) (tree_records c.drop_if_empty.new.records) c.args.key.now (λ r. step r c.args.pass c.args.call.now) c.in_ok-reply.reply c.step_at.new.lets.items (λ r. step_keeps_lawful r c.args.pass c.args.call.now) c.in_ok-reply.ensures.ok c.drop_if_empty.ensures c.self.invariant

pub returns-clause-sound : goal.returns-clause-sound
returns-clause-sound c = sound_dropped (tree_records c.self.inside.records) (tree_records c.step_at.new.records) (tree_records c.drop_if_empty.new.records) c.args.key.now (λ r. step r c.args.pass c.args.call.now) c.in_ok-reply.reply c.step_at.new.lets.items (λ r. step_keeps_lawful r c.args.pass c.args.call.now) c.in_ok-reply.ensures.ok c.drop_if_empty.ensures c.self.invariant

pub returns-clause-room : goal.returns-clause-room
returns-clause-room c has =
    room_dropped (tree_records c.step_at.new.records) (tree_records c.drop_if_empty.new.records) c.args.key.now (vec_capacity c.step_at.new.lets) c.drop_if_empty.ensures
    (c.step_at.ensures.room (subst (λ (m : Records). HasRoom m (vec_capacity c.args.lets.now)) (sym c.self.view_is) has))
