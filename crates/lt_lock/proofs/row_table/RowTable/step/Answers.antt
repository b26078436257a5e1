use Rattle.std.proofs.Common.{vec_capacity, sym, subst}
use Rattle.lt_rules.specs.Rules.{Record, Outcome, acquire}
use Rattle.lt_rules.specs.Step.{step}
use Rattle.lt_rules.specs.Memory.{HasRoom}
use Rattle.lt_rules.specs.Table.{IsStep, record_at}
use Rattle.lt_rules.proofs.Lawfulness.{step_keeps_lawful}
use Rattle.lt_rules.proofs.Maps.{step_dropped, sound_dropped}
use Rattle.lt_rules.proofs.Rooms.{acquire_many}
use Rattle.lt_lock.specs.Linked.{records_of}
use Rattle.lt_lock.proofs.Tables.{nothing_stepped, room_of_call, room_dropped}
use Rattle.lt_lock.proofs.row_table.RowTable.step.Goals as goal

pub returns-in_default-clause-ok : goal.returns-in_default-clause-ok
returns-in_default-clause-ok c =
    let at = rw c.in_default.is at c.in_ok-made-in-Answers.ensures.ok in
    let old = records_of c.self.inside.links c.self.inside.rows in
    let act : Record → Outcome = λ r. step r c.args.pass c.args.call.now in
    let went = nothing_stepped c.self.inside.links c.self.inside.rows c.step_row.new.rows c.args.key.now act c.in-Answers.reply c.step_row.new.lets.items (sym at.0) at.2 (c.in-Answers.ensures c.args.pass) at.3 in
    rw (← c.self.view_is) (subst (λ m. IsStep old c.args.key.now act c.in-Answers.reply c.step_row.new.lets.items (records_of m c.step_row.new.rows)) (sym at.1) went)

pub invariant_of-self-in-Answers : goal.invariant_of-self-in-Answers
invariant_of-self-in-Answers c =
    let at = rw c.in-Some.is at c.in_ok-made-in-Answers.ensures.ok in
    record {
      linked = c.drop_emptied.ensures.linked;
      records_sound = sound_dropped (records_of c.self.inside.links c.self.inside.rows) (records_of c.step_row.new.links c.step_row.new.rows) (records_of c.drop_emptied.new.links c.drop_emptied.new.rows) c.args.key.now (λ r. step r c.args.pass c.args.call.now) c.in-Some.made.reply c.step_row.new.lets.items (λ r. step_keeps_lawful r c.args.pass c.args.call.now) at.0 c.drop_emptied.ensures.records c.self.invariant.records_sound;
    }

pub returns-in-Takes-clause-room : goal.returns-in-Takes-clause-room
returns-in-Takes-clause-room c = λ has.
    let old = records_of c.self.inside.links c.self.inside.rows in
    let asked = c.in-Takes.holder in
    room_of_call c.acquire_key.result old (records_of c.acquire_key.new.links c.acquire_key.new.rows) c.args.key.now (λ r. acquire r asked.txn asked.ts) c.acquire_key.new.lets.items (vec_capacity c.args.lets.now) (vec_capacity c.acquire_key.new.lets) c.acquire_key.ensures.ok c.acquire_key.ensures.err c.acquire_key.ensures.kept (acquire_many (record_at old c.args.key.now) asked.txn asked.ts) (subst (λ m. HasRoom m (vec_capacity c.args.lets.now)) (sym c.self.view_is) has)

pub returns-in-Some-clause-ok : goal.returns-in-Some-clause-ok
returns-in-Some-clause-ok c =
    let at = rw c.in-Some.is at c.in_ok-made-in-Answers.ensures.ok in
    rw (← c.self.view_is) (step_dropped (records_of c.self.inside.links c.self.inside.rows) (records_of c.step_row.new.links c.step_row.new.rows) (records_of c.drop_emptied.new.links c.drop_emptied.new.rows) c.args.key.now (λ r. step r c.args.pass c.args.call.now) c.in-Some.made.reply c.step_row.new.lets.items at.0 c.drop_emptied.ensures.records)

pub returns-in-Some-clause-sound : goal.returns-in-Some-clause-sound
returns-in-Some-clause-sound c = (invariant_of-self-in-Answers c).records_sound

pub returns-in-Some-clause-room : goal.returns-in-Some-clause-room
returns-in-Some-clause-room c = λ has.
    room_dropped (records_of c.step_row.new.links c.step_row.new.rows) (records_of c.drop_emptied.new.links c.drop_emptied.new.rows) c.args.key.now (vec_capacity c.step_row.new.lets) c.drop_emptied.ensures.records (c.step_row.ensures.room (subst (λ m. HasRoom m (vec_capacity c.args.lets.now)) (sym c.self.view_is) has))
