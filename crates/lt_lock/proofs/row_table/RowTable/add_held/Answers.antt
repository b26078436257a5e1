use Rattle.std.proofs.Common.{◌≡◌, ◌∙◌, [], refl, sym, ap, subst}
use Rattle.lt_rules.specs.Rules.{empty, acquire, take_lock}
use Rattle.lt_rules.specs.Table.{AreSound, record_at}
use Rattle.lt_rules.specs.declared.call.Call.TheVariants.{Acquire}
use Rattle.lt_rules.specs.declared.call.Reply.TheVariants.{Taken}
use Rattle.lt_rules.proofs.Lawfulness.{step_keeps_lawful}
use Rattle.lt_rules.proofs.Filled.{acquire_filled}
use Rattle.lt_rules.proofs.Maps.{act_alike, sound_filled}
use Rattle.lt_lock.specs.Linked.{records_of, UpdatesRows}
use Rattle.lt_lock.proofs.LoneLocks.{record_none}
use Rattle.lt_lock.proofs.Tables.{either_way}
use Rattle.lt_lock.proofs.row_table.RowTable.add_held.Goals as goal

pub insert_held-requires-clause-none : goal.insert_held-requires-clause-none
insert_held-requires-clause-none c = ap (λ m. record_at m c.args.key.now) (c.self.view_is ∙ c.requires) ∙ record_none c.args.key.now

sound : (c : goal.After-insert_held) → AreSound (records_of c.insert_held.new.links c.insert_held.new.rows)
sound c =
    let h = c.args.holder.now in
    let k = c.args.key.now in
    let old = records_of c.self.inside.links c.self.inside.rows in
    let new = records_of c.insert_held.new.links c.insert_held.new.rows in
    let none : record_at old k ≡ empty = ap (λ m. record_at m k) (c.self.view_is ∙ c.requires) ∙ record_none k in
    either_way c.insert_held.result (λ done. UpdatesRows c.self.inside.links c.insert_held.new.links c.self.inside.rows c.insert_held.new.rows k (λ r. take_lock r h) [] Taken) (new ≡ old) (AreSound new)
    (λ done went. sound_filled old new k (λ r. acquire r h.txn h.ts) Taken [] (λ q. step_keeps_lawful q 0 (Acquire h.txn h.ts)) (act_alike old new k (λ r. take_lock r h) (λ r. acquire r h.txn h.ts) Taken [] went (rw none refl)) (acquire_filled (record_at old k) h.txn h.ts) c.self.invariant.records_sound)
    (λ same. subst AreSound (sym same) c.self.invariant.records_sound)
    c.insert_held.ensures.ok c.insert_held.ensures.err

pub invariant_of-self : goal.invariant_of-self
invariant_of-self c = record { linked = c.insert_held.ensures.linked; records_sound = sound c }

pub returns-clause-sound : goal.returns-clause-sound
returns-clause-sound c = sound c
