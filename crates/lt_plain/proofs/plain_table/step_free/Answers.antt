use Rattle.std.proofs.Common.{refl, subst, [], inl}
use Rattle.std.proofs.lemmas.Result.{IfOk-weaker}
use Rattle.lt_rules.specs.declared.call.Call.{Call}
use Rattle.lt_rules.specs.declared.call.Call.TheVariants.{Acquire}
use Rattle.lt_rules.specs.Rules.{Record, TakesNoMemory, take_lock}
use Rattle.lt_rules.specs.Step.{step}
use Rattle.lt_rules.specs.Table.{IsStep, record_at}
use Rattle.lt_rules.proofs.Maps.{act_alike}
use Rattle.lt_plain.specs.Plain.{tree_records}
use Rattle.lt_plain.proofs.Rooms.{on_err}
use Rattle.lt_plain.proofs.Trees.{act_answers}
use Rattle.lt_plain.proofs.plain_table.step_free.Goals as goal

pub returns-in-Answers-clause-ok : goal.returns-in-Answers-clause-ok
returns-in-Answers-clause-ok c =
    act_answers (tree_records c.args.records.now) c.args.key.now (λ r. step r c.args.pass c.args.call.now) c.in-Answers.reply c.requires (c.in-Answers.ensures c.args.pass)

pub returns-in-Takes-clause-ok : goal.returns-in-Takes-clause-ok
returns-in-Takes-clause-ok c =
    IfOk-weaker c.insert_held.result (λ reply. IsStep (tree_records c.args.records.now) c.args.key.now (λ r. take_lock r c.in-Takes.holder) reply [] (tree_records c.insert_held.new.records)) _
    (λ reply is. act_alike (tree_records c.args.records.now) (tree_records c.insert_held.new.records) c.args.key.now _ (λ r. step r c.args.pass c.args.call.now) reply [] is (rw (c.requires, c.in-Takes.ensures) refl))
    c.insert_held.ensures.ok

pub returns-in-Takes-clause-no_memory : goal.returns-in-Takes-clause-no_memory
returns-in-Takes-clause-no_memory c t =
    let call : Call = Acquire c.in-Takes.holder.txn c.in-Takes.holder.ts in
    let at_call = subst (λ (x : Call). TakesNoMemory (record_at (tree_records c.args.records.now) c.args.key.now) (step (record_at (tree_records c.args.records.now) c.args.key.now) c.args.pass x)) c.in-Takes.ensures t in
    absurd (subst (λ (r : Record). TakesNoMemory r (step r c.args.pass call)) c.requires at_call)

pub returns-in-Takes-clause-full : goal.returns-in-Takes-clause-full
returns-in-Takes-clause-full c = on_err c.insert_held.result _ (λ room. rw c.in-Takes.ensures (inl refl))
