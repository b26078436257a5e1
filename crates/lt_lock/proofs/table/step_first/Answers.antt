use Rattle.std.proofs.Common.{refl}
use Rattle.std.specs.FinMap as finmap
use Rattle.lt_rules.specs.declared.call.Call.TheVariants.{Acquire}
use Rattle.lt_rules.specs.declared.call.Reply.TheVariants.{Taken}
use Rattle.lt_rules.specs.Step.{step}
use Rattle.lt_lock.specs.Lone.{held}
use Rattle.lt_lock.proofs.LoneLocks.{kept_step_none, locked_step, record_none}
use Rattle.lt_lock.proofs.table.step_first.Goals as goal

pub returns-in-Answers-clause-ok : goal.returns-in-Answers-clause-ok
returns-in-Answers-clause-ok c = λ pass.
    rw (c.requires) (kept_step_none finmap.empty c.args.key.now (λ r. step r pass c.args.call.now) c.in-Answers.reply (record_none c.args.key.now) (c.in-Answers.ensures pass))

pub returns-in_ok-taken-in-Takes-clause-ok : goal.returns-in_ok-taken-in-Takes-clause-ok
returns-in_ok-taken-in-Takes-clause-ok c = λ pass.
    let h = c.in-Takes.holder in
    let made = c.in_ok-taken-in-Takes.ensures in
    rw (c.requires, made.key, made.holder, c.in-Takes.ensures) (locked_step c.args.key.now (λ r. step r pass (Acquire h.txn h.ts)) Taken (held h) (record { moved = refl; replied = refl; let_through = refl }))
