use Rattle.std.proofs.Common.{◌≡◌, ◌∙◌, Some, bytes_eq, sym, ap, subst}
use Rattle.lt_rules.specs.declared.call.Reply.TheVariants.{Freed}
use Rattle.lt_rules.specs.Step.{step}
use Rattle.lt_lock.specs.Lone.{held, NeedsRows}
use Rattle.lt_lock.proofs.LoneLocks.{answered_elsewhere, changed_step, freed_step, lone_takes, lone_queues, same_key, turn}
use Rattle.lt_lock.proofs.lone.step_alone.Goals as goal

pub returns-in-Answers-clause-some : goal.returns-in-Answers-clause-some
returns-in-Answers-clause-some c = λ pass.
    rw (c.in-Some.is) (answered_elsewhere c.in-Some.alone c.args.key.now c.args.call.now c.in-Answers.reply (turn (bytes_eq c.in-Some.alone.key c.args.key.now) (sym c.if-ne.ensures)) c.in-Answers.ensures pass)

pub returns-in-Takes-clause-none : goal.returns-in-Takes-clause-none
returns-in-Takes-clause-none c = (
  sym c.in-Some.is,
  subst (λ l. NeedsRows l c.args.key.now c.args.call.now) (sym c.in-Some.is) (lone_takes c.in-Some.alone c.args.key.now c.args.call.now c.in-Takes.field-0 (turn (bytes_eq c.in-Some.alone.key c.args.key.now) (sym c.if-ne.ensures)) c.in-Takes.ensures),
)

pub returns-in-Answers-at_lone-clause-some : goal.returns-in-Answers-at_lone-clause-some
returns-in-Answers-at_lone-clause-some c = λ pass.
    let here = same_key _ c.in-Some.alone.key c.args.key.now c.ne.ensures c.if-ne.false in
    rw (c.in-Some.is, sym here, c.at_lone.ensures.key) (changed_step c.in-Some.alone.key (λ r. step r pass c.args.call.now) c.in-Answers-at_lone.reply (held c.in-Some.alone.holder) (held c.at_lone.new.lone.holder) (c.in-Answers-at_lone.ensures.at pass))

pub returns-in-Frees-clause-some : goal.returns-in-Frees-clause-some
returns-in-Frees-clause-some c = λ pass.
    let here = same_key _ c.in-Some.alone.key c.args.key.now c.ne.ensures c.if-ne.false in
    rw (c.in-Some.is, sym here) (freed_step c.in-Some.alone.key (λ r. step r pass c.args.call.now) Freed (held c.in-Some.alone.holder) (c.in-Frees.ensures.at.1 pass))

pub returns-in-NeedsRow-clause-none : goal.returns-in-NeedsRow-clause-none
returns-in-NeedsRow-clause-none c =
    let here = same_key _ c.in-Some.alone.key c.args.key.now c.ne.ensures c.if-ne.false in
    let same : c.at_lone.new.lone ≡ c.in-Some.alone = ap (λ k. record { key = k; holder = c.at_lone.new.lone.holder }) c.at_lone.ensures.key ∙ ap (λ h. record { key = c.in-Some.alone.key; holder = h }) c.in-NeedsRow.ensures.at.0 in (
      ap Some same ∙ sym c.in-Some.is,
      subst (λ l. NeedsRows l c.args.key.now c.args.call.now) (sym c.in-Some.is) (lone_queues c.in-Some.alone c.args.key.now c.args.call.now here c.in-NeedsRow.ensures.at.1),
    )
