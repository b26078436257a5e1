use Rattle.std.proofs.Common.{◌∙◌, [], ap, sym, subst}
use Rattle.std.proofs.lemmas.Result.{on_ok_weaker}
use Rattle.std.specs.FinMap.{get, get-empty}
use Rattle.lt_rules.specs.Rules.{take_lock}
use Rattle.lt_rules.specs.declared.call.Reply.TheVariants.{Taken}
use Rattle.lt_rules.specs.Table.{AreSound, IsStep}
use Rattle.lt_rules.proofs.Maps.{order}
use Rattle.lt_lock.specs.Hot.{with_hot, IsWithHot}
use Rattle.lt_lock.proofs.HotKeys.{no_hot, sound_with_hot, sound_hot, first_kept, first_step}
use Rattle.lt_lock.proofs.hot_table.HotTable.add_held.Goals as goal

pub add_held-requires : goal.add_held-requires
add_held-requires c = (no_hot c.self.inside.hot c.self.inside.kept c.self.inside.rows (c.self.view_is ∙ c.requires)).1

pub invariant_of-self : goal.invariant_of-self
invariant_of-self c =
    let n = no_hot c.self.inside.hot c.self.inside.kept c.self.inside.rows (c.self.view_is ∙ c.requires) in
    let w = subst (λ o. IsWithHot o c.self.inside.kept c.self.inside.rows) n.0 c.self.invariant in
    subst (λ o. IsWithHot o c.self.inside.kept c.add_held.new.self) (sym n.0) (record { sound = c.add_held.ensures.sound; apart = tt; filled = tt; spare = w.spare })

pub returns-then-not-waits-clause-ok : goal.returns-then-not-waits-clause-ok
returns-then-not-waits-clause-ok c =
    let n = no_hot c.self.inside.hot c.self.inside.kept c.self.inside.rows (c.self.view_is ∙ c.requires) in
    on_ok_weaker c.add_held.result (λ step.
    subst (λ o. IsStep c.args.self.now c.args.key.now (λ r. take_lock r c.args.holder.now) Taken [] (with_hot o c.self.inside.kept c.add_held.new.self)) (sym n.0)
    (subst (λ m. IsStep m c.args.key.now (λ r. take_lock r c.args.holder.now) Taken [] c.add_held.new.self) (n.1 ∙ sym c.requires) step))
    c.add_held.ensures.ok

pub returns-then-not-waits-clause-sound : goal.returns-then-not-waits-clause-sound
returns-then-not-waits-clause-sound c = sound_with_hot c.self.inside.hot c.self.inside.kept c.add_held.new.self (invariant_of-self c)

pub returns-in_err-copy-clause-sound : goal.returns-in_err-copy-clause-sound
returns-in_err-copy-clause-sound c = subst AreSound c.self.view_is (sound_with_hot c.self.inside.hot c.self.inside.kept c.self.inside.rows c.self.invariant)

pub hold-requires : goal.hold-requires
hold-requires c =
    let n = no_hot c.self.inside.hot c.self.inside.kept c.self.inside.rows (c.self.view_is ∙ c.requires) in
    (subst (λ o. IsWithHot o c.self.inside.kept c.self.inside.rows) n.0 c.self.invariant).spare

pub returns-in_err-hold-clause-sound : goal.returns-in_err-hold-clause-sound
returns-in_err-hold-clause-sound c = subst (λ o. AreSound (with_hot c.self.inside.hot o c.self.inside.rows)) (sym c.in_err-hold.ensures.err) (sound_with_hot c.self.inside.hot c.self.inside.kept c.self.inside.rows c.self.invariant)

pub invariant_of-self-2 : goal.invariant_of-self-2
invariant_of-self-2 c =
    let n = no_hot c.self.inside.hot c.self.inside.kept c.self.inside.rows (c.self.view_is ∙ c.requires) in record {
      sound = c.self.invariant.sound;
      apart = ap (λ m. get m c.in_ok-copy.copy) n.1 ∙ get-empty order c.in_ok-copy.copy;
      filled = first_kept c.hold.new.kept c.args.holder.now c.in_ok-hold.ensures.ok;
      spare = tt;
    }

pub returns-clause-ok : goal.returns-clause-ok
returns-clause-ok c =
    let n = no_hot c.self.inside.hot c.self.inside.kept c.self.inside.rows (c.self.view_is ∙ c.requires) in
    rw (c.requires, c.in_ok-copy.ensures.same) (first_step c.hold.new.kept c.self.inside.rows c.args.key.now c.args.holder.now n.1 c.in_ok-hold.ensures.ok)

pub returns-clause-sound : goal.returns-clause-sound
returns-clause-sound c = sound_hot c.self.inside.rows c.in_ok-copy.copy _ c.self.invariant.sound (first_kept c.hold.new.kept c.args.holder.now c.in_ok-hold.ensures.ok)
