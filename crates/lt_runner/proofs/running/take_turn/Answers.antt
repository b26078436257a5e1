use Rattle.std.proofs.Common.{◌≡◌, ◌<◌, ◌-◌, ℕ, Some, None, refl, subst, ◌∙◌, length, set, arith}
use Rattle.std.proofs.lemmas.Result.{IfOk-weaker}
use Rattle.lt_runner.specs.Turns.{slot_at}
use Rattle.lt_runner.proofs.Slots.{any_default}
use Rattle.lt_runner.proofs.running.take_turn.Goals as goal

pub returns : goal.returns
returns g c =
    let n : ℕ = c.number-number.result in
    let is : n ≡ c.args.command.now.pass = c.number-number.ensures.value in
    let lt : n - 1 < length c.args.slots.now = omega (arith, is, c.requires.low, c.requires.high) in
    IfOk-weaker c.turn_of.result _ _ (λ done turn. record {
      before = c.in-Some.work;
      session = turn.session;
      after = c.turn_of.new.work;
      was = subst (λ (k : ℕ). slot_at c.args.slots.now (k - 1) ≡ Some c.in-Some.work) is (any_default c.args.slots.now (n - 1) None c.index-slots-index.result lt ∙ c.in-Some.is);
      learns = turn.learns;
      goes_on = turn.goes_on;
      of = turn.of;
      seen_is = turn.seen_is;
      shown_is = turn.shown_is;
      others = subst (λ (k : ℕ). set c.args.slots.now (n - 1) (Some c.turn_of.new.work) ≡ set c.args.slots.now (k - 1) (Some c.turn_of.new.work)) is refl;
    }) c.turn_of.ensures
