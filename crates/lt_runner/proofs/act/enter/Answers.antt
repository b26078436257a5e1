use Rattle.std.proofs.Common.{ℕ, [], ◌∷◌, Some, refl, ap, sym, subst, rules}
use Rattle.lt_walk.specs.Entered.{IsEntered}
use Rattle.lt_walk.specs.Machine.{WalkState}
use Rattle.lt_runner.specs.Outcomes.{OutcomeTells}
use Rattle.lt_runner.proofs.Doings.{is_entered}
use Rattle.lt_runner.proofs.Telling.{tells_entered}
use Rattle.lt_runner.proofs.act.enter.Goals as goal

pub returns-in-Ok-clause-does : goal.returns-in-Ok-clause-does
returns-in-Ok-clause-does g c =
    let e : IsEntered c.args.pass c.args.opening.now.accesses.now c.args.opening.now.txn c.args.opening.now.ts c.args.opening.now.longest c.args.opening.now.host.now.table.now.max_requests c.in-Ok.guard = c.in-Ok.ensures.entered in
    record {
      word = 0;
      steps = [];
      done = (
        refl,
        record {
          some = e.some;
          few = e.few;
          keys = c.in-Ok.guard.walk.asked.keys;
          list = e.keys;
          state = ap (λ (w : WalkState). Some w) (is_entered c.in-Ok.guard.walk c.number-number.result c.args.opening.now.txn c.args.opening.now.ts c.args.opening.now.longest c.number-number.ensures.number e.txn_is e.ts_is e.longest_is e.progress e.answers);
        },
      );
      tells = subst (λ (n : ℕ). OutcomeTells c.args.pass c.in-Ok.guard.pass [] (n ∷ []) []) (sym c.number-number.ensures.number) (tells_entered c.args.pass c.args.opening.now.accesses.now c.args.opening.now.txn c.args.opening.now.ts c.args.opening.now.longest c.args.opening.now.host.now.table.now.max_requests c.in-Ok.guard e);
      heard = tt;
    }

pub returns-after-error-clause-numbers_out : goal.returns-after-error-clause-numbers_out
returns-after-error-clause-numbers_out c = search rules
