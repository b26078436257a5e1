use Rattle.std.proofs.Common.{refl}
use Rattle.lt_runner.specs.declared.answer.LineAnswer.TheVariants.{Busy}
use Rattle.lt_runner.specs.Machine.{IsOpenAnswered}
use Rattle.lt_runner.specs.Execution.{no_lets, no_word}
use Rattle.lt_runner.proofs.Doings.{does_open}
use Rattle.lt_runner.proofs.act.entered.Goals as goal

pub returns-in-Open-clause-does : goal.returns-in-Open-clause-does
returns-in-Open-clause-does g c = does_open (IsOpenAnswered c.args.opening.now.txn c.args.opening.now.ts c.args.opening.now.accesses.now c.args.opening.now.longest) no_word no_lets c.args.session c.in-Open.guard Busy c.in-Open.is (refl, refl, refl) refl refl refl
