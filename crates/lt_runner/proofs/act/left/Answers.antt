use Rattle.std.proofs.Common.{refl}
use Rattle.lt_runner.specs.declared.session.Session.TheVariants.{Free}
use Rattle.lt_runner.specs.declared.answer.LineAnswer.TheVariants.{NoRequest}
use Rattle.lt_runner.specs.Machine.{IsLeaveAnswered}
use Rattle.lt_runner.specs.Execution.{no_lets, no_word}
use Rattle.lt_runner.proofs.Doings.{does_none}
use Rattle.lt_runner.proofs.act.left.Goals as goal

pub returns-in-Free : goal.returns-in-Free
returns-in-Free g c = does_none IsLeaveAnswered no_word no_lets c.args.session (Free c.in-Free.pass) NoRequest c.in-Free.pass c.in-Free.is refl refl (refl, refl, refl) refl refl
