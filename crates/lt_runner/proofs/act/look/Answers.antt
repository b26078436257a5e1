use Rattle.std.proofs.Common.{refl}
use Rattle.lt_runner.specs.declared.answer.LineAnswer.TheVariants.{NoRequest}
use Rattle.lt_runner.specs.Machine.{IsLooked}
use Rattle.lt_runner.specs.Execution.{no_lets, no_word}
use Rattle.lt_runner.proofs.Doings.{does_none}
use Rattle.lt_runner.proofs.act.look.Goals as goal

pub returns-in-Free : goal.returns-in-Free
returns-in-Free g c = does_none (IsLooked c.args.key.now) no_word no_lets c.args.session.now c.args.session.now NoRequest c.in-Free.field-0 c.in-Free.is c.in-Free.is refl (refl, refl, refl) refl refl
