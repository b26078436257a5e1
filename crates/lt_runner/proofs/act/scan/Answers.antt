use Rattle.std.proofs.Common.{refl}
use Rattle.std.specs.Prelude.{is_some}
use Rattle.lt_runner.specs.declared.answer.LineAnswer.TheVariants.{NoRequest}
use Rattle.lt_runner.specs.Machine.{IsScanned, let_gone_on}
use Rattle.lt_runner.proofs.Doings.{does_none}
use Rattle.lt_runner.proofs.act.scan.Goals as goal

pub returns-in-Free : goal.returns-in-Free
returns-in-Free g c = does_none (IsScanned c.args.table.now.max_waits) is_some let_gone_on c.args.session.now c.args.session.now NoRequest c.in-Free.field-0 c.in-Free.is c.in-Free.is refl (refl, refl, refl) refl refl
