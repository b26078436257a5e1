use Rattle.std.proofs.Common.{refl, rules}
use Rattle.lt_trace_waits.specs.declared.open_wait.WaitFault.TheVariants.{Shape}
use Rattle.lt_trace_waits.proofs.Leads.{shapeless}
use Rattle.lt_trace_waits.proofs.judge.WaitJudge.take_line.Goals as goal

pub returns-in-None-clause-err : goal.returns-in-None-clause-err
returns-in-None-clause-err c = shapeless c.args.self.now c.args.bytes.now Shape refl (search rules)
