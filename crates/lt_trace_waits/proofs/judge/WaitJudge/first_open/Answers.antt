use Rattle.std.proofs.Common.{rules}
use Rattle.lt_trace_waits.proofs.Leads.{none_open, none_below}
use Rattle.lt_trace_waits.proofs.judge.WaitJudge.first_open.Goals as goal

pub returns-in-Some-clause-some : goal.returns-in-Some-clause-some
returns-in-Some-clause-some c = record { is_open = search rules; least = λ n lt. none_below c.args.self.now.waits c.in-Some.number.now n (search rules) lt }

pub returns-in-None-clause-none : goal.returns-in-None-clause-none
returns-in-None-clause-none c = none_open c.args.self.now.waits (search rules)
