use Rattle.lt_trace_waits.proofs.Leads.{taken_out}
use Rattle.lt_trace_waits.proofs.judge.drop_wait.Goals as goal

pub returns : goal.returns
returns c = taken_out c.args.waits.now c.remove.new.self c.args.number c.remove.ensures.updates
