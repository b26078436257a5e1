use Rattle.std.proofs.Common.{rules}
use Rattle.lt_trace_waits.proofs.Leads.{put_in}
use Rattle.lt_trace_waits.proofs.judge.put_wait.Goals as goal

pub returns : goal.returns
returns c = put_in c.args.waits.now c.insert.new.self c.args.number c.args.wait (search rules)
