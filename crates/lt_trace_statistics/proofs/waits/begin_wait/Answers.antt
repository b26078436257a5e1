use Rattle.std.proofs.Common.{rules}
use Rattle.lt_trace_statistics.proofs.ByNumber.{begins}
use Rattle.lt_trace_statistics.proofs.waits.begin_wait.Goals as goal

pub returns-in_ok-insert : goal.returns-in_ok-insert
returns-in_ok-insert c =
    begins c.args.pending.now c.insert.new.self c.args.step.now.call c.args.step.now.reply c.args.step.now.index c.in-Visit.ticket c.in-Visit.txn c.in-Visit.ts c.in-Visit.access c.in-Visit.longest c.in-Visit.is (search rules) (search rules)
