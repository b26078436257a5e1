use Rattle.lt_trace_statistics.proofs.ByNumber.{removed}
use Rattle.lt_trace_statistics.proofs.waits.drop_mover.Goals as goal

pub returns-in-Some : goal.returns-in-Some
returns-in-Some c = λ waits has. rw (← c.mover_of.ensures, c.in-Some.is) (removed c.args.pending.now c.remove.new.self c.in-Some.number c.remove.ensures.updates waits has)
