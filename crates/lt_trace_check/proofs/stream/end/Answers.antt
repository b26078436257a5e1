use Rattle.lt_trace_check.proofs.Streams.{ends_by_check}
use Rattle.lt_trace_check.proofs.stream.end.Goals as goal

pub returns-in-Ok-clause-ok : goal.returns-in-Ok-clause-ok
returns-in-Ok-clause-ok c = record { says = c.in-Ok.ensures.says; accepts = c.in-Ok.ensures.legal; refuses = c.in-Ok.ensures.faulty }

pub returns-in-Err-clause-err : goal.returns-in-Err-clause-err
returns-in-Err-clause-err c =
    ends_by_check c.args.checker c.args.pending.now c.in-Err.refusal
    record { says = c.in-Err.ensures.says; accepts = c.in-Err.ensures.legal; refuses = c.in-Err.ensures.faulty }
