use Rattle.std.proofs.Common.{ℕ, List, subst, rules}
use Rattle.lt_checker.specs.Pieces.{RefusesFrom}
use Rattle.lt_trace_check.proofs.Streams.{refused_by_check}
use Rattle.lt_trace_check.proofs.stream.take_pending.Goals as goal

pub returns-in-Err-clause-err : goal.returns-in-Err-clause-err
returns-in-Err-clause-err c =
    refused_by_check c.args.checker.now c.args.pending.now.items c.in-Err.refusal
    (subst (λ (t : List ℕ). RefusesFrom c.args.checker.now t c.in-Err.refusal) c.deref.ensures.value c.in-Err.ensures.err)

pub returns-clause-ok : goal.returns-clause-ok
returns-clause-ok c = search rules
