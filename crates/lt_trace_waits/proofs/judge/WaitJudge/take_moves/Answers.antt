use Rattle.std.proofs.Common.{arith, rules}
use Rattle.lt_trace_waits.proofs.Leads.{taken, refused}
use Rattle.lt_trace_waits.proofs.judge.WaitJudge.take_moves.Goals as goal

pub returns-in-Err-clause-err : goal.returns-in-Err-clause-err
returns-in-Err-clause-err c = refused c.args.self.now c.args.bytes.now c.args.moves.now c.in-Err.error c.requires.says c.in-Err.ensures.err

pub returns-clause-ok : goal.returns-clause-ok
returns-clause-ok c = taken c.args.self.now _ c.args.bytes.now c.args.moves.now c.requires.says (search rules) (omega arith)
