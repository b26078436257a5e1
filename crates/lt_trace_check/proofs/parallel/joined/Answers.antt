use Rattle.lt_trace_check.proofs.PieceJoins.{joins}
use Rattle.lt_trace_check.proofs.parallel.joined.Goals as goal

pub returns-in-Ok : goal.returns-in-Ok
returns-in-Ok c = λ known version. joins known version c.args.prefix c.args.piece c.in-Ok.checker c.if-to-piece.false c.in-Ok.ensures.ok
