use Rattle.std.proofs.Common.{sym, ap, subst, arith}
use Rattle.lt_checker.specs.Pieces.{RefusesFrom}
use Rattle.lt_checker.proofs.PieceLaws.{moves_nowhere, moves_on, refuses}
use Rattle.lt_checker.proofs.pieces.Checker.take_line.Goals as goal

pub returns-in-Ok-clause-ok : goal.returns-in-Ok-clause-ok
returns-in-Ok-clause-ok c = record {
  moves = moves_on c.args.self.now c.args.self.now c.follow_line.new.self c.args.piece.now c.args.piece.now c.in-Some.bytes.now c.in-Some.after.now (moves_nowhere c.args.self.now c.args.piece.now) c.in-Some.ensures c.in-Ok.ensures.ok;
  bytes = c.in-Some.bytes.now;
  is_first = c.in-Some.ensures;
  says = c.in-Ok.ensures.line;
}

pub returns-in-Err-clause-err : goal.returns-in-Err-clause-err
returns-in-Err-clause-err c =
    subst (RefusesFrom c.args.self.now c.args.piece.now) (sym c.located.ensures)
    (refuses c.args.self.now c.args.self.now c.args.piece.now c.args.piece.now c.in-Some.bytes.now c.in-Some.after.now c.in-Err.refusal c.saturating_add.result (moves_nowhere c.args.self.now c.args.piece.now) c.in-Some.ensures c.in-Err.ensures.err
    (λ lt. omega (arith, c.saturating_add.ensures, ap (λ r. r.steps) c.in-Err.ensures.report, lt)))
