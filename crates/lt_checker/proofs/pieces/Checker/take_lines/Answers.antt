use Rattle.std.proofs.Common.{sym, ap, subst, arith, rules}
use Rattle.lt_checker.specs.Pieces.{RefusesFrom}
use Rattle.lt_checker.proofs.PieceLaws.{moves_on, refuses}
use Rattle.lt_checker.proofs.pieces.Checker.take_lines.Goals as goal

pub returns-in-Err-clause-err : goal.returns-in-Err-clause-err
returns-in-Err-clause-err c =
    subst (RefusesFrom c.args.self.now c.args.piece.now) (sym c.located.ensures)
    (refuses c.args.self.now c.loop-line.self c.args.piece.now c.loop-line.rest.now c.in-Some.line.now c.in-Some.after.now c.in-Err.refusal c.saturating_add.result c.loop-line.invariant c.in-Some.ensures c.in-Err.ensures.err
    (λ lt. omega (arith, c.saturating_add.ensures, ap (λ r. r.steps) c.in-Err.ensures.report, lt)))

pub loop-line-preserved : goal.loop-line-preserved
loop-line-preserved c = moves_on c.args.self.now c.loop-line.self c.pass_line.new.self c.args.piece.now c.loop-line.rest.now c.in-Some.line.now c.in-Some.after.now c.loop-line.invariant c.in-Some.ensures (search rules)
