use Rattle.std.proofs.Common.{arith, rules}
use Rattle.lt_checker.proofs.PieceLaws.{refused_at_end, accepted_at_end, cut_off_at_end}
use Rattle.lt_checker.proofs.pieces.Checker.judge.Goals as goal

pub returns-in-Err : goal.returns-in-Err
returns-in-Err c = refused_at_end c.args.self.now c.args.rest.now c.in-Err.refusal c.in-Err.ensures.err

pub returns-then-is_empty : goal.returns-then-is_empty
returns-then-is_empty c = accepted_at_end c.args.self.now c.take_lines.new.self c.args.rest.now c.in-Ok.left.now c.in-Ok.ensures.ok.0 (search rules)

pub returns : goal.returns
returns c =
    cut_off_at_end c.args.self.now c.take_lines.new.self c.args.rest.now c.in-Ok.left.now c.saturating_add.result c.in-Ok.ensures.ok.0 c.in-Ok.ensures.ok.1 (search rules)
    (λ lt. omega (arith, c.saturating_add.ensures, lt))
