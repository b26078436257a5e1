use Rattle.std.proofs.Common.{arith}
use Rattle.lt_checker.proofs.Places.{goes_on, goes_not_on}
use Rattle.lt_checker.proofs.cursor.go_on.Goals as goal

pub returns-then-index-cursor-clause-err : goal.returns-then-index-cursor-clause-err
returns-then-index-cursor-clause-err c = goes_not_on c.args.cursor.now c.args.index (λ e. c.if-index-cursor.true (omega (arith, e)))

pub returns-clause-ok : goal.returns-clause-ok
returns-clause-ok c = goes_on c.args.cursor.now c.args.index (omega (arith, c.if-index-cursor.false, c.requires))
