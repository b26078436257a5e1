use Rattle.std.proofs.Common.{rules}
use Rattle.lt_checker.proofs.pieces.Checker.may_join.Goals as goal

pub returns-in-Some-Some : goal.returns-in-Some-Some
returns-in-Some-Some c = search rules
