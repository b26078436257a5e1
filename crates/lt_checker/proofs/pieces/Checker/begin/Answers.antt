use Rattle.std.proofs.Common.{rules}
use Rattle.lt_checker.proofs.pieces.Checker.begin.Goals as goal

pub returns-in-Some-strip_prefix-clause-some : goal.returns-in-Some-strip_prefix-clause-some
returns-in-Some-strip_prefix-clause-some c = search rules
