use Rattle.std.proofs.Common.{inl, subst, arith, rules}
use Rattle.lt_checker.specs.Pieces.{LacksHeader}
use Rattle.lt_handles.proofs.held_check.begun.Goals as goal

pub returns-in_default : goal.returns-in_default
returns-in_default c = λ after.
    subst LacksHeader c.deref.ensures.value (c.in_default.ensures.none (search rules)) after (inl (omega (arith, c.if-len-lt8.false, c.len.ensures)))
