use Rattle.std.proofs.Common.{Option, Some, subst}
use Rattle.std.specs.Prelude.{IfSome}
use Rattle.std.proofs.lemmas.List.Elements.{All-pop}
use Rattle.lt_trace_check.specs.declared.parallel.CheckedPiece.{CheckedPiece}
use Rattle.lt_trace_check.specs.Parallel.{IsCheckedPiece}
use Rattle.lt_trace_check.proofs.parallel.all_joined.Goals as goal

pub loop-piece-preserved : goal.loop-piece-preserved
loop-piece-preserved c = λ known version all.
    let before = c.loop-piece.invariant known version all in
    let left = All-pop (λ (p : Option CheckedPiece). IfSome p (IsCheckedPiece known version)) c.loop-piece.pieces.items c.pop.new.self.items (Some c.in-Some-Some.field-0) c.in-Some-Some.ensures.items before.1 in
    ((λ h. c.joined-prefix.ensures known version (subst (λ (p : Option CheckedPiece). IfSome p (IsCheckedPiece known version)) c.in-Some-Some.field-0-is left.1) (before.0 h)), left.0)

pub returns : goal.returns
returns c = λ known version all. (c.loop-piece.invariant known version all).0
