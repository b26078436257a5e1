use Rattle.std.proofs.Common.{List, ℕ, sym, subst, ◌∙◌}
use Rattle.lt_handles.specs.declared.held_check.TextCheck.{TextCheck}
use Rattle.lt_handles.specs.CheckPieces.{HasHeard, IsPiecesVerdict}
use Rattle.lt_checker.specs.Pieces.{SaysAtEnd, AcceptsAtEnd, RefusesAtEnd}
use Rattle.lt_handles.proofs.Hearing.{verdict_of, verdict_at_end, verdict_once_over}
use Rattle.lt_handles.proofs.held_check.HeldCheck.end.Goals as goal

pub returns-in-Beginning : goal.returns-in-Beginning
returns-in-Beginning c = λ text h fits.
    subst (λ (t : List ℕ). IsPiecesVerdict t c.check.result) (c.deref.ensures.value ∙ sym (subst (λ (k : TextCheck). HasHeard k c.args.self.pending.items text) c.in-Beginning.is h))
    (verdict_of c.deref.result.now c.check.result c.check.ensures.says c.check.ensures.legal c.check.ensures.faulty)

pub returns-in-Lines : goal.returns-in-Lines
returns-in-Lines c = λ text h fits.
    let s = c.deref-in-Lines.ensures.value in
    verdict_at_end c.in-Lines.checker c.args.self.pending.items text c.end.result
    (subst (λ (t : List ℕ). SaysAtEnd c.in-Lines.checker t c.end.result) s c.end.ensures.says)
    (subst (λ (t : List ℕ). AcceptsAtEnd c.in-Lines.checker t c.end.result) s c.end.ensures.legal)
    (subst (λ (t : List ℕ). RefusesAtEnd c.in-Lines.checker t c.end.result) s c.end.ensures.faulty)
    (subst (λ (k : TextCheck). HasHeard k c.args.self.pending.items text) c.in-Lines.is h) fits

pub returns : goal.returns
returns c = λ text h fits.
    verdict_once_over c.in-Over.error text (subst (λ (k : TextCheck). HasHeard k c.args.self.pending.items text) c.in-Over.is h) fits
