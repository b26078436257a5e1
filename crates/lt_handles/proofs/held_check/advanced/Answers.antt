use Rattle.std.proofs.Common.{List, ℕ, ◌++◌, sym, subst}
use Rattle.lt_checker.specs.Pieces.{HasTaken, RefusesFrom, TakesLines}
use Rattle.lt_handles.specs.CheckPieces.{IsTakenUpTo}
use Rattle.lt_handles.proofs.Hearing.{refused_by, takes_on}
use Rattle.lt_handles.proofs.held_check.advanced.Goals as goal

pub returns-in-Err : goal.returns-in-Err
returns-in-Err c = λ before h fits.
    refused_by c.args.checker before c.args.pending.now.items c.in-Err.error
    (subst (λ (t : List ℕ). RefusesFrom c.args.checker t c.in-Err.error) c.deref.ensures.value c.in-Err.ensures.err) h fits

pub returns : goal.returns
returns c = λ before h fits.
    subst (λ (rest : List ℕ). IsTakenUpTo rest (before ++ c.args.pending.now.items) (HasTaken c.take_lines.new.self)) (sym c.in-Ok-from_slice.ensures.items)
    (takes_on c.args.checker c.take_lines.new.self before c.args.pending.now.items c.in-Ok.rest.now
    (subst (λ (t : List ℕ). TakesLines c.args.checker t c.take_lines.new.self c.in-Ok.rest.now) c.deref.ensures.value c.in-Ok.ensures.ok) h fits)
