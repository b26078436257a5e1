-- What a check has heard of a text, piece by piece.
use Rattle.std.proofs.Common.{◌≡◌, ℕ, List, [], ◌++◌, length, refl, sym, ap, subst, ◌∙◌, arith, append_assoc, inr, Result, Ok, Err}
use Rattle.std.proofs.lemmas.List.{append-nil, length-append}
use Rattle.lt_checker.specs.declared.checker.Report.{Report}
use Rattle.lt_checker.specs.declared.checker.CheckError.{CheckError}
use Rattle.lt_checker.specs.declared.checker.CheckError.TheVariants as errors
use Rattle.lt_checker.specs.declared.pieces.Checker.{Checker}
use Rattle.lt_checker.specs.Pieces.{HasTaken, IsCountable, TakesLines, RefusesFrom, SaysAtEnd, AcceptsAtEnd, RefusesAtEnd}
use Rattle.lt_checker.specs.Text.{Fails}
use Rattle.lt_checker.specs.Verdict.{Says, IsLegalText, IsOrMemory, RefusesFaulty}
use Rattle.lt_checker.proofs.Verdicts.{legal_is_said, fault_is_said}
use Rattle.lt_handles.specs.declared.held_check.TextCheck.{TextCheck}
use Rattle.lt_handles.specs.declared.held_check.TextCheck.TheVariants.{Beginning, Lines, Over}
use Rattle.lt_handles.specs.CheckPieces.{IsRefusedSo, IsTakenUpTo, HasHeard, SaysUnlessMemory, IsPiecesVerdict}

-- A text that is refused however it goes on is so with one piece more.
pub refused_goes_on : (e : CheckError) (text piece : List ℕ) → IsRefusedSo e text → IsRefusedSo e (text ++ piece)
refused_goes_on (errors.Refused line fault) text piece h = λ after.
    subst (λ (t : List ℕ). Fails t line fault) (sym (append_assoc text piece after)) (h (piece ++ after))
refused_goes_on errors.Memory text piece h = tt

pub refused_by : (c : Checker) (before pending : List ℕ) (e : CheckError) → RefusesFrom c pending e → HasTaken c before → IsCountable (before ++ pending) → IsRefusedSo e (before ++ pending)
refused_by c before pending (errors.Refused line fault) r h fits = λ after.
    subst (λ (t : List ℕ). Fails t line fault) (sym (append_assoc before pending after)) (r before after h fits)
refused_by c before pending errors.Memory r h fits = tt

pub takes_on : (old new : Checker) (before pending rest : List ℕ) → TakesLines old pending new rest → HasTaken old before → IsCountable (before ++ pending) → IsTakenUpTo rest (before ++ pending) (HasTaken new)
takes_on old new before pending rest t h fits =
    let m = t.0 in
    record {
      before = before ++ m.taken;
      has_taken = m.has_taken before h (omega (arith, ap length m.joined, length-append before pending, length-append before m.taken, length-append m.taken rest, fits));
      joined = ap (λ (x : List ℕ). before ++ x) m.joined ∙ sym (append_assoc before m.taken rest);
    }

-- With the piece among the pending bytes, the check has heard it.
pub piece_is_heard : (k : TextCheck) (pending text piece : List ℕ) → HasHeard k pending text → HasHeard k (pending ++ piece) (text ++ piece)
piece_is_heard Beginning pending text piece h = ap (λ (x : List ℕ). x ++ piece) h
piece_is_heard (Lines c) pending text piece h = record {
  before = h.before;
  has_taken = h.has_taken;
  joined = ap (λ (x : List ℕ). x ++ piece) h.joined ∙ append_assoc h.before pending piece;
}
piece_is_heard (Over e) pending text piece h = refused_goes_on e text piece h

-- A check that is over has heard whatever comes.
pub over_goes_on : (k : TextCheck) (e : CheckError) (pending text piece : List ℕ) → k ≡ Over e → HasHeard k pending text → HasHeard k pending (text ++ piece)
over_goes_on k e pending text piece is h =
    subst (λ (x : TextCheck). HasHeard x pending (text ++ piece)) (sym is) (refused_goes_on e text piece (subst (λ (x : TextCheck). HasHeard x pending text) is h))

said_unless : (text : List ℕ) (r : Result Report CheckError) → Says text r → SaysUnlessMemory text r
said_unless text (Ok report) h = h
said_unless text (Err (errors.Refused line fault)) h = h
said_unless text (Err errors.Memory) h = tt

pub verdict_of : (text : List ℕ) (r : Result Report CheckError) → Says text r → ((report : Report) → IsLegalText text report → IsOrMemory r (Ok report)) → RefusesFaulty text r → IsPiecesVerdict text r
verdict_of text r says legal faulty = record { says = said_unless text r says; accepts = legal; refuses = faulty }

pub verdict_at_end : (c : Checker) (pending text : List ℕ) (r : Result Report CheckError) → SaysAtEnd c pending r → AcceptsAtEnd c pending r → RefusesAtEnd c pending r → IsTakenUpTo pending text (HasTaken c) → IsCountable text → IsPiecesVerdict text r
verdict_at_end c pending text r says accepts refuses h fits =
    subst (λ (t : List ℕ). IsPiecesVerdict t r) (sym h.joined)
    (let fit = subst IsCountable h.joined fits in
    verdict_of (h.before ++ pending) r (says h.before h.has_taken fit) (accepts h.before h.has_taken fit) (refuses h.before h.has_taken fit))

pub verdict_once_over : (e : CheckError) (text : List ℕ) → IsRefusedSo e text → IsCountable text → IsPiecesVerdict text (Err e)
verdict_once_over (errors.Refused line fault) text h fits =
    let fails = subst (λ (t : List ℕ). Fails t line fault) (append-nil text) (h []) in
    record { says = fails; accepts = legal_is_said text (Err (errors.Refused line fault)) (omega (arith, fits)) fails; refuses = fault_is_said text (Err (errors.Refused line fault)) fails }
verdict_once_over errors.Memory text h fits = record { says = tt; accepts = λ report legal. inr refl; refuses = λ line fault f. inr refl }
