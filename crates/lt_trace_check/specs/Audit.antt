-- What the check of a stream says of the text that the stream gives.
use Rattle.std.specs.Prelude.{ℕ, ◌≡◌, ◌⊎◌, ◌+◌, ◌≤◌, Bool, true, false, List, ◌++◌, length, take, Option, Result, Ok, Err, IfSome, IfNone, ◌∷◌, []}
use Rattle.std.specs.Io.KnownBytes.{Consumes, IsAtEnd}
use Rattle.lt_checker.specs.declared.checker.Report.{Report}
use Rattle.lt_checker.specs.declared.checker.CheckError.{CheckError}
use Rattle.lt_checker.specs.declared.checker.CheckError.TheVariants as checks
use Rattle.lt_checker.specs.declared.pieces.Checker.{Checker}
use Rattle.lt_checker.specs.Pieces.{IsCountable, HasTaken, RefusesFrom, SaysAtEnd, AcceptsAtEnd, RefusesAtEnd}
use Rattle.lt_checker.specs.Lines.{Parts, IsLine, line_text}
use Rattle.lt_checker.specs.Verdict.{IsLegalText, Says, IsOrMemory, RefusesFaulty}
use Rattle.lt_trace_check.specs.declared.explained.Explained.{Explained}
use Rattle.lt_trace_check.specs.Reasons.{IsLineOf, IsReasonFor}
use Rattle.lt_trace_check.specs.declared.error.AuditError.{AuditError}
use Rattle.lt_trace_check.specs.declared.error.AuditError.TheVariants as errors

-- ---- reading

-- A read appended these bytes to the pending ones and took them from the source. It brings none only at the end.
pub record IsLineRead (source now : Option (List ℕ)) (old new : List ℕ) (n : ℕ) : Type 0 where
  pub bytes : List ℕ
  pub grown : new ≡ old ++ bytes
  pub count : length bytes ≡ n
  pub taken : Consumes source now bytes
  pub at_end : n ≡ 0 → IsAtEnd source

-- The bytes end with a line end.
abbrev pub EndsLine : List ℕ → Type 0
EndsLine bytes = (line : List ℕ) × (bytes ≡ line ++ 10 ∷ [])

-- A read stopped at a line end, or at the end of the source.
abbrev pub StopsAtLineEnd : Option (List ℕ) → Option (List ℕ) → List ℕ → Type 0
StopsAtLineEnd source now new = IfSome source (λ xs. EndsLine new ⊎ IsAtEnd now)

-- A read gave the first n bytes of the chunk. It gave none only at the end.
pub record IsChunkRead (source now : Option (List ℕ)) (chunk : List ℕ) (n : ℕ) : Type 0 where
  pub taken : Consumes source now (take n chunk)
  pub at_end : n ≡ 0 → IsAtEnd source

-- These bytes came first. They are as long as a first line, or they are all.
pub record IsBeginning (source now : Option (List ℕ)) (bytes : List ℕ) : Type 0 where
  pub taken : Consumes source now bytes
  pub enough : (8 ≤ length bytes) ⊎ IfSome source (λ all. bytes ≡ all)

-- What was read so far: the checker has taken the first part, and these bytes are pending.
pub record IsReading (source now : Option (List ℕ)) (c : Checker) (pending : List ℕ) : Type 0 where
  pub before : List ℕ
  pub has_taken : IsCountable before → HasTaken c before
  pub taken : Consumes source now (before ++ pending)

-- ---- the verdict

-- Memory ran out.
abbrev pub out_of_memory : AuditError
out_of_memory = errors.Check checks.Memory

-- A text that goes on with the pending bytes is refused in this way.
abbrev pub RefusesPending : Checker → List ℕ → AuditError → Type 0
RefusesPending c pending (errors.Check (checks.Refused line fault)) = RefusesFrom c pending (checks.Refused line fault)
RefusesPending c pending _ = Unit {0}

-- This is the verdict on each text that ends with the pending bytes.
pub record EndsWith (c : Checker) (pending : List ℕ) (verdict : Result Report CheckError) : Type 0 where
  pub says : SaysAtEnd c pending verdict
  pub accepts : AcceptsAtEnd c pending verdict
  pub refuses : RefusesAtEnd c pending verdict

-- The same for a text that is refused with this error.
abbrev pub EndsAs : Checker → List ℕ → AuditError → Type 0
EndsAs c pending (errors.Check (checks.Refused line fault)) = EndsWith c pending (Err (checks.Refused line fault))
EndsAs c pending _ = Unit {0}

-- The verdict is right for the text, and no other verdict is.
pub record IsVerdictOn (text : List ℕ) (verdict : Result Report CheckError) : Type 0 where
  pub says : Says text verdict
  pub accepts : (report : Report) → IsLegalText text report → IsOrMemory verdict (Ok report)
  pub refuses : RefusesFaulty text verdict

-- The source gives this text, and this is the verdict on it. If the bytes of the source are known, the text is those
-- bytes. Texts of 2 ^ 64 bytes are not spoken of.
pub record IsAudited (source : Option (List ℕ)) (verdict : Result Report CheckError) : Type 0 where
  pub text : List ℕ
  pub is_given : IfSome source (λ all. text ≡ all)
  pub right : IsCountable text → IsVerdictOn text verdict

-- A refused stream gives a text that is refused so. Any other error says nothing of the text.
abbrev pub IsAuditedAs : Option (List ℕ) → AuditError → Type 0
IsAuditedAs source (errors.Check (checks.Refused line fault)) = IsAudited source (Err (checks.Refused line fault))
IsAuditedAs source _ = Unit {0}

-- ---- the rest of a text

-- The error says nothing of the text.
abbrev pub IsNoVerdict : AuditError → Type 0
IsNoVerdict (errors.Check (checks.Refused line fault)) = ⊥
IsNoVerdict _ = Unit {0}

-- If the checker and the pending bytes are what came first, then this is the verdict on the text that the reader ends.
abbrev pub EndsReading : Option (List ℕ) → Checker → List ℕ → Result Report CheckError → Type 0
EndsReading now c pending verdict = (source : Option (List ℕ)) → IsReading source now c pending → IsAudited source verdict

-- The same for a text that is refused with this error.
abbrev pub EndsReadingAs : Option (List ℕ) → Checker → List ℕ → AuditError → Type 0
EndsReadingAs now c pending e = (source : Option (List ℕ)) → IsReading source now c pending → IsAuditedAs source e

-- ---- one line

-- The line is the bytes without the line end at their end, if they have one.
abbrev pub IsSplit : List ℕ → List ℕ → Bool → Type 0
IsSplit bytes line true = bytes ≡ line ++ 10 ∷ []
IsSplit bytes line false = (bytes ≡ line) × (EndsLine bytes → ⊥)

-- No line has this text, given without its line end.
abbrev pub IsNoLine : List ℕ → Type 0
IsNoLine bytes = (p : Parts) → IsLine p → line_text p ≡ bytes ++ 10 ∷ [] → ⊥

-- These bytes come after a line: its line end and more if it has one, and otherwise none.
abbrev pub IsAfterLine : Bool → List ℕ → Type 0
IsAfterLine true after = (more : List ℕ) × (after ≡ 10 ∷ more)
IsAfterLine false after = after ≡ []

-- This is what is said of the line after the lines that the checker has taken. Without words, it is no line.
pub record SaysOfLine (checker : Checker) (line : List ℕ) (ended : Bool) (x : Explained) : Type 0 where
  pub is_line : x.line.items ≡ line
  pub ended_is : x.is_ended ≡ ended
  pub version_is : x.version ≡ checker.report.version
  pub asked : IfSome x.asked (IsLineOf line)
  pub unasked : IfNone x.asked (IsNoLine line)
  pub reason : IsReasonFor checker x.asked line x.reason

-- The source gives legal lines and then this line, which has this number, counted from 1.
pub record IsExplained (source : Option (List ℕ)) (number : ℕ) (x : Explained) : Type 0 where
  pub checker : Checker
  pub before : List ℕ
  pub has_taken : IsCountable before → HasTaken checker before
  pub numbered : checker.report.steps + 2 ≡ number
  pub after : List ℕ
  pub line : List ℕ
  pub is_given : IfSome source (λ all. (all ≡ before ++ (line ++ after)) × IsAfterLine x.is_ended after)
  pub said : SaysOfLine checker line x.is_ended x

-- The source begins with this line. It has a line end, or it is all.
abbrev pub IsFirstLine : Option (List ℕ) → List ℕ → Type 0
IsFirstLine source line = IfSome source (λ all. (after : List ℕ) × (all ≡ line ++ after) × (EndsLine line ⊎ (after ≡ [])))
