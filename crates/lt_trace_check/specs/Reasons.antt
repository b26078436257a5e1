-- Why a check refuses a line, given without its line end, after the lines that a checker has taken.
use Rattle.std.specs.Prelude.{ℕ, ◌≡◌, ◌<◌, ◌^◌, List, [], ◌∷◌, ◌++◌, Option, Some, None}
use Rattle.std.specs.Global.{Vec}
use Rattle.lt_checker.specs.declared.error.Fault.{Fault}
use Rattle.lt_checker.specs.declared.error.Fault.TheVariants as faults
use Rattle.lt_checker.specs.declared.error.HistoryLineError.TheVariants as refusals
use Rattle.lt_checker.specs.declared.line.Line.{Line}
use Rattle.lt_checker.specs.declared.pieces.Checker.{Checker}
use Rattle.lt_checker.specs.Cursor.{spot}
use Rattle.lt_checker.specs.Lines.{Parts, IsLine, parts_of, line_text}
use Rattle.lt_checker.specs.Pieces.{IsFaultyLine, GivesByRules}
use Rattle.lt_checker.specs.Text.{index_after, record_before, IsOf}
use Rattle.lt_trace_check.specs.declared.reason.LineReason.{LineReason}
use Rattle.lt_trace_check.specs.declared.reason.LineReason.TheVariants as reasons

-- The line with these bytes says this.
pub record IsLineOf (bytes : List ℕ) (l : Line) : Type 0 where
  pub line : IsLine (parts_of l)
  pub is_text : line_text (parts_of l) ≡ bytes ++ 10 ∷ []

-- This is the first fault of the line with these bytes.
abbrev pub IsRefusedFor : Checker → List ℕ → Fault → Type 0
IsRefusedFor c bytes fault = IsFaultyLine c.report.version (spot c.cursor) bytes (refusals.Fault fault)

-- No line of the checker's version has these bytes.
abbrev pub IsOtherShape : Checker → List ℕ → Type 0
IsOtherShape c bytes = (p : Parts) → IsLine p → IsOf c.report.version p → line_text p ≡ bytes ++ 10 ∷ [] → ⊥

-- the reason for a refusal with this fault, if this key is the latest and this index is due
abbrev pub reason_of : Fault → Vec ℕ → ℕ → LineReason
reason_of faults.KeyOrder latest due = reasons.KeyOrder latest
reason_of faults.Index latest due = reasons.Index due
reason_of _ latest due = reasons.Shape

-- What is said of the line with these bytes, whose key is this one. Each reason but the last is that of the check.
abbrev pub IsKeyReason : Checker → List ℕ → List ℕ → LineReason → Type 0
IsKeyReason c key bytes reasons.Shape = IsOtherShape c bytes
IsKeyReason c key bytes (reasons.KeyOrder latest) = IsRefusedFor c bytes faults.KeyOrder × (latest.items ≡ (spot c.cursor).key)
IsKeyReason c key bytes (reasons.Index due) = IsRefusedFor c bytes faults.Index × (index_after (spot c.cursor) key < 2 ^ 64 → due ≡ index_after (spot c.cursor) key)
IsKeyReason c key bytes (reasons.Rules state expected) = GivesByRules c bytes expected × (state ≡ record_before (spot c.cursor) key)

-- The same of bytes that say this. Bytes that are no line have no other reason than their shape.
abbrev pub IsReasonFor : Checker → Option Line → List ℕ → LineReason → Type 0
IsReasonFor c (Some l) bytes reason = IsKeyReason c l.key bytes reason
IsReasonFor c None bytes reason = (reason ≡ reasons.Shape) × IsOtherShape c bytes
