-- What a line of the input says, in its form.
use Rattle.std.specs.Prelude.{ℕ, ◌≡◌, ⊤, List, [], ◌∷◌, ◌++◌, None, Some, Result, Ok, Err, Option}
use Rattle.lt_trace.specs.declared.error.TraceFault.TheVariants as faults
use Rattle.lt_trace.specs.declared.error.TraceLineError.{TraceLineError}
use Rattle.lt_trace.specs.declared.error.TraceLineError.TheVariants as refusals
use Rattle.lt_trace.specs.declared.line.TraceLine.{TraceLine}
use Rattle.lt_trace.specs.declared.sort.TraceForm.{TraceForm}
use Rattle.lt_trace.specs.declared.sort.TraceForm.TheVariants.{Words, Json}
use Rattle.lt_trace.specs.Step.{trace_line_of}
use Rattle.lt_trace.specs.Trace.{parts_of_line}
use Rattle.lt_trace.specs.Json.{IsLineOfObject, IsRefusalOf}

-- The result is what these bytes, without a line end, say in this form. Out of memory says nothing about them.
abbrev pub IsReadInForm : TraceForm → List ℕ → Result TraceLine TraceLineError → Type 0
IsReadInForm Words bytes (Ok line) = trace_line_of bytes ≡ Some (parts_of_line line)
IsReadInForm Words bytes (Err refusals.Memory) = ⊤
IsReadInForm Words bytes (Err (refusals.Fault faults.Shape)) = trace_line_of bytes ≡ None
IsReadInForm Words bytes (Err (refusals.Fault faults.Json)) = ⊥
IsReadInForm Json bytes (Ok line) = IsLineOfObject bytes line
IsReadInForm Json bytes (Err e) = IsRefusalOf bytes e

-- The bytes are those of the line in this form, and its line end.
pub record IsWithEnd (form : TraceForm) (bytes : List ℕ) (line : TraceLine) : Type 0 where
  pub text : List ℕ
  pub ended : bytes ≡ text ++ 10 ∷ []
  pub reads : IsReadInForm form text (Ok line)

-- The bytes are a line end alone, or a line in this form and its line end.
abbrev pub IsInputLine : TraceForm → List ℕ → Option TraceLine → Type 0
IsInputLine form bytes None = bytes ≡ 10 ∷ []
IsInputLine form bytes (Some line) = IsWithEnd form bytes line

-- No line of this form has these bytes, and they are no line end alone. Out of memory says nothing about them.
abbrev pub IsInputRefusal : TraceForm → List ℕ → TraceLineError → Type 0
IsInputRefusal form bytes refusals.Memory = ⊤
IsInputRefusal form bytes (refusals.Fault fault) = (o : Option TraceLine) → IsInputLine form bytes o → ⊥
