-- What the lines of a trace say, one after the other, and what is written when they are sorted.
use Rattle.std.specs.Prelude.{ℕ, ◌≡◌, ◌≢◌, ◌+◌, ◌⊎◌, ◌==◌, if◌then◌else◌, ⊤, Bool, true, false, List, [], ◌∷◌, ◌++◌, length, codes, Option, None, Some, Err, IfSome}
use Rattle.std.specs.List.Sorted.{IsSortedByKey, IsStableByKey}
use Rattle.std.specs.Ordering.{nat_cmp}
use Rattle.std.specs.Cmp.Lexicographic.{slice_cmp}
use Rattle.std.specs.Io.BufRead.{take_through, drop_through}
use Rattle.std.specs.Io.KnownBytes.{Appends}
use Rattle.lt_checker.specs.Sorted.{next_index}
use Rattle.lt_trace.specs.declared.error.SortError.{SortError}
use Rattle.lt_trace.specs.declared.error.SortError.TheVariants.{Refused, Memory}
use Rattle.lt_trace.specs.declared.error.TraceFault.{TraceFault}
use Rattle.lt_trace.specs.declared.error.TraceFault.TheVariants.{Shape}
use Rattle.lt_trace.specs.declared.error.TraceLineError.{TraceLineError}
use Rattle.lt_trace.specs.declared.error.TraceLineError.TheVariants as refusals
use Rattle.lt_trace.specs.declared.line.TraceLine.{TraceLine}
use Rattle.lt_trace.specs.declared.page.KeyCounter.{KeyCounter}
use Rattle.lt_trace.specs.declared.page.Page.{Page}
use Rattle.lt_trace.specs.declared.sort.SortReport.{SortReport}
use Rattle.lt_trace.specs.declared.sort.TraceForm.{TraceForm}
use Rattle.lt_trace.specs.Form.{IsReadInForm, IsInputLine}
use Rattle.lt_trace.specs.Trace.{plain_text, numbered_text}

-- ---- what is read

-- The bytes begin with these lines, each of this form or empty, and then come the others.
abbrev pub BeginWithLines : TraceForm → List ℕ → List (Option TraceLine) → List ℕ → Type 0
BeginWithLines form bytes [] others = others ≡ bytes
BeginWithLines form bytes (o ∷ os) others = IsInputLine form (take_through 10 bytes) o × BeginWithLines form (drop_through 10 bytes) os others

-- The lines that are not empty.
abbrev pub steps_of_lines : List (Option TraceLine) → List TraceLine
steps_of_lines [] = []
steps_of_lines (None ∷ os) = steps_of_lines os
steps_of_lines (Some line ∷ os) = line ∷ steps_of_lines os

-- The bytes are lines of this form and empty ones, and so many are not empty.
pub record HaveSteps (form : TraceForm) (steps : ℕ) (bytes : List ℕ) : Type 0 where
  pub lines : List (Option TraceLine)
  pub read : BeginWithLines form bytes lines []
  pub count : steps ≡ length (steps_of_lines lines)

-- The bytes are not ended by a line end.
abbrev pub HaveNoLineEnd : List ℕ → Type 0
HaveNoLineEnd bytes = (text : List ℕ) → bytes ≡ text ++ 10 ∷ [] → ⊥

-- Before their line end, the bytes have this fault.
pub record IsFaultyInputLine (form : TraceForm) (bytes : List ℕ) (fault : TraceFault) : Type 0 where
  pub text : List ℕ
  pub ended : bytes ≡ text ++ 10 ∷ []
  pub refused : IsReadInForm form text (Err (refusals.Fault fault))

-- The bytes of a line have this fault. Without a line end it is one of shape.
abbrev pub HasLineFault : TraceForm → List ℕ → TraceFault → Type 0
HasLineFault form bytes fault = (HaveNoLineEnd bytes × (fault ≡ Shape)) ⊎ IsFaultyInputLine form bytes fault

-- The line with this number, counted from 1, has this fault, and no line before it has one.
pub record IsFirstFaultyLine (form : TraceForm) (bytes : List ℕ) (line : ℕ) (fault : TraceFault) : Type 0 where
  pub lines : List (Option TraceLine)
  pub others : List ℕ
  pub read : BeginWithLines form bytes lines others
  pub number : line ≡ length lines + 1
  pub some : others ≢ []
  pub fault_of : HasLineFault form (take_through 10 others) fault

-- Why a line was not read: it has this fault, or memory ran out, which says nothing about it.
abbrev pub TellsLineFault : TraceForm → List ℕ → TraceLineError → Type 0
TellsLineFault form bytes refusals.Memory = ⊤
TellsLineFault form bytes (refusals.Fault fault) = HasLineFault form bytes fault

-- The error of the line with this number.
abbrev pub line_error : ℕ → TraceLineError → SortError
line_error number refusals.Memory = Memory
line_error number (refusals.Fault fault) = Refused number fault

-- The error refuses no line.
abbrev pub IsNoRefusal : SortError → Type 0
IsNoRefusal (Refused line fault) = ⊥
IsNoRefusal _ = ⊤

-- The error of a trace with these bytes, if they are known: a refusal names the first faulty line, and its fault.
abbrev pub RefusesFirstFault : TraceForm → Option (List ℕ) → SortError → Type 0
RefusesFirstFault form source (Refused line fault) = IfSome source (λ bytes. IsFirstFaultyLine form bytes line fault)
RefusesFirstFault form source _ = ⊤

-- The bytes of the next line were taken, if there is one.
abbrev pub TakesBytes : Option (List ℕ) → Option (List ℕ) → List ℕ → Bool → Type 0
TakesBytes None now taken more = ⊤
TakesBytes (Some bytes) now taken false = bytes ≡ []
TakesBytes (Some bytes) None taken true = ⊥
TakesBytes (Some bytes) (Some others) taken true = (bytes ≢ []) × (taken ≡ take_through 10 bytes) × (others ≡ drop_through 10 bytes)

-- The next line was taken, or none is left.
abbrev pub TakesInputLine : TraceForm → Option (List ℕ) → Option (List ℕ) → Option (Option TraceLine) → Type 0
TakesInputLine form None now taken = ⊤
TakesInputLine form (Some bytes) now None = bytes ≡ []
TakesInputLine form (Some bytes) None (Some line) = ⊥
TakesInputLine form (Some bytes) (Some others) (Some line) = IsInputLine form (take_through 10 bytes) line × (others ≡ drop_through 10 bytes)

-- There is a next line, and it has this fault.
abbrev pub IsNextFaulty : TraceForm → TraceFault → List ℕ → Type 0
IsNextFaulty form fault bytes = (bytes ≢ []) × HasLineFault form (take_through 10 bytes) fault

-- The error at the line of this number, which is the next one: a refusal names it, and its fault.
abbrev pub RefusesNextLine : TraceForm → Option (List ℕ) → ℕ → SortError → Type 0
RefusesNextLine form source number (Refused line fault) = (line ≡ number) × IfSome source (IsNextFaulty form fault)
RefusesNextLine form source number _ = ⊤

-- The lines of these bytes that are not empty came to those that were there.
pub record AreCollected (form : TraceForm) (old new : List TraceLine) (bytes : List ℕ) : Type 0 where
  pub lines : List (Option TraceLine)
  pub read : BeginWithLines form bytes lines []
  pub added : new ≡ old ++ steps_of_lines lines

abbrev pub HasCollected : TraceForm → Option (List ℕ) → List TraceLine → List TraceLine → Type 0
HasCollected form source old new = IfSome source (AreCollected form old new)

-- ---- what is written

-- These are the lines in the order of their keys. The lines of one key have the order that they had.
pub record AreByKey (lines sorted : List TraceLine) : Type 0 where
  pub count : length sorted ≡ length lines
  pub rising : IsSortedByKey (λ l. l.key) (slice_cmp nat_cmp) sorted
  pub stable : IsStableByKey (λ l. l.key) (slice_cmp nat_cmp) lines sorted

-- The lines as they were read.
abbrev pub plain_lines : List TraceLine → List ℕ
plain_lines [] = []
plain_lines (line ∷ lines) = plain_text line ++ plain_lines lines

-- The lines with their indices, after a line of this key with this index: one more at the same key, and 1 at another.
abbrev pub numbered_lines : List ℕ → ℕ → List TraceLine → List ℕ
numbered_lines key index [] = []
numbered_lines key index (line ∷ lines) =
    numbered_text (next_index key index line.key) line ++ numbered_lines line.key (next_index key index line.key) lines

-- The text of the lines on a page with this counter, or without one.
abbrev pub page_lines : Option KeyCounter → List TraceLine → List ℕ
page_lines None lines = plain_lines lines
page_lines (Some counter) lines = numbered_lines counter.key.items counter.index lines

-- How many of the lines have the index 1, after a line of this key with this index.
abbrev pub first_lines : List ℕ → ℕ → List TraceLine → ℕ
first_lines key index [] = 0
first_lines key index (line ∷ lines) =
    (if next_index key index line.key == 1 then 1 else 0) + first_lines line.key (next_index key index line.key) lines

-- The keys and the steps that a page with this counter has counted after these lines; none without a counter.
abbrev pub counted : Option KeyCounter → List TraceLine → ℕ × ℕ
counted None lines = (0, 0)
counted (Some counter) lines = (counter.keys + first_lines counter.key.items counter.index lines, counter.steps + length lines)

-- What was on the page was written, and then these lines, in order. They were counted.
pub record WritesInOrder (before now : Option (List ℕ)) (old new : Page) (lines : List TraceLine) : Type 0 where
  pub sorted : List TraceLine
  pub in_order : AreByKey lines sorted
  pub written : Appends before now (old.bytes.items ++ page_lines old.counter sorted)
  pub counts : counted new.counter [] ≡ counted old.counter sorted

-- What was on the page was written, and then these lines. They were counted.
pub record WritesSomeLines (before now : Option (List ℕ)) (old new : Page) : Type 0 where
  pub lines : List TraceLine
  pub written : Appends before now (old.bytes.items ++ page_lines old.counter lines)
  pub counts : counted new.counter [] ≡ counted old.counter lines

-- Lines were written behind the line `locks 2`, each with its index. The report has their number, and that of the lines
-- with the index 1.
pub record IsNumberedInto (before now : Option (List ℕ)) (report : SortReport) : Type 0 where
  pub lines : List TraceLine
  pub written : Appends before now (codes "locks 2\n" ++ numbered_lines [] 0 lines)
  pub keys : report.keys ≡ first_lines [] 0 lines
  pub steps : report.steps ≡ length lines

-- The bytes were lines of this form, and these were written in order, behind the line `locks 2`.
pub record IsSortedInto (form : TraceForm) (before now : Option (List ℕ)) (bytes : List ℕ) : Type 0 where
  pub lines : List (Option TraceLine)
  pub read : BeginWithLines form bytes lines []
  pub sorted : List TraceLine
  pub in_order : AreByKey (steps_of_lines lines) sorted
  pub written : Appends before now (codes "locks 2\n" ++ numbered_lines [] 0 sorted)
