-- How lines are numbered.
use Rattle.std.specs.Prelude.{ℕ, ◌≡◌, ◌+◌, ◌==◌, if◌then◌else◌, List, ◌++◌, Option, Some, None}
use Rattle.std.specs.Io.KnownBytes.{Appends}
use Rattle.lt_checker.specs.Sorted.{next_index}
use Rattle.lt_trace.specs.declared.line.TraceLine.{TraceLine}
use Rattle.lt_trace.specs.declared.page.KeyCounter.{KeyCounter}
use Rattle.lt_trace.specs.declared.page.Page.{Page}
use Rattle.lt_trace.specs.Trace.{plain_text, numbered_text}

-- The line of this key has this index, and the next line is numbered after it. A key is counted with its first line.
pub record CountsLine (old new : KeyCounter) (key : List ℕ) (i : ℕ) : Type 0 where
  pub index : i ≡ next_index old.key.items old.index key
  pub key_after : new.key.items ≡ key
  pub index_after : new.index ≡ i
  pub keys : new.keys ≡ (if i == 1 then old.keys + 1 else old.keys)
  pub steps : new.steps ≡ old.steps + 1

-- The line stands after what was on the page, as it was read.
abbrev pub AppendsPlain : Page → Page → TraceLine → Type 0
AppendsPlain old new line = new.bytes.items ≡ old.bytes.items ++ plain_text line

-- Both counters, if the page is numbered: the line stands after what was on the page, with its index, and the next
-- line is numbered after it.
pub record NumbersLine (old new : Page) (line : TraceLine) (before after : KeyCounter) : Type 0 where
  pub counts : CountsLine before after line.key after.index
  pub text : new.bytes.items ≡ old.bytes.items ++ numbered_text after.index line

abbrev pub AppendsNumbered : Page → Page → TraceLine → Option KeyCounter → Option KeyCounter → Type 0
AppendsNumbered old new line None after = after ≡ None
AppendsNumbered old new line (Some before) None = ⊥
AppendsNumbered old new line (Some before) (Some after) = NumbersLine old new line before after

-- The first of these bytes were written, and the others stay.
pub record WritesFront (before now : Option (List ℕ)) (bytes others : List ℕ) : Type 0 where
  pub front : List ℕ
  pub split : bytes ≡ front ++ others
  pub written : Appends before now front
