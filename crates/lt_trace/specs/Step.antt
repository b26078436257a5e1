-- What a line of a trace says.
use Rattle.std.specs.Prelude.{ℕ, ◌==◌, Bool, if◌then◌else◌, is_some, List, Option, Some, None, false}
use Rattle.std.specs.List.{slice_split}
use Rattle.lt_text.specs.Maybe.{◌>>=◌}
use Rattle.lt_text.specs.Words.{cut_of}
use Rattle.lt_checker.specs.Lines.{key_if_legal, step_in, lets_in_words}

-- The words are those of a line of histories after its index: of a step and of what it let through, and no more.
unfoldable pub are_step_words : List (List ℕ) → Bool
are_step_words words = is_some (step_in false words >>= λ step. lets_in_words step.1)

-- The bytes after a key and its space are those words.
abbrev pub is_step_text : List ℕ → Bool
is_step_text bytes = are_step_words (slice_split (λ b. b == 32) bytes)

-- The key and the bytes after it and its space, if they are those of a line of a trace.
abbrev pub line_of_parts : List ℕ → List ℕ → Option (List ℕ × List ℕ)
line_of_parts word step = do
  key ← key_if_legal word
  if is_step_text step then Some (key, step) else None

-- The key of a line of a trace, given without its line end, and the bytes after the key and its space.
abbrev pub trace_line_of : List ℕ → Option (List ℕ × List ℕ)
trace_line_of bytes = do
  parts ← cut_of 32 bytes
  line_of_parts parts.0 parts.1
