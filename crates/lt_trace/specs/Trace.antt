-- A line of a trace, and the line of histories that it becomes.
use Rattle.std.specs.Prelude.{ℕ, ◌≡◌, List, [], ◌∷◌, ◌++◌, decimal}
use Rattle.lt_checker.specs.Lines.{Parts, IsLine, line_text}
use Rattle.lt_trace.specs.declared.line.TraceLine.{TraceLine}

-- The key, and the bytes after it and its space.
abbrev pub parts_of_line : TraceLine → List ℕ × List ℕ
parts_of_line line = (line.key, line.step.items)

-- The line as it was read, with its line end.
abbrev pub plain_text : TraceLine → List ℕ
plain_text line = line.key ++ 32 ∷ line.step.items ++ 10 ∷ []

-- The line with this index after its key, and its line end.
abbrev pub numbered_text : ℕ → TraceLine → List ℕ
numbered_text index line = line.key ++ 32 ∷ decimal index ++ 32 ∷ line.step.items ++ 10 ∷ []

-- The bytes are the text of a line of histories that has this key and this index.
pub record IsHistoryLine (key : List ℕ) (index : ℕ) (bytes : List ℕ) : Type 0 where
  pub parts : Parts
  pub is_line : IsLine parts
  pub key_of : parts.key ≡ key
  pub index_of : parts.step.index ≡ index
  pub text_of : line_text parts ≡ bytes
