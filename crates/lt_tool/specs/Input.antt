-- One read of a text.
use Rattle.std.specs.Prelude.{ℕ, ◌≡◌, ◌<◌, ◌^◌, List, ◌++◌, length, Option}
use Rattle.std.specs.Io.KnownBytes.{Consumes, IsAtEnd}

-- The text is too long to be read.
abbrev pub IsLong : List ℕ → Type 0
IsLong text = 2 ^ 24 < length text

-- One read appended this many bytes to the text and took them from the reader. It brings none only at the reader's
-- end.
pub record IsPiece (before after : Option (List ℕ)) (old new : List ℕ) (n : ℕ) : Type 0 where
  pub bytes : List ℕ
  pub grown : new ≡ old ++ bytes
  pub count : length bytes ≡ n
  pub taken : Consumes before after bytes
  pub at_end : n ≡ 0 → IsAtEnd after
