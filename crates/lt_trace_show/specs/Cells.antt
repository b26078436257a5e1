-- How a text fits the width of its column, and what a line of the table promises.
use Rattle.std.specs.Prelude.{ℕ, ◌≡◌, ◌≤◌, ◌-◌, nat_le, if◌then◌else◌, List, [], ◌∷◌, ◌++◌, All, length, take, replicate}
use Rattle.std.specs.List.{flat_map}
use Rattle.lt_trace_show.specs.Escape.{printable_byte, IsPrintable}

-- the text, cut to the width if it is wider; its last byte is then `~`
abbrev pub cut_to : ℕ → List ℕ → List ℕ
cut_to width text = if nat_le (length text) width then text else take (width - 1) text ++ 126 ∷ []

-- the text and spaces up to the width
abbrev pub filled_to : ℕ → List ℕ → List ℕ
filled_to width text = text ++ replicate (width - length text) 32

-- the cell of this width for a text
abbrev pub cell_of : ℕ → List ℕ → List ℕ
cell_of width text = filled_to width (cut_to width (flat_map printable_byte text))

-- The new text is the old one and a line of at most this many printable bytes.
pub record AddsLine (width : ℕ) (old new : List ℕ) : Type 0 where
  pub line : List ℕ
  pub added : new ≡ old ++ (line ++ 10 ∷ [])
  pub within : length line ≤ width
  pub printable : All IsPrintable line
