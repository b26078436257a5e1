-- The lines of a script, and the words of a line.
use Rattle.std.specs.Prelude.{ℕ, ◌==◌, Bool, true, false, List, [], ◌∷◌, map, filter}
use Rattle.std.specs.List.{slice_split}
use Rattle.bstr.specs.Text.{lines_of, without_terminator}

-- The lines of a text. Each ends with a line feed, or with a carriage return and a line feed; the last line may
-- lack its end. A carriage return anywhere else is a byte of its line.
abbrev pub script_lines : List ℕ → List (List ℕ)
script_lines text = map without_terminator (lines_of text)

-- The first byte of the line is `#`.
abbrev pub is_comment : List ℕ → Bool
is_comment [] = false
is_comment (b ∷ bs) = b == 35

abbrev pub is_word : List ℕ → Bool
is_word [] = false
is_word (b ∷ bs) = true

-- The words of a line, which are separated by one or more spaces.
abbrev pub words_of : List ℕ → List (List ℕ)
words_of line = filter is_word (slice_split (λ b. b == 32) line)
