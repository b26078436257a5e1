-- The line of a step, as C is given it.
use Rattle.std.specs.Prelude.{ℕ, ◌≡◌, List, [], ◌∷◌, ◌++◌, length, map, min, take, drop, nat_eq, if◌then◌else◌, decimal, codes}
use Rattle.std.specs.List.{join_with_byte}
use Rattle.lt_entry.specs.declared.entry.Entry.{Entry}
use Rattle.lt_text.specs.Calls.{call_words}
use Rattle.lt_text.specs.Replies.{reply_words}
use Rattle.lt_text.specs.Lets.{lets_words}

-- The index of the line of a text of histories. The line of a trace has none.
abbrev pub index_words : ℕ → List (List ℕ)
index_words index = if nat_eq index 0 then [] else decimal index ∷ []

-- the index, the pass, the call, the sign `=` and the reply
abbrev pub line_words_of : ℕ → Entry → List (List ℕ)
line_words_of index e = index_words index ++ (decimal e.pass ∷ (call_words e.call ++ (codes "=" ∷ reply_words e.reply)))

-- The line: the key, these words and those of the lets, with single spaces, and the line end.
abbrev pub step_line : ℕ → Entry → List ℕ
step_line index e = join_with_byte 32 (e.key ∷ (line_words_of index e ++ lets_words (map (λ t. t.ticket) e.lets))) ++ 10 ∷ []

-- The first of these bytes stand in the array, as many as fit, and the rest of the array is as it was. The count is how many there
-- are.
pub record WritesFirst (all : List ℕ) (array array' : List ℕ) (count : ℕ) : Type 0 where
  pub counted : count ≡ length all
  pub written : array' ≡ take (min (length all) (length array)) all ++ drop (min (length all) (length array)) array
