-- What was taken out of the steps that shards store: a list of takes, in the order in which they were made.
use Rattle.std.specs.Prelude.{ℕ, ◌≡◌, ◌+◌, ◌==◌, List, [], ◌∷◌, ◌++◌, if◌then◌else◌}
use mathlib.Core.List.{IsPrefix}
use Rattle.lt_words.specs.declared.event.Take.{Take}

-- how many steps of a shard this take took out
abbrev pub many_of : ℕ → Take → ℕ
many_of s t = if s == t.shard then t.many else 0

-- how many steps of a shard these takes took out, together
abbrev pub taken_of : ℕ → List Take → ℕ
taken_of s [] = 0
taken_of s (t ∷ ts) = many_of s t + taken_of s ts

-- The take t stands among the new takes, after all of the old ones, and before it so many steps of its shard had been
-- taken out.
abbrev pub AppendsTake : List Take → ℕ → Take → List Take → Type 0
AppendsTake old from t new = (ts : List Take) × IsPrefix old ts × (taken_of t.shard ts ≡ from) × IsPrefix (ts ++ t ∷ []) new
