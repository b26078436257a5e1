-- Which of the lines at the heads of the runs a merge takes.
use Rattle.std.specs.Prelude.{ℕ, ◌≡◌, ◌<◌, Bool, true, false, List, map, Option, Some, None, slice_get}
use Rattle.std.specs.Option.{option_map}
use Rattle.std.specs.Ordering.{nat_cmp, is_lt, is_gt}
use Rattle.std.specs.Cmp.Lexicographic.{slice_cmp}
use Rattle.lt_trace.specs.declared.line.TraceLine.{TraceLine}

-- The keys of these heads; a run that has ended has none.
abbrev pub keys_of_heads : List (Option TraceLine) → List (Option (List ℕ))
keys_of_heads heads = map (λ head. option_map (λ line. line.key) head) heads

-- The head of this index has the least key, and each head before it has a greater one.
pub record IsFirstLeast (keys : List (Option (List ℕ))) (i : ℕ) : Type 0 where
  pub key : List ℕ
  pub head : slice_get keys i ≡ Some (Some key)
  pub first : (j : ℕ) (k : List ℕ) → j < i → slice_get keys j ≡ Some (Some k) → is_lt (slice_cmp nat_cmp key k) ≡ true
  pub least : (j : ℕ) (k : List ℕ) → slice_get keys j ≡ Some (Some k) → is_gt (slice_cmp nat_cmp key k) ≡ false

-- All runs have ended.
abbrev pub HaveEnded : List (Option (List ℕ)) → Type 0
HaveEnded keys = (j : ℕ) (k : List ℕ) → slice_get keys j ≡ Some (Some k) → ⊥

-- The key is less than that of the least head so far, or there is none.
abbrev pub is_below_least : List ℕ → Option (ℕ × List ℕ) → Bool
is_below_least key None = true
is_below_least key (Some least) = is_lt (slice_cmp nat_cmp key least.1)
