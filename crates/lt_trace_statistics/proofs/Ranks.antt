-- A ranked list with one more key, and the first keys of it.
use Rattle.std.proofs.Common.{◌≡◌, ℕ, zero, suc, ◌+◌, true, false, cond, not, List, [], ◌∷◌, take, drop, slice_get, Option, refl, ap}
use Rattle.std.proofs.Math.Numerals.{one-add}
use Rattle.std.specs.List.{insert, prefix_len}
use Rattle.lt_trace_statistics.specs.declared.summary.HotKey.{HotKey}
use Rattle.lt_trace_statistics.specs.Findings.{is_hotter, ranked_with, ranked_after, ranking, most_keys, hottest_of}

-- how many of the keys come before this one, up to the first that does not
abbrev pub hotter_count : HotKey → List HotKey → ℕ
hotter_count hot others = prefix_len (λ other. not (is_hotter hot other)) others

-- the key is inserted behind them
pub insert_is : (others : List HotKey) (hot : HotKey) (i : ℕ) → i ≡ hotter_count hot others → insert others i hot ≡ ranked_with hot others
insert_is [] hot i e = rw e refl
insert_is (other ∷ others) hot i e =
    elim (is_hotter hot other) as (λ b. i ≡ cond (not b) (1 + hotter_count hot others) 0 → insert (other ∷ others) i hot ≡ cond b (hot ∷ other ∷ others) (other ∷ ranked_with hot others)) [
      | true ↦ λ e. rw e refl
      | false ↦ λ e. rw (e, one-add) (ap (λ xs. other ∷ xs) (insert_is others hot (hotter_count hot others) refl))
    ] e

-- the first of the first are the first
take_first : (n : ℕ) (others : List HotKey) → take n (take (suc n) others) ≡ take n others
take_first zero others = refl
take_first (suc n) [] = refl
take_first (suc n) (other ∷ others) = ap (λ xs. other ∷ xs) (take_first n others)

first_with : (n : ℕ) (hot : HotKey) (others : List HotKey) → take n (hot ∷ take n others) ≡ take n (hot ∷ others)
first_with zero hot others = refl
first_with (suc n) hot others = ap (λ xs. hot ∷ xs) (take_first n others)

-- what is behind the first n keys has no say in the first n after one more
pub first_ranked : (n : ℕ) (hot : HotKey) (others : List HotKey) → take n (ranked_with hot (take n others)) ≡ take n (ranked_with hot others)
first_ranked zero hot others = refl
first_ranked (suc n) hot [] = refl
first_ranked (suc n) hot (other ∷ others) =
    elim (is_hotter hot other) as (λ b. take (suc n) (cond b (hot ∷ other ∷ take n others) (other ∷ ranked_with hot (take n others))) ≡ take (suc n) (cond b (hot ∷ other ∷ others) (other ∷ ranked_with hot others))) [
      | true ↦ ap (λ xs. hot ∷ xs) (first_with n other others)
      | false ↦ ap (λ xs. other ∷ xs) (first_ranked n hot others)
    ]

-- the hottest keys, where the latest key is ranked last
pub hottest_with_latest : (keys : List HotKey) (latest : Option HotKey) (ranked : List HotKey) → latest ≡ slice_get keys 0 → ranked ≡ hottest_of (drop 1 keys) → ranked_after latest ranked ≡ hottest_of keys
hottest_with_latest [] latest ranked is_latest is_ranked = rw is_latest is_ranked
hottest_with_latest (hot ∷ others) latest ranked is_latest is_ranked =
    rw (is_latest, is_ranked) (first_ranked most_keys hot (ranking others))
