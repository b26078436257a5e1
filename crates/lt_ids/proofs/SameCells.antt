-- Two short keys are compared by their cells.
use Rattle.std.proofs.Common.{◌≡◌, ◌≢◌, ◌<◌, ◌≤◌, ◌⊎◌, inl, inr, ◌&&◌, ◌∙◌, ℕ, Bool, true, false, zero, suc, List, [], ◌∷◌, take, drop, length, nat_eq, slice_index_or, refl, sym, ap, arith}
use Rattle.std.proofs.lemmas.Bool.Decides.{eqb_tells}
use Rattle.std.proofs.lemmas.List.{length-take-le}
use Rattle.std.specs.List.{AllByRecursion}
use Rattle.std.specs.Cmp.Lexicographic.{pointwise, unequal}

both : (s t u : Bool) → (s && (t && u)) ≡ ((s && t) && u)
both true t u = refl
both false t u = refl

both_true : (s : Bool) → s ≡ (s && true)
both_true true = refl
both_true false = refl

-- One more pair of cells is compared.
pub next_cell :
    (i : ℕ) (xs ys : List ℕ) → i < length xs → length xs ≡ length ys →
    (pointwise nat_eq (take i xs) (take i ys) && nat_eq (slice_index_or xs i 0) (slice_index_or ys i 0)) ≡ pointwise nat_eq (take (suc i) xs) (take (suc i) ys)
next_cell i [] ys low same = absurd (omega (arith, low))
next_cell i (x ∷ xs) [] low same = absurd (omega (arith, same))
next_cell zero (x ∷ xs) (y ∷ ys) low same = both_true (nat_eq x y)
next_cell (suc i) (x ∷ xs) (y ∷ ys) low same =
    sym (both (nat_eq x y) (pointwise nat_eq (take i xs) (take i ys)) (nat_eq (slice_index_or xs i 0) (slice_index_or ys i 0))) ∙
    ap (λ rest. nat_eq x y && rest) (next_cell i xs ys (omega (arith, low)) (omega (arith, same)))

abbrev AreZero : List ℕ → Type 0
AreZero xs = AllByRecursion (λ b. b ≡ 0) xs

same_zeros : (xs ys : List ℕ) → AreZero xs → AreZero ys → length xs ≡ length ys → pointwise nat_eq xs ys ≡ true
same_zeros [] [] _ _ _ = refl
same_zeros [] (y ∷ ys) _ _ same = absurd (omega (arith, same))
same_zeros (x ∷ xs) [] _ _ same = absurd (omega (arith, same))
same_zeros (x ∷ xs) (y ∷ ys) no_x no_y same =
    rw (no_x.0, no_y.0) (same_zeros xs ys no_x.1 no_y.1 (omega (arith, same)))

-- The cells after the bytes are 0, so the cells are the same where the bytes are.
pub same_cells :
    (n : ℕ) (xs ys : List ℕ) → AreZero (drop n xs) → AreZero (drop n ys) → length xs ≡ length ys →
    pointwise nat_eq xs ys ≡ pointwise nat_eq (take n xs) (take n ys)
same_cells zero xs ys no_x no_y same = same_zeros xs ys no_x no_y same
same_cells (suc n) [] [] _ _ _ = refl
same_cells (suc n) [] (y ∷ ys) _ _ same = absurd (omega (arith, same))
same_cells (suc n) (x ∷ xs) [] _ _ same = absurd (omega (arith, same))
same_cells (suc n) (x ∷ xs) (y ∷ ys) no_x no_y same =
    ap (λ rest. nat_eq x y && rest) (same_cells n xs ys no_x no_y (omega (arith, same)))

pub not_equal : (n m : ℕ) → (n ≢ m) → nat_eq n m ≡ false
not_equal n m differ = told (eqb_tells n m)
  where
    told : ((nat_eq n m ≡ true) × (n ≡ m)) ⊎ ((nat_eq n m ≡ false) × (n ≢ m)) → nat_eq n m ≡ false
    told (inl same) = absurd (differ same.1)
    told (inr other) = other.0

-- Keys of different lengths are not the same.
pub other_length :
    (n m : ℕ) (xs ys : List ℕ) → n ≤ length xs → m ≤ length ys → (n ≢ m) →
    pointwise nat_eq (take n xs) (take m ys) ≡ false
other_length n m xs ys within fits differ =
    unequal nat_eq (take n xs) (take m ys) (λ same. differ (sym (length-take-le n xs within) ∙ same ∙ length-take-le m ys fits))
