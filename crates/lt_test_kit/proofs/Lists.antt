-- Lemmas on what holds for all items of a list.
use Rattle.std.proofs.Common.{◌≡◌, ℕ, suc, ◌<◌, List, [], ◌∷◌, ◌++◌, length, slice_index_or, subst, sym, arith, zero}
use Rattle.std.specs.List.{All}
use Rattle.std.proofs.lemmas.List.Elements.{All-append}

-- What holds for all items holds for all but the first.
pub all_later : {A : Type 0} (P : A → Type 0) (x : A) (xs ys : List A) → ys ≡ x ∷ xs → All P ys → All P xs
all_later P x xs ys is all = λ k d less.
    let here : All P (x ∷ xs) = subst (λ l. All P l) is all in
    here (suc k) d (omega (arith, less))

one : {A : Type 0} (P : A → Type 0) (x : A) → P x → (k : ℕ) (d : A) → k < length (x ∷ []) → P (slice_index_or (x ∷ []) k d)
one P x here zero d less = here
one P x here (suc k) d less = absurd (omega (arith, less))

-- What holds for all items and for one more item holds for the list with that item appended.
pub all_with : {A : Type 0} (P : A → Type 0) (xs ys : List A) (x : A) → ys ≡ xs ++ x ∷ [] → All P xs → P x → All P ys
all_with P xs ys x is all here = subst (λ l. All P l) (sym is) (All-append P xs (x ∷ []) all (one P x here))
