-- The passes that a table hands out.
use Rattle.std.proofs.Common.{◌≡◌, ◌∙◌, ℕ, zero, suc, ◌+◌, ◌<◌, List, [], ◌∷◌, length, length-append, length-set, map, set, get_or, get_or-set_same, get_or-set_other, ap, refl, subst, sym, arith, false, Result, Ok, Err, OnOk}
use Rattle.std.specs.Prelude.{is_err}
use mathlib.Core.Bool.{false≢true}
use Rattle.std.proofs.lemmas.List.{get_or-map, length-map}
use mathlib.Core.Logic.{dite}
use native.Mathlib.Decide.{ℕ_discrete}
use Rattle.std.specs.List.{All}
use Rattle.lt_words.specs.Row.{Opening, PassState, OwesNoWakeUp, fresh, fresh_passes, quiet}
use Rattle.lt_walk.proofs.Ends.{all_of_both}

alone : {A : Type 0} (P : A → Type 0) (x : A) → P x → (k : ℕ) (d : A) → k < length (x ∷ []) → P (get_or (x ∷ []) k d)
alone P x p zero d lt = p
alone P x p (suc k) d lt = absurd (omega arith)

-- each is of the book
pub fresh_are_of : (of : Opening) (n : ℕ) (k : ℕ) (d : PassState) → k < length (fresh_passes of n) → (get_or (fresh_passes of n) k d).of ≡ of
fresh_are_of of zero k d lt = absurd (omega arith)
fresh_are_of of (suc n) k d lt = all_of_both (λ p. p.of ≡ of) (fresh_passes of n) (fresh of (suc n) ∷ []) (fresh_are_of of n) (alone (λ p. p.of ≡ of) (fresh of (suc n)) refl) k d lt

pub handed_are_of : (of named : Opening) (n : ℕ) (ps : List PassState) → ps ≡ fresh_passes of n → of ≡ named → (k : ℕ) (d : PassState) → k < length ps → (get_or ps k d).of ≡ named
handed_are_of of named n ps is same = rw (is, ← same) (fresh_are_of of n)

-- ---- passes that note lets

quiet_set : (ps : List PassState) (k : ℕ) (p q : PassState) → k < length ps → p ≡ get_or ps k p → quiet q ≡ quiet p → map quiet (set ps k q) ≡ map quiet ps
quiet_set [] k p q lt is same = absurd (omega (arith, lt))
quiet_set (x ∷ ps) zero p q lt is same = ap (λ y. y ∷ map quiet ps) (same ∙ ap quiet is)
quiet_set (x ∷ ps) (suc k) p q lt is same = ap (λ ys. quiet x ∷ ys) (quiet_set ps k p q (omega (arith, lt)) is same)

pub ok_is : {T E P : Type 0} (r : Result T E) → false ≡ is_err r → OnOk r P → P
ok_is (Ok x) is p = p
ok_is (Err x) is p = absurd (false≢true is)

-- One more pass notes lets, in the way that Q says.
pub one_more : (Q : PassState → Type 0) (ps : List PassState) (k : ℕ) (p q : PassState) → k < length ps → p ≡ get_or ps k p → quiet q ≡ quiet p → Q q → OwesNoWakeUp q
    → All (λ r. OwesNoWakeUp r) ps → ((j : ℕ) (d : PassState) → j < k → Q (get_or ps j d))
    → (map quiet (set ps k q) ≡ map quiet ps) × All (λ r. OwesNoWakeUp r) (set ps k q) × ((j : ℕ) (d : PassState) → j < k + 1 → Q (get_or (set ps k q) j d))
one_more Q ps k p q lt is same notes none all before = (
  quiet_set ps k p q lt is same,
  λ j d small. dite (ℕ_discrete j k)
      (λ here. subst OwesNoWakeUp (sym (ap (λ i. get_or (set ps k q) i d) here ∙ get_or-set_same ps k q d lt)) none)
      (λ ne. subst OwesNoWakeUp (sym (get_or-set_other ps k j q d ne)) (all j d (omega (arith, small, length-set ps k q)))),
  λ j d small. dite (ℕ_discrete j k)
      (λ here. subst Q (sym (ap (λ i. get_or (set ps k q) i d) here ∙ get_or-set_same ps k q d lt)) notes)
      (λ ne. subst Q (sym (get_or-set_other ps k j q d ne)) (before j d (omega (arith, small, ne)))),
)

-- A new pass has nobody to wake.
pub fresh_owe_none : (of : Opening) (n : ℕ) → All (λ p. OwesNoWakeUp p) (fresh_passes of n)
fresh_owe_none of zero k d lt = absurd (omega arith)
fresh_owe_none of (suc n) k d lt = all_of_both (λ p. OwesNoWakeUp p) (fresh_passes of n) (fresh of (suc n) ∷ []) (fresh_owe_none of n) (alone (λ p. OwesNoWakeUp p) (fresh of (suc n)) (refl, refl)) k d lt

pub many_fresh : (of : Opening) (n : ℕ) → length (fresh_passes of n) ≡ n
many_fresh of zero = refl
many_fresh of (suc n) = omega (arith, length-append (fresh_passes of n) (fresh of (suc n) ∷ []), many_fresh of n)

-- Passes that differ in their wake-ups alone are of the same book.
pub quiet_are_of : (of : Opening) (xs ys : List PassState) → map quiet xs ≡ map quiet ys → All (λ p. p.of ≡ of) ys → All (λ p. p.of ≡ of) xs
quiet_are_of of xs ys same all k d lt =
    let inside : k < length ys = omega (arith, lt, ap length same, length-map xs quiet, length-map ys quiet) in
    ap (λ p. p.of) (sym (get_or-map quiet xs k d (quiet d) lt) ∙ ap (λ ps. get_or ps k (quiet d)) same ∙ get_or-map quiet ys k d (quiet d) inside) ∙ all k d inside
