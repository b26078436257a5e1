-- Lists, their prefixes and their indices; and keys as lists of bytes.
use Rattle.std.proofs.Common.{◌≡◌, ℕ, zero, suc, ◌<◌, ◌≤◌, ◌⊎◌, inl, inr, true, Some, List, [], ◌∷◌, ◌++◌, length, take, drop, refl, sym, ap, ◌∙◌, arith, append_assoc, length-append}
use Rattle.std.specs.Prelude.{slice_get}
use Rattle.std.specs.Str.{bytes_eq}
use Rattle.std.specs.List.{AllByRecursion}
use Rattle.std.proofs.lemmas.Slice.Eq.{bytes_eq-Decides}
use mathlib.Core.List.{IsPrefix}

-- ---- keys

pub equal_bytes : (a b : List ℕ) → bytes_eq a b ≡ true → a ≡ b
equal_bytes a b e = (bytes_eq-Decides a b).0 e

pub own_bytes : (a : List ℕ) → bytes_eq a a ≡ true
own_bytes a = (bytes_eq-Decides a a).1 refl

-- ---- the order of two numbers, as a choice

pub lower_or_not : (a b : ℕ) → (a < b) ⊎ (b ≤ a)
lower_or_not zero zero = inr (omega arith)
lower_or_not zero (suc b) = inl (omega arith)
lower_or_not (suc a) zero = inr (omega arith)
lower_or_not (suc a) (suc b) = elim (lower_or_not a b) [
  | inl l ↦ inl (omega (arith, l))
  | inr r ↦ inr (omega (arith, r))
]

-- ---- prefixes

pub prefix_of_prefix : {A : Type 0} (xs ys zs : List A) → IsPrefix xs ys → IsPrefix ys zs → IsPrefix xs zs
prefix_of_prefix xs ys zs p q = (p.0 ++ q.0, sym (append_assoc xs p.0 q.0) ∙ (ap (λ w. w ++ q.0) p.1 ∙ q.1))

pub prefix_is_shorter : {A : Type 0} (xs ys : List A) → IsPrefix xs ys → length xs ≤ length ys
prefix_is_shorter xs ys p = omega (arith, sym (ap length p.1) ∙ length-append xs p.0)

-- an item of a prefix is at the same index of the whole
pub get_in_whole : {A : Type 0} (xs ys : List A) (k : ℕ) (x : A) → IsPrefix xs ys → slice_get xs k ≡ Some x → slice_get ys k ≡ Some x
get_in_whole [] ys k x p is = absurd cc
get_in_whole (y ∷ xs) [] k x p is = absurd (cc (p.1))
get_in_whole (y ∷ xs) (z ∷ ys) zero x p is = cc (p.1, is)
get_in_whole (y ∷ xs) (z ∷ ys) (suc k) x p is = get_in_whole xs ys k x (p.0, cc (p.1)) is

-- of two prefixes of one list, one is a prefix of the other
pub prefixes_are_an_order : {A : Type 0} (h g g' : List A) → IsPrefix g h → IsPrefix g' h → IsPrefix g g' ⊎ IsPrefix g' g
prefixes_are_an_order h [] g' p q = inl (g', refl)
prefixes_are_an_order h (x ∷ g) [] p q = inr (x ∷ g, refl)
prefixes_are_an_order [] (x ∷ g) (y ∷ g') p q = absurd (cc (p.1))
prefixes_are_an_order (z ∷ h) (x ∷ g) (y ∷ g') p q =
    let here : y ≡ x = cc (p.1, q.1) in
    elim (prefixes_are_an_order h g g' (p.0, cc (p.1)) (q.0, cc (q.1))) [
      | inl a ↦ inl (a.0, cc (here, a.1))
      | inr b ↦ inr (b.0, cc (here, b.1))
    ]

-- ---- indices

pub index_is_inside : {A : Type 0} (xs : List A) (k : ℕ) (x : A) → slice_get xs k ≡ Some x → k < length xs
index_is_inside [] k x is = absurd cc
index_is_inside (y ∷ ys) zero x is = omega arith
index_is_inside (y ∷ ys) (suc k) x is = omega (arith, index_is_inside ys k x is)

pub item_at : {A : Type 0} (xs : List A) (n : ℕ) → n < length xs → (x : A) × (slice_get xs n ≡ Some x)
item_at [] n below = absurd (omega (arith, below))
item_at (y ∷ ys) zero below = (y, refl)
item_at (y ∷ ys) (suc n) below = item_at ys n (omega (arith, below))

-- the list, cut at an index
pub cut_at : {A : Type 0} (xs : List A) (n : ℕ) (x : A) → slice_get xs n ≡ Some x → take n xs ++ x ∷ drop (suc n) xs ≡ xs
cut_at [] n x is = absurd cc
cut_at (y ∷ ys) zero x is = cc is
cut_at (y ∷ ys) (suc n) x is = ap (λ zs. y ∷ zs) (cut_at ys n x is)

pub take_one_more : {A : Type 0} (xs : List A) (n : ℕ) (x : A) → slice_get xs n ≡ Some x → take (suc n) xs ≡ take n xs ++ x ∷ []
take_one_more [] n x is = absurd cc
take_one_more (y ∷ ys) zero x is = cc is
take_one_more (y ∷ ys) (suc n) x is = ap (λ zs. y ∷ zs) (take_one_more ys n x is)

-- ---- each item

pub all_map : {A : Type 0} (P Q : A → Type 0) (xs : List A) → ((x : A) → P x → Q x) → AllByRecursion P xs → AllByRecursion Q xs
all_map P Q [] f all = tt
all_map P Q (x ∷ xs) f all = (f x all.0, all_map P Q xs f all.1)

pub all_both : {A : Type 0} (P Q R : A → Type 0) (xs : List A) → ((x : A) → P x → Q x → R x) → AllByRecursion P xs → AllByRecursion Q xs → AllByRecursion R xs
all_both P Q R [] f p q = tt
all_both P Q R (x ∷ xs) f p q = (f x p.0 q.0, all_both P Q R xs f p.1 q.1)
