-- Positions in a list of distinct numbers: the rest of the list from a position, and after it.
use Rattle.std.proofs.Common.{◌≡◌, ◌⊎◌, ℕ, ◌<◌, length, Bool, true, false, cond, Option, Some, None, List, [], ◌∷◌, ◌++◌, refl, sym, ap, ◌∙◌, inl, inr, arith, subst, append_assoc}
use Rattle.std.specs.Prelude.{nat_eq, slice_get}
use Rattle.std.specs.List.{last_or}
use mathlib.Core.Bool.{true≢false}
use Rattle.lt_links.specs.Ring.{has, is_in, Distinct, without, put_after}
use Rattle.lt_links.proofs.Rings.{same_or_apart, is_itself, without_absent}

-- the rest of the list from a number; nothing from the end
abbrev pub rest_from : Option ℕ → List ℕ → List ℕ
rest_from None l = []
rest_from (Some n) [] = []
rest_from (Some n) (x ∷ xs) = cond (nat_eq n x) (x ∷ xs) (rest_from (Some n) xs)

-- the rest of the list after a number; the whole list after the position before the first
abbrev pub behind : Option ℕ → List ℕ → List ℕ
behind None l = l
behind (Some n) [] = []
behind (Some n) (x ∷ xs) = cond (nat_eq n x) xs (behind (Some n) xs)

pub is_false : (b : Bool) → (b ≡ true → ⊥) → b ≡ false
is_false true h = absurd (h refl)
is_false false h = refl

pub has_first : (n : ℕ) (xs : List ℕ) → has n (n ∷ xs) ≡ true
has_first n xs = rw (is_itself n) refl

pub has_later : (n x : ℕ) (xs : List ℕ) → has n xs ≡ true → has n (x ∷ xs) ≡ true
has_later n x xs h = rw h (elim (nat_eq n x) as (λ b. cond b true true ≡ true) [ true ↦ refl | false ↦ refl ])

pub has_part : (n : ℕ) (xs ys : List ℕ) → has n ys ≡ true → has n (xs ++ ys) ≡ true
has_part n [] ys h = h
has_part n (x ∷ xs) ys h = has_later n x (xs ++ ys) (has_part n xs ys h)

pub has_cut : (n : ℕ) (xs ys : List ℕ) → has n (xs ++ n ∷ ys) ≡ true
has_cut n xs ys = has_part n xs (n ∷ ys) (has_first n ys)

-- a list is cut at one of its numbers
pub cut_at : (n : ℕ) (l : List ℕ) → has n l ≡ true → (xs : List ℕ) × (ys : List ℕ) × (l ≡ xs ++ n ∷ ys)
cut_at n [] h = absurd (true≢false (sym h))
cut_at n (x ∷ xs) h =
    elim (same_or_apart n x) [
      | inl s ↦ ([], xs, ap (λ m. m ∷ xs) (sym s.0))
      | inr o ↦
          let r = cut_at n xs (rw o.1 at h) in
          (x ∷ r.0, r.1, ap (λ l. x ∷ l) r.2)
    ]

-- in a list of distinct numbers, no number comes before itself
pub off_front : (n : ℕ) (xs ys : List ℕ) → Distinct (xs ++ n ∷ ys) → has n xs ≡ false
off_front n [] ys d = refl
off_front n (x ∷ xs) ys d =
    elim (same_or_apart n x) [
      | inl s ↦ absurd (true≢false (sym (has_cut n xs ys) ∙ ap (λ m. has m (xs ++ n ∷ ys)) s.0 ∙ d.0))
      | inr o ↦ rw o.1 (off_front n xs ys d.1)
    ]

-- nor after itself
pub off_back : (n : ℕ) (xs ys : List ℕ) → Distinct (xs ++ n ∷ ys) → has n ys ≡ false
off_back n [] ys d = d.0
off_back n (x ∷ xs) ys d = off_back n xs ys d.1

pub without_cut : (n : ℕ) (xs ys : List ℕ) → Distinct (xs ++ n ∷ ys) → without n (xs ++ n ∷ ys) ≡ xs ++ ys
without_cut n [] ys d = rw (is_itself n) (without_absent n ys d.0)
without_cut n (x ∷ xs) ys d =
    elim (same_or_apart n x) [
      | inl s ↦ absurd (true≢false (sym (has_cut n xs ys) ∙ ap (λ m. has m (xs ++ n ∷ ys)) s.0 ∙ d.0))
      | inr o ↦ rw o.1 (ap (λ l. x ∷ l) (without_cut n xs ys d.1))
    ]

pub put_after_cut : (m n : ℕ) (xs ys : List ℕ) → has m xs ≡ false → put_after (Some m) n (xs ++ m ∷ ys) ≡ xs ++ m ∷ n ∷ ys
put_after_cut m n [] ys off = rw (is_itself m) refl
put_after_cut m n (x ∷ xs) ys off =
    elim (same_or_apart m x) [
      | inl s ↦ absurd (true≢false (rw s.1 at off))
      | inr o ↦ rw o.1 (ap (λ l. x ∷ l) (put_after_cut m n xs ys (rw o.1 at off)))
    ]

pub rest_cut : (n : ℕ) (xs ys : List ℕ) → has n xs ≡ false → rest_from (Some n) (xs ++ n ∷ ys) ≡ n ∷ ys
rest_cut n [] ys off = rw (is_itself n) refl
rest_cut n (x ∷ xs) ys off =
    elim (same_or_apart n x) [
      | inl s ↦ absurd (true≢false (rw s.1 at off))
      | inr o ↦ rw o.1 (rest_cut n xs ys (rw o.1 at off))
    ]

pub behind_cut : (n : ℕ) (xs ys : List ℕ) → has n xs ≡ false → behind (Some n) (xs ++ n ∷ ys) ≡ ys
behind_cut n [] ys off = rw (is_itself n) refl
behind_cut n (x ∷ xs) ys off =
    elim (same_or_apart n x) [
      | inl s ↦ absurd (true≢false (rw s.1 at off))
      | inr o ↦ rw o.1 (behind_cut n xs ys (rw o.1 at off))
    ]

-- from the first number of the second part, the rest is that part
pub rest_part : (xs ys : List ℕ) → Distinct (xs ++ ys) → rest_from (slice_get ys 0) (xs ++ ys) ≡ ys
rest_part xs [] d = refl
rest_part xs (y ∷ ys) d = rest_cut y xs ys (off_front y xs ys d)

pub first_in : (xs ys : List ℕ) → is_in (xs ++ ys) (slice_get ys 0) ≡ true
first_in xs [] = refl
first_in xs (y ∷ ys) = has_cut y xs ys

-- the first number of a list, at which a walk begins
pub rest_first : (at : Option ℕ) (l : List ℕ) → at ≡ slice_get l 0 → Distinct l → rest_from at l ≡ l
rest_first at l e d = ap (λ a. rest_from a l) e ∙ rest_part [] l d

pub in_first : (at : Option ℕ) (l : List ℕ) → at ≡ slice_get l 0 → is_in l at ≡ true
in_first at l e = ap (is_in l) e ∙ first_in [] l

-- One move of a walk: this number comes immediately after that one.
abbrev pub Follows : List ℕ → ℕ → Option ℕ → Type 0
Follows l n at = (xs ys : List ℕ) → l ≡ xs ++ n ∷ ys → at ≡ slice_get ys 0

pub rest_next : (n : ℕ) (at : Option ℕ) (l : List ℕ) → has n l ≡ true → Distinct l → Follows l n at → rest_from (Some n) l ≡ n ∷ rest_from at l
rest_next n at l there d follows =
    let cut = cut_at n l there in
    let d' : Distinct (cut.0 ++ n ∷ cut.1) = subst Distinct cut.2 d in
    let joined : (cut.0 ++ n ∷ []) ++ cut.1 ≡ cut.0 ++ n ∷ cut.1 = append_assoc cut.0 (n ∷ []) cut.1 in
    let rest : rest_from at l ≡ cut.1 =
    ap (λ a. rest_from a l) (follows cut.0 cut.1 cut.2) ∙ ap (rest_from (slice_get cut.1 0)) (cut.2 ∙ sym joined) ∙ rest_part (cut.0 ++ n ∷ []) cut.1 (subst Distinct (sym joined) d') in
    ap (rest_from (Some n)) cut.2 ∙ rest_cut n cut.0 cut.1 (off_front n cut.0 cut.1 d') ∙ ap (λ l. n ∷ l) (sym rest)

pub rest_here : (n : ℕ) (l : List ℕ) → has n l ≡ true → (ys : List ℕ) × (rest_from (Some n) l ≡ n ∷ ys)
rest_here n [] there = absurd (true≢false (sym there))
rest_here n (x ∷ xs) there =
    elim (same_or_apart n x) [
      | inl s ↦ (xs, rw s.1 (ap (λ m. m ∷ xs) (sym s.0)))
      | inr o ↦ let r = rest_here n xs (rw o.1 at there) in (r.0, rw o.1 r.1)
    ]

pub in_next : (n : ℕ) (at : Option ℕ) (l : List ℕ) → has n l ≡ true → Follows l n at → is_in l at ≡ true
in_next n at l there follows =
    let cut = cut_at n l there in
    let joined : (cut.0 ++ n ∷ []) ++ cut.1 ≡ cut.0 ++ n ∷ cut.1 = append_assoc cut.0 (n ∷ []) cut.1 in
    ap (is_in l) (follows cut.0 cut.1 cut.2) ∙ ap (λ l. is_in l (slice_get cut.1 0)) (cut.2 ∙ sym joined) ∙ first_in (cut.0 ++ n ∷ []) cut.1

pub rest_falls : (n : ℕ) (at : Option ℕ) (l : List ℕ) → has n l ≡ true → Distinct l → Follows l n at → length (rest_from at l) < length (rest_from (Some n) l)
rest_falls n at l there d follows = omega (arith, ap length (rest_next n at l there d follows))

-- a list has a last element or none
pub ends : {X : Type 0} (l : List X) → (l ≡ []) ⊎ ((bs : List X) × (b : X) × (l ≡ bs ++ b ∷ []))
ends [] = inl refl
ends (x ∷ xs) = elim (ends xs) [
  | inl e ↦ inr ([], x, ap (λ l. x ∷ l) e)
  | inr (bs, b, e) ↦ inr (x ∷ bs, b, ap (λ l. x ∷ l) e)
]

pub last_end : {X : Type 0} (o : Option X) (bs : List X) (b : X) → last_or o (bs ++ b ∷ []) ≡ Some b
last_end o [] b = refl
last_end o (x ∷ bs) b = last_end (Some x) bs b

-- after the last number of the first part, the rest is the second part
pub behind_part : (xs ys : List ℕ) → Distinct (xs ++ ys) → behind (last_or None xs) (xs ++ ys) ≡ ys
behind_part xs ys d = elim (ends xs) [
  | inl e ↦ ap (λ l. behind (last_or None l) (l ++ ys)) e
  | inr (bs, b, e) ↦
      let joined : xs ++ ys ≡ bs ++ b ∷ ys = ap (λ l. l ++ ys) e ∙ append_assoc bs (b ∷ []) ys in
      ap (λ l. behind (last_or None l) (xs ++ ys)) e ∙ ap (λ o. behind o (xs ++ ys)) (last_end None bs b) ∙ ap (behind (Some b)) joined ∙ behind_cut b bs ys (off_front b bs ys (subst Distinct joined d))
]

pub last_in : (xs ys : List ℕ) → is_in (xs ++ ys) (last_or None xs) ≡ true
last_in xs ys = elim (ends xs) [
  | inl e ↦ ap (λ l. is_in (l ++ ys) (last_or None l)) e
  | inr (bs, b, e) ↦
      ap (λ l. is_in (l ++ ys) (last_or None l)) e ∙ ap (is_in ((bs ++ b ∷ []) ++ ys)) (last_end None bs b) ∙ ap (has b) (append_assoc bs (b ∷ []) ys) ∙ has_cut b bs ys
]
