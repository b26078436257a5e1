-- Keys in byte order.
use Rattle.std.proofs.Common.{◌≡◌, ℕ, ◌⊎◌, true, false, List, [], ◌∷◌, refl, sym, ap, subst, ◌∙◌, inl, inr}
use Rattle.std.specs.Str.{bytes_eq}
use Rattle.std.specs.declared.cmp.Ordering.{Ordering}
use Rattle.std.specs.declared.cmp.Ordering.TheVariants.{Less, Equal, Greater}
use Rattle.std.specs.Ordering.{nat_cmp, is_lt, is_eq, ordering_reverse}
use Rattle.std.specs.Cmp.Lexicographic.{slice_cmp}
use Rattle.std.proofs.lemmas.Cmp.{nat_list_cmp_total}
use Rattle.std.proofs.lemmas.Map.Text.{is_eq-slice_cmp}
use Rattle.std.proofs.lemmas.Bool.{false≢true}
use Rattle.lt_entry.proofs.SameKeys.{same_key}
use Rattle.lt_checker.specs.Histories.{precedes}

abbrev order : List ℕ → List ℕ → Ordering
order = slice_cmp nat_cmp

less : (o : Ordering) → is_lt o ≡ true → o ≡ Less
less Less e = refl
less Equal e = absurd (false≢true e)
less Greater e = absurd (false≢true e)

-- The three cases of two keys: less, equal, greater.
record Compared (a b : List ℕ) (o : Ordering) : Type 0 where
  here : order a b ≡ o
  back : order b a ≡ ordering_reverse o

compared : (a b : List ℕ) → Compared a b (order a b)
compared a b = record { here = refl; back = nat_list_cmp_total.antisymm b a }

-- A key that does not precede another is equal to it or follows it.
pub same_or_after : (a b : List ℕ) → precedes b a ≡ false → (bytes_eq b a ≡ true) ⊎ (precedes a b ≡ true)
same_or_after a b e =
    elim (order a b) as (λ o. Compared a b o → (bytes_eq b a ≡ true) ⊎ (precedes a b ≡ true)) [
      | Less ↦ λ h. inr (ap is_lt h.here)
      | Equal ↦ λ h. inl (sym (is_eq-slice_cmp b a) ∙ ap is_eq h.back)
      | Greater ↦ λ h. absurd (false≢true (sym e ∙ ap is_lt h.back))
    ] (compared a b)

pub not_back : (a b : List ℕ) → precedes a b ≡ true → precedes b a ≡ false
not_back a b e = ap is_lt (nat_list_cmp_total.antisymm b a ∙ ap ordering_reverse (less (order a b) e))

pub apart : (a b : List ℕ) → precedes a b ≡ true → bytes_eq a b ≡ false
apart a b e = sym (is_eq-slice_cmp a b) ∙ ap is_eq (less (order a b) e)

pub apart_back : (a b : List ℕ) → precedes a b ≡ true → bytes_eq b a ≡ false
apart_back a b e = sym (is_eq-slice_cmp b a) ∙ ap is_eq (nat_list_cmp_total.antisymm b a ∙ ap ordering_reverse (less (order a b) e))

pub precedes_itself : (a : List ℕ) → precedes a a ≡ false
precedes_itself a =
    elim (order a a) as (λ o. Compared a a o → precedes a a ≡ false) [
      | Less ↦ λ h. absurd (false≢true (ap is_lt (sym h.back ∙ h.here)))
      | Equal ↦ λ h. ap is_lt h.here
      | Greater ↦ λ h. ap is_lt h.here
    ] (compared a a)

pub before_before : (a b c : List ℕ) → precedes a b ≡ true → precedes b c ≡ true → precedes a c ≡ true
before_before a b c p q = ap is_lt (nat_list_cmp_total.trans a b c (less (order a b) p) (less (order b c) q))

-- a does not follow b, and b precedes c.
pub upto_before : (a b c : List ℕ) → precedes b a ≡ false → precedes b c ≡ true → precedes a c ≡ true
upto_before a b c p q =
    elim (same_or_after a b p) [
      | inl e ↦ subst (λ (x : List ℕ). precedes x c ≡ true) (same_key b a e) q
      | inr lt ↦ before_before a b c lt q
    ]

-- a precedes b, and b does not follow c.
pub before_upto : (a b c : List ℕ) → precedes a b ≡ true → precedes c b ≡ false → precedes a c ≡ true
before_upto a b c p q =
    elim (same_or_after b c q) [
      | inl e ↦ subst (λ (x : List ℕ). precedes a x ≡ true) (sym (same_key c b e)) p
      | inr lt ↦ before_before a b c p lt
    ]

-- Two keys that differ.
pub apart_keys : (a b : List ℕ) → bytes_eq a b ≡ false → (precedes a b ≡ true) ⊎ (precedes b a ≡ true)
apart_keys a b e =
    elim (precedes a b) as (λ t. precedes a b ≡ t → (t ≡ true) ⊎ (precedes b a ≡ true)) [
      | true ↦ λ h. inl refl
      | false ↦ λ h. elim (same_or_after b a h) [
        | inl same ↦ absurd (false≢true (sym e ∙ same))
        | inr lt ↦ inr lt
      ]
    ] refl

pub never_before_none : (key : List ℕ) → precedes key [] ≡ false
never_before_none [] = refl
never_before_none (b ∷ bs) = refl
