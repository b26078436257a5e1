-- A merge finds the first of the least heads, head by head.
use Rattle.std.proofs.Common.{◌≡◌, ℕ, ◌+◌, ◌<◌, ◌≤◌, ◌⊎◌, true, false, List, Option, Some, None, slice_get, get_or, length, option_map, refl, sym, ap, subst, ◌∙◌, inl, inr, arith}
use Rattle.std.specs.declared.cmp.Ordering.{Ordering}
use Rattle.std.specs.declared.cmp.Ordering.TheVariants.{Less, Equal, Greater}
use Rattle.std.specs.Ordering.{nat_cmp, is_lt, is_gt, ordering_reverse}
use Rattle.std.specs.Cmp.Lexicographic.{slice_cmp}
use Rattle.std.proofs.lemmas.Cmp.{nat_list_cmp_total, alike_right}
use Rattle.std.proofs.lemmas.Bool.{cases_eq}
use Rattle.std.proofs.lemmas.Option.{slice_get-map, slice_get_within, slice_get_read}
use Rattle.std.proofs.lemmas.List.{length-map}
use Rattle.lt_trace.specs.Heads.{keys_of_heads, IsFirstLeast, HaveEnded, is_below_least}
use Rattle.lt_trace.specs.declared.line.TraceLine.{TraceLine}

abbrev order : List ℕ → List ℕ → Ordering
order = slice_cmp nat_cmp

-- Of the first n heads, this one has the least key, and each head before it has a greater one.
pub record IsLeastOf (keys : List (Option (List ℕ))) (n i : ℕ) (key : List ℕ) : Type 0 where
  pub within : i < n
  pub head : slice_get keys i ≡ Some (Some key)
  pub first : (j : ℕ) (k : List ℕ) → j < i → slice_get keys j ≡ Some (Some k) → is_lt (slice_cmp nat_cmp key k) ≡ true
  pub least : (j : ℕ) (k : List ℕ) → j < n → slice_get keys j ≡ Some (Some k) → is_gt (slice_cmp nat_cmp key k) ≡ false

-- The least of the first n heads, or none if all these runs have ended.
abbrev pub LeastUpTo : List (Option (List ℕ)) → ℕ → Option (ℕ × List ℕ) → Type 0
LeastUpTo keys n None = (j : ℕ) (k : List ℕ) → j < n → slice_get keys j ≡ Some (Some k) → ⊥
LeastUpTo keys n (Some l) = IsLeastOf keys n l.0 l.1

-- ---- the order of two keys

lt_is_less : (o : Ordering) → is_lt o ≡ true → o ≡ Less
lt_is_less Less e = refl
lt_is_less Equal e = absurd cc
lt_is_less Greater e = absurd cc

-- a < b ≤ c
less_then_not_greater : (a b c : List ℕ) (o : Ordering) → o ≡ slice_cmp nat_cmp b c → is_lt (slice_cmp nat_cmp a b) ≡ true → is_gt o ≡ false → is_lt (slice_cmp nat_cmp a c) ≡ true
less_then_not_greater a b c Less e less h = ap is_lt (nat_list_cmp_total.trans a b c (lt_is_less _ less) (sym e))
less_then_not_greater a b c Equal e less h = ap is_lt (sym (alike_right nat_list_cmp_total b c a (sym e))) ∙ less
less_then_not_greater a b c Greater e less h = absurd cc

not_greater : (o : Ordering) → is_lt o ≡ true → is_gt o ≡ false
not_greater Less e = refl
not_greater Equal e = absurd cc
not_greater Greater e = absurd cc

not_greater_back : (o : Ordering) → is_lt o ≡ false → is_gt (ordering_reverse o) ≡ false
not_greater_back Less e = absurd cc
not_greater_back Equal e = refl
not_greater_back Greater e = refl

back : (a b : List ℕ) → is_lt (slice_cmp nat_cmp a b) ≡ false → is_gt (slice_cmp nat_cmp b a) ≡ false
back a b e = ap is_gt (nat_list_cmp_total.antisymm b a) ∙ not_greater_back (slice_cmp nat_cmp a b) e

itself : (a b : List ℕ) → a ≡ b → is_gt (slice_cmp nat_cmp a b) ≡ false
itself a b e = subst (λ (k : List ℕ). is_gt (slice_cmp nat_cmp a k) ≡ false) e (never_greater (slice_cmp nat_cmp a a) (nat_list_cmp_total.antisymm a a))
  where
    never_greater : (o : Ordering) → o ≡ ordering_reverse o → is_gt o ≡ false
    never_greater Less e = absurd cc
    never_greater Equal e = refl
    never_greater Greater e = absurd cc

-- ---- one head more

same_key : (a b : List ℕ) (o : Option (Option (List ℕ))) → o ≡ Some (Some a) → o ≡ Some (Some b) → a ≡ b
same_key a b o e f = cc

no_key : (k : List ℕ) (o : Option (Option (List ℕ))) → o ≡ Some None → o ≡ Some (Some k) → ⊥
no_key k o e f = absurd (let g : ◌≡◌ {A = Option (Option (List ℕ))} (Some None) (Some (Some k)) = sym e ∙ f in cc)

earlier_or : (j n : ℕ) → j < n + 1 → (j < n) ⊎ (j ≡ n)
earlier_or j n lt = elim (cases_eq j n) [
  | inl same ↦ inr same
  | inr other ↦ inl (omega arith)
]

pub ended_more : (keys : List (Option (List ℕ))) (n : ℕ) (least : Option (ℕ × List ℕ)) → slice_get keys n ≡ Some None → LeastUpTo keys n least → LeastUpTo keys (n + 1) least
ended_more keys n None e h = λ j k lt f. elim (earlier_or j n lt) [
  | inl l ↦ h j k l f
  | inr same ↦ no_key k (slice_get keys n) e (subst (λ (m : ℕ). slice_get keys m ≡ Some (Some k)) same f)
]
ended_more keys n (Some l) e h = record {
  within = omega (arith, h.within);
  head = h.head;
  first = h.first;
  least = λ j k lt f. elim (earlier_or j n lt) [
    | inl less ↦ h.least j k less f
    | inr same ↦ absurd (no_key k (slice_get keys n) e (subst (λ (m : ℕ). slice_get keys m ≡ Some (Some k)) same f))
  ];
}

pub first_found : (keys : List (Option (List ℕ))) (n : ℕ) (key : List ℕ) → slice_get keys n ≡ Some (Some key) → LeastUpTo keys n None → IsLeastOf keys (n + 1) n key
first_found keys n key e h = record {
  within = omega arith;
  head = e;
  first = λ j k lt f. absurd (h j k lt f);
  least = λ j k lt f. elim (earlier_or j n lt) [
    | inl less ↦ absurd (h j k less f)
    | inr same ↦ itself key k (same_key key k (slice_get keys n) e (subst (λ (m : ℕ). slice_get keys m ≡ Some (Some k)) same f))
  ];
}

pub less_found : (keys : List (Option (List ℕ))) (n i : ℕ) (key before : List ℕ) → slice_get keys n ≡ Some (Some key) → is_lt (slice_cmp nat_cmp key before) ≡ true → IsLeastOf keys n i before → IsLeastOf keys (n + 1) n key
less_found keys n i key before e less h = record {
  within = omega arith;
  head = e;
  first = λ j k lt f. less_then_not_greater key before k _ refl less (h.least j k lt f);
  least = λ j k lt f. elim (earlier_or j n lt) [
    | inl earlier ↦ not_greater _ (less_then_not_greater key before k _ refl less (h.least j k earlier f))
    | inr same ↦ itself key k (same_key key k (slice_get keys n) e (subst (λ (m : ℕ). slice_get keys m ≡ Some (Some k)) same f))
  ];
}

pub not_less_found : (keys : List (Option (List ℕ))) (n i : ℕ) (key before : List ℕ) → slice_get keys n ≡ Some (Some key) → is_lt (slice_cmp nat_cmp key before) ≡ false → IsLeastOf keys n i before → IsLeastOf keys (n + 1) i before
not_less_found keys n i key before e less h = record {
  within = omega (arith, h.within);
  head = h.head;
  first = h.first;
  least = λ j k lt f. elim (earlier_or j n lt) [
    | inl earlier ↦ h.least j k earlier f
    | inr same ↦ subst (λ (x : List ℕ). is_gt (slice_cmp nat_cmp before x) ≡ false) (same_key key k (slice_get keys n) e (subst (λ (m : ℕ). slice_get keys m ≡ Some (Some k)) same f)) (back key before less)
  ];
}

-- ---- what the loop does at one head

pub below_more_heads : (keys : List (Option (List ℕ))) (n : ℕ) (key : List ℕ) (least : Option (ℕ × List ℕ)) → slice_get keys n ≡ Some (Some key) → is_below_least key least ≡ true → LeastUpTo keys n least → LeastUpTo keys (n + 1) (Some (n, key))
below_more_heads keys n key None e below h = first_found keys n key e h
below_more_heads keys n key (Some l) e below h = less_found keys n l.0 key l.1 e below h

pub not_below_more_heads : (keys : List (Option (List ℕ))) (n : ℕ) (key : List ℕ) (least : Option (ℕ × List ℕ)) → slice_get keys n ≡ Some (Some key) → is_below_least key least ≡ false → LeastUpTo keys n least → LeastUpTo keys (n + 1) least
not_below_more_heads keys n key None e below h = absurd cc
not_below_more_heads keys n key (Some l) e below h = not_less_found keys n l.0 key l.1 e below h

head_key : (heads : List (Option TraceLine)) (n : ℕ) (head : Option TraceLine) → slice_get heads n ≡ Some head → slice_get (keys_of_heads heads) n ≡ Some (option_map (λ line. line.key) head)
head_key heads n head e = slice_get-map (λ head. option_map (λ line. line.key) head) heads n ∙ ap (λ o. option_map (λ head. option_map (λ line. line.key) head) o) e

pub line_head : (heads : List (Option TraceLine)) (n i : ℕ) (head : Option TraceLine) (line : TraceLine) → n ≡ i → i < length heads → head ≡ get_or heads i head → head ≡ Some line → slice_get (keys_of_heads heads) n ≡ Some (Some line.key)
line_head heads n i head line e lt f g = rw e (head_key heads i head (slice_get_read heads (length heads) i head refl lt f) ∙ ap (λ h. Some (option_map (λ line. line.key) h)) g)

pub ended_head : (heads : List (Option TraceLine)) (n i : ℕ) (head : Option TraceLine) → n ≡ i → i < length heads → head ≡ get_or heads i head → head ≡ None → slice_get (keys_of_heads heads) n ≡ Some None
ended_head heads n i head e lt f g = rw e (head_key heads i head (slice_get_read heads (length heads) i head refl lt f) ∙ ap (λ h. Some (option_map (λ line. line.key) h)) g)

-- ---- all heads

length_of_keys : (heads : List (Option TraceLine)) → length (keys_of_heads heads) ≡ length heads
length_of_keys heads = length-map heads (λ head. option_map (λ line. line.key) head)

pub all_ended : (heads : List (Option TraceLine)) (n : ℕ) → length heads ≤ n → LeastUpTo (keys_of_heads heads) n None → HaveEnded (keys_of_heads heads)
all_ended heads n le h = λ j k e. h j k (omega (arith, length_of_keys heads, slice_get_within (keys_of_heads heads) j (Some k) e)) e

pub least_of_all : (heads : List (Option TraceLine)) (n i : ℕ) (key : List ℕ) → length heads ≤ n → IsLeastOf (keys_of_heads heads) n i key → IsFirstLeast (keys_of_heads heads) i
least_of_all heads n i key le h = record {
  key = key;
  head = h.head;
  first = h.first;
  least = λ j k e. h.least j k (omega (arith, length_of_keys heads, slice_get_within (keys_of_heads heads) j (Some k) e)) e;
}
