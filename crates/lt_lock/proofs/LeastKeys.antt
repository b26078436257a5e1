-- The least of the keys that pass a test, found by one walk through keys that are in no order.
use Rattle.std.proofs.Common.{◌≡◌, ◌<◌, ◌≤◌, ℕ, Bool, true, false, cond, ◌||◌, List, [], ◌∷◌, map, take, length, filter, Option, Some, None, is_some, refl, sym, ap, ◌∙◌, subst, T, zero, suc, All, arith}
use Rattle.std.proofs.lemmas.List.{take_all}
use Rattle.std.proofs.lemmas.List.Elements.{All-tail}
use Rattle.std.specs.declared.cmp.Ordering.{Ordering}
use Rattle.std.specs.declared.cmp.Ordering.TheVariants.{Less, Equal, Greater}
use Rattle.std.specs.Ordering.{match_ordering, is_lt, is_le, eq_by_cmp}
use Rattle.std.specs.List.{list_any}
use Rattle.std.specs.List.Sorted.{IsStrictlySortedBy}
use Rattle.std.specs.Str.{bytes_eq}
use Rattle.std.specs.Cmp.Lexicographic.{nat_list_cmp_total, texts_ties}
use Rattle.std.specs.FinMap as finmap
use Rattle.std.specs.FinMap.{get, keys, entries, insert, entries-insert, contains_key-keys, get-insert, get-empty, slice_cmp-IsAntisymmetric, nat_cmp-IsAntisymmetric}
use Rattle.std.specs.FinMap.Entries.{put, by_order}
use Rattle.std.specs.BTreeSet.{insert_key}
use Rattle.std.specs.HashMap as hash
use Rattle.lt_links.specs.Maps.{Maps}
use Rattle.lt_rules.specs.Rules.{Record, empty}
use Rattle.lt_rules.specs.Table.{Records, comes_after, keys_after}
use Rattle.lt_rules.proofs.Maps.{order}
use Rattle.lt_rules.proofs.Rising.{rising_keys, keys-from_entries}
use Rattle.lt_lock.specs.Linked.{Rows, records_of}
use Rattle.lt_lock.proofs.SortedKeys.{rising_keys_of_rows}

-- ---- a key that goes to its place

put_less : (k x : List ℕ) (xs : List (List ℕ)) → order k x ≡ Less → insert_key order (x ∷ xs) k ≡ k ∷ x ∷ xs
put_less k x xs e = ap (λ o. match_ordering o (k ∷ x ∷ xs) (x ∷ xs) (x ∷ insert_key order xs k)) e

put_equal : (k x : List ℕ) (xs : List (List ℕ)) → order k x ≡ Equal → insert_key order (x ∷ xs) k ≡ x ∷ xs
put_equal k x xs e = ap (λ o. match_ordering o (k ∷ x ∷ xs) (x ∷ xs) (x ∷ insert_key order xs k)) e

put_greater : (k x : List ℕ) (xs : List (List ℕ)) → order k x ≡ Greater → insert_key order (x ∷ xs) k ≡ x ∷ insert_key order xs k
put_greater k x xs e = ap (λ o. match_ordering o (k ∷ x ∷ xs) (x ∷ xs) (x ∷ insert_key order xs k)) e

-- ---- of a list that was cut, the front is the same

cut_again : (n : ℕ) (xs : List (List ℕ)) → take n (take n xs) ≡ take n xs
cut_again zero xs = refl
cut_again (suc n) [] = refl
cut_again (suc n) (x ∷ xs) = ap (λ l. x ∷ l) (cut_again n xs)

cut_within : (n : ℕ) (x : List ℕ) (xs : List (List ℕ)) → take n (x ∷ take n xs) ≡ take n (x ∷ xs)
cut_within zero x xs = refl
cut_within (suc n) x [] = refl
cut_within (suc n) x (y ∷ ys) = ap (λ l. x ∷ l) (cut_within n y ys)

cut_put : (n : ℕ) (ls : List (List ℕ)) (k : List ℕ) → take n (insert_key order (take n ls) k) ≡ take n (insert_key order ls k)
cut_put zero ls k = refl
cut_put (suc n) [] k = refl
cut_put (suc n) (x ∷ xs) k = elim (order k x) as (λ o. take (suc n) (match_ordering o (k ∷ x ∷ take n xs) (x ∷ take n xs) (x ∷ insert_key order (take n xs) k)) ≡ take (suc n) (match_ordering o (k ∷ x ∷ xs) (x ∷ xs) (x ∷ insert_key order xs k))) [
  | Less ↦ ap (λ l. k ∷ l) (cut_within n x xs)
  | Equal ↦ ap (λ l. x ∷ l) (cut_again n xs)
  | Greater ↦ ap (λ l. x ∷ l) (cut_put n xs k)
]

-- ---- a test that every key above one that passes it passes too

module _ (p : List ℕ → Bool) where
  keep : (x : List ℕ) (xs : List (List ℕ)) → p x ≡ true → filter p (x ∷ xs) ≡ x ∷ filter p xs
  keep x xs e = ap (λ b. cond b (x ∷ filter p xs) (filter p xs)) e

  leave : (x : List ℕ) (xs : List (List ℕ)) → p x ≡ false → filter p (x ∷ xs) ≡ filter p xs
  leave x xs e = ap (λ b. cond b (x ∷ filter p xs) (filter p xs)) e

  -- a key that does not pass
  filter_put_no : (ls : List (List ℕ)) (k : List ℕ) → p k ≡ false → filter p (insert_key order ls k) ≡ filter p ls
  filter_put_no [] k fails = leave k [] fails
  filter_put_no (x ∷ xs) k fails = elim (order k x) as (λ o. filter p (match_ordering o (k ∷ x ∷ xs) (x ∷ xs) (x ∷ insert_key order xs k)) ≡ filter p (x ∷ xs)) [
    | Less ↦ leave k (x ∷ xs) fails
    | Equal ↦ refl
    | Greater ↦ ap (λ l. cond (p x) (x ∷ l) l) (filter_put_no xs k fails)
  ]

  -- a key that passes
  filter_put_yes : (up : (x y : List ℕ) → p x ≡ true → order x y ≡ Less → p y ≡ true) (ls : List (List ℕ)) (k : List ℕ) → p k ≡ true → filter p (insert_key order ls k) ≡ insert_key order (filter p ls) k
  filter_put_yes up [] k passes = keep k [] passes
  filter_put_yes up (x ∷ xs) k passes = elim (order k x) as (λ o. order k x ≡ o → filter p (insert_key order (x ∷ xs) k) ≡ insert_key order (filter p (x ∷ xs)) k) [
    | Less ↦ λ e.
        let px : p x ≡ true = up k x passes e in
        ap (filter p) (put_less k x xs e) ∙ keep k (x ∷ xs) passes ∙ ap (λ l. k ∷ l) (keep x xs px)
        ∙ sym (ap (λ l. insert_key order l k) (keep x xs px) ∙ put_less k x (filter p xs) e)
    | Equal ↦ λ e.
        let px : p x ≡ true = subst (λ y. p y ≡ true) (slice_cmp-IsAntisymmetric nat_cmp-IsAntisymmetric k x e) passes in
        ap (filter p) (put_equal k x xs e) ∙ keep x xs px
        ∙ sym (ap (λ l. insert_key order l k) (keep x xs px) ∙ put_equal k x (filter p xs) e)
    | Greater ↦ λ e. elim (p x) as (λ b. p x ≡ b → filter p (insert_key order (x ∷ xs) k) ≡ insert_key order (filter p (x ∷ xs)) k) [
      | true ↦ λ px. ap (filter p) (put_greater k x xs e) ∙ keep x (insert_key order xs k) px ∙ ap (λ l. x ∷ l) (filter_put_yes up xs k passes)
          ∙ sym (ap (λ l. insert_key order l k) (keep x xs px) ∙ put_greater k x (filter p xs) e)
      | false ↦ λ px. ap (filter p) (put_greater k x xs e) ∙ leave x (insert_key order xs k) px ∙ filter_put_yes up xs k passes
          ∙ sym (ap (λ l. insert_key order l k) (leave x xs px))
    ] refl
  ] refl

  -- the keys, with those that pass put among them in turn: at most n stay
  abbrev pub least_of : ℕ → List (List ℕ) → List (List ℕ) → List (List ℕ)
  least_of n ls [] = ls
  least_of n ls (k ∷ ks) = least_of n (cond (p k) (take n (insert_key order ls k)) ls) ks

-- the keys, with all of these put among them in turn
abbrev all_put : List (List ℕ) → List (List ℕ) → List (List ℕ)
all_put ls [] = ls
all_put ls (k ∷ ks) = all_put (insert_key order ls k) ks

one_more : (p : List ℕ → Bool) (up : (x y : List ℕ) → p x ≡ true → order x y ≡ Less → p y ≡ true) (n : ℕ) (ls : List (List ℕ)) (k : List ℕ) → cond (p k) (take n (insert_key order (take n (filter p ls)) k)) (take n (filter p ls)) ≡ take n (filter p (insert_key order ls k))
one_more p up n ls k = elim (p k) as (λ b. p k ≡ b → cond b (take n (insert_key order (take n (filter p ls)) k)) (take n (filter p ls)) ≡ take n (filter p (insert_key order ls k))) [
  | true ↦ λ e. cut_put n (filter p ls) k ∙ ap (take n) (sym (filter_put_yes p up ls k e))
  | false ↦ λ e. ap (take n) (sym (filter_put_no p ls k e))
] refl

least_of_cut : (p : List ℕ → Bool) (up : (x y : List ℕ) → p x ≡ true → order x y ≡ Less → p y ≡ true) (n : ℕ) (ls ks : List (List ℕ)) → least_of p n (take n (filter p ls)) ks ≡ take n (filter p (all_put ls ks))
least_of_cut p up n ls [] = refl
least_of_cut p up n ls (k ∷ ks) = ap (λ l. least_of p n l ks) (one_more p up n ls k) ∙ least_of_cut p up n (insert_key order ls k) ks

-- ---- keys that were put in turn are those of a map

map_put : (k : List ℕ) (r : Record) (es : List (List ℕ × Record)) → map (λ (e : List ℕ × Record). e.0) (put order k r es) ≡ insert_key order (map (λ e. e.0) es) k
map_put k r [] = refl
map_put k r (e ∷ es) = elim (order k e.0) as (λ o. map (λ (x : List ℕ × Record). x.0) (by_order o ((k, r) ∷ e ∷ es) ((e.0, r) ∷ es) (e ∷ put order k r es)) ≡ match_ordering o (k ∷ e.0 ∷ map (λ x. x.0) es) (e.0 ∷ map (λ x. x.0) es) (e.0 ∷ insert_key order (map (λ x. x.0) es) k)) [
  | Less ↦ refl
  | Equal ↦ refl
  | Greater ↦ ap (λ l. e.0 ∷ l) (map_put k r es)
]

keys_insert : (m : Records) (k : List ℕ) (r : Record) → keys (insert m k r) ≡ insert_key order (keys m) k
keys_insert m k r = ap (map (λ e. e.0)) (entries-insert nat_list_cmp_total m k r) ∙ map_put k r (entries m)

abbrev inserted : Records → List (List ℕ) → Records
inserted m [] = m
inserted m (k ∷ ks) = inserted (insert m k empty) ks

all_put_keys : (m : Records) (ks : List (List ℕ)) → all_put (keys m) ks ≡ keys (inserted m ks)
all_put_keys m [] = refl
all_put_keys m (k ∷ ks) = ap (λ l. all_put l ks) (sym (keys_insert m k empty)) ∙ all_put_keys (insert m k empty) ks

is_some_cond : (b : Bool) (o : Option Record) → is_some (cond b (Some empty) o) ≡ (b || is_some o)
is_some_cond true o = refl
is_some_cond false o = refl

either_first : (a b c : Bool) → (a || (b || c)) ≡ ((b || a) || c)
either_first true true c = refl
either_first true false c = refl
either_first false true c = refl
either_first false false c = refl

has_inserted : (m : Records) (ks : List (List ℕ)) (q : List ℕ) → is_some (get (inserted m ks) q) ≡ (list_any (eq_by_cmp order q) ks || is_some (get m q))
has_inserted m [] q = refl
has_inserted m (k ∷ ks) q =
    has_inserted (insert m k empty) ks q
    ∙ ap (λ b. list_any (eq_by_cmp order q) ks || b) (ap is_some (get-insert nat_list_cmp_total m k empty q) ∙ is_some_cond (eq_by_cmp order q k) (get m q))
    ∙ either_first (list_any (eq_by_cmp order q) ks) (eq_by_cmp order q k) (is_some (get m q))

same_among : (q : List ℕ) (ks : List (List ℕ)) → list_any (bytes_eq q) ks ≡ list_any (eq_by_cmp order q) ks
same_among q [] = refl
same_among q (k ∷ ks) = λ i. texts_ties q k i || same_among q ks i

or_false : (b : Bool) → (b || false) ≡ b
or_false true = refl
or_false false = refl

abbrev none : Records
none = finmap.empty

no_keys : keys none ≡ []
unfolding IsStrictlySortedBy
no_keys = keys-from_entries {X = Record} [] tt

all_put_among : (ks : List (List ℕ)) (q : List ℕ) → list_any (bytes_eq q) (all_put [] ks) ≡ list_any (bytes_eq q) ks
all_put_among ks q =
    ap (λ l. list_any (bytes_eq q) (all_put l ks)) (sym no_keys)
    ∙ ap (list_any (bytes_eq q)) (all_put_keys none ks)
    ∙ same_among q (keys (inserted none ks))
    ∙ sym (contains_key-keys (inserted none ks) q)
    ∙ has_inserted none ks q
    ∙ ap (λ b. list_any (eq_by_cmp order q) ks || b) (ap is_some (get-empty order q))
    ∙ or_false (list_any (eq_by_cmp order q) ks)
    ∙ sym (same_among q ks)

all_put_rises : (ks : List (List ℕ)) → IsStrictlySortedBy order (all_put [] ks)
all_put_rises ks = subst (IsStrictlySortedBy order) (sym (ap (λ l. all_put l ks) (sym no_keys) ∙ all_put_keys none ks)) (rising_keys (inserted none ks))

-- ---- the keys after a given one

is_less : (o : Ordering) → is_lt o ≡ true → o ≡ Less
is_less Less e = refl
is_less Equal e = absurd (subst T (sym e) tt)
is_less Greater e = absurd (subst T (sym e) tt)

above : (after : Option (List ℕ)) (x y : List ℕ) → comes_after after x ≡ true → order x y ≡ Less → comes_after after y ≡ true
above None x y e less = refl
above (Some low) x y e less = ap is_lt (nat_list_cmp_total.trans low x y (is_less (order low x) e) less)

take_none : (n : ℕ) → take {A = List ℕ} n [] ≡ []
take_none zero = refl
take_none (suc n) = refl

-- the least of the rows' keys that come after a given one are the first of these keys
pub least_keys : (m : Maps) (rows : Rows) (after : Option (List ℕ)) (n : ℕ) → least_of (comes_after after) n [] (hash.keys rows) ≡ keys_after (records_of m rows) after n
least_keys m rows after n =
    let p : List ℕ → Bool = comes_after after in
    let ks : List (List ℕ) = hash.keys rows in
    ap (λ l. least_of p n l ks) (sym (take_none n))
    ∙ least_of_cut p (above after) n [] ks
    ∙ ap (λ l. take n (filter p l)) (rising_keys_of_rows m rows (all_put [] ks) (all_put_rises ks) (all_put_among ks))

-- ---- one more key of a map

-- the first keys of a map with one more key: those of the map, and this one among them if it comes after the given one
keys_after_insert : (m : Records) (k : List ℕ) (r : Record) (after : Option (List ℕ)) (n : ℕ) → cond (comes_after after k) (take n (insert_key order (keys_after m after n) k)) (keys_after m after n) ≡ keys_after (insert m k r) after n
keys_after_insert m k r after n = one_more (comes_after after) (above after) n (keys m) k ∙ ap (λ l. take n (filter (comes_after after) l)) (sym (keys_insert m k r))

pub keys_with_it : (m : Records) (k : List ℕ) (r : Record) (after : Option (List ℕ)) (n : ℕ) → comes_after after k ≡ true → take n (insert_key order (keys_after m after n) k) ≡ keys_after (insert m k r) after n
keys_with_it m k r after n e = sym (ap (λ b. cond b (take n (insert_key order (keys_after m after n) k)) (keys_after m after n)) e) ∙ keys_after_insert m k r after n

pub keys_without_it : (m : Records) (k : List ℕ) (r : Record) (after : Option (List ℕ)) (n : ℕ) → comes_after after k ≡ false → keys_after m after n ≡ keys_after (insert m k r) after n
keys_without_it m k r after n e = sym (ap (λ b. cond b (take n (insert_key order (keys_after m after n) k)) (keys_after m after n)) e) ∙ keys_after_insert m k r after n

all_pass : (xs : List (List ℕ)) → filter (comes_after None) xs ≡ xs
all_pass [] = refl
all_pass (x ∷ xs) = ap (λ l. x ∷ l) (all_pass xs)

-- a list that a cut left shorter than it may be was not cut
uncut : (n : ℕ) (xs : List (List ℕ)) → length (take n xs) < n → take n xs ≡ xs
uncut zero xs less = absurd (omega (arith, less))
uncut (suc n) [] less = refl
uncut (suc n) (x ∷ xs) less = ap (λ l. x ∷ l) (uncut n xs (omega (arith, less)))

-- if the first keys after none are fewer than were asked for, they are all keys
pub all_of_few : (m : Records) (n : ℕ) → length (keys_after m None n) < n → keys_after m None n ≡ keys m
all_of_few m n less = uncut n (filter (comes_after None) (keys m)) less ∙ all_pass (keys m)

-- no more keys are given than were asked for
cut_length : (n : ℕ) (xs : List (List ℕ)) → length (take n xs) ≤ n
cut_length zero xs = omega arith
cut_length (suc n) [] = omega arith
cut_length (suc n) (x ∷ xs) = let l = cut_length n xs in omega (arith, l)

pub at_most_keys : (m : Records) (after : Option (List ℕ)) (n : ℕ) → length (keys_after m after n) ≤ n
at_most_keys m after n = cut_length n (filter (comes_after after) (keys m))

-- ---- one key among the least

-- a key at or above one that is below no other is below none either
below_none : (last k q : List ℕ) → is_le (order last k) ≡ true → is_lt (order last q) ≡ false → is_lt (order k q) ≡ false
below_none last k q at_or_above last_below_none = elim (order last k) as (λ o. order last k ≡ o → is_le o ≡ true → is_lt (order k q) ≡ false) [
  | Less ↦ λ e t. elim (order k q) as (λ r. order k q ≡ r → is_lt r ≡ false) [
    | Less ↦ λ f. sym (ap is_lt (nat_list_cmp_total.trans last k q e f)) ∙ last_below_none
    | Equal ↦ λ f. refl
    | Greater ↦ λ f. refl
  ] refl
  | Equal ↦ λ e t. ap (λ x. is_lt (order x q)) (sym (slice_cmp-IsAntisymmetric nat_cmp-IsAntisymmetric last k e)) ∙ last_below_none
  | Greater ↦ λ e t. absurd (subst T (sym t) tt)
] refl at_or_above

-- a key at or above the last of as many keys as may stay has no place among them
pub no_place : (n : ℕ) (ls : List (List ℕ)) (k last : List ℕ) → length ls ≡ n → is_le (order last k) ≡ true → All (λ q. is_lt (order last q) ≡ false) ls → take n (insert_key order ls k) ≡ ls
no_place zero [] k last e above_last all = refl
no_place (suc n) (x ∷ xs) k last e above_last all = elim (order k x) as (λ o. is_lt o ≡ false → take (suc n) (match_ordering o (k ∷ x ∷ xs) (x ∷ xs) (x ∷ insert_key order xs k)) ≡ x ∷ xs) [
  | Less ↦ λ b. absurd (subst T b tt)
  | Equal ↦ λ b. ap (λ l. x ∷ l) (take_all n xs (omega arith))
  | Greater ↦ λ b. ap (λ l. x ∷ l) (no_place n xs k last (omega arith) above_last (All-tail (λ q. is_lt (order last q) ≡ false) x xs all))
] (below_none last k x above_last (all 0 x (omega arith)))
no_place zero (x ∷ xs) k last e above_last all = absurd (omega arith)
no_place (suc n) [] k last e above_last all = absurd (omega arith)
