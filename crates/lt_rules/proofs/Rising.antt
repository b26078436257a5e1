-- The keys of a map that is built from entries.
use Rattle.std.specs.Prelude.{◌≡◌, ℕ, Bool, true, false, ◌&&◌, List, [], ◌∷◌, map}
use Rattle.std.proofs.Common.{refl, sym, ap, subst, ◌∙◌, T}
use Rattle.std.specs.declared.cmp.Ordering.{Ordering}
use Rattle.std.specs.declared.cmp.Ordering.TheVariants.{Less, Equal, Greater}
use Rattle.std.specs.Ordering.{nat_cmp, is_lt}
use Rattle.std.specs.Cmp.Lexicographic.{slice_cmp, nat_list_cmp_total}
use Rattle.std.specs.List.{AllByRecursion}
use Rattle.std.specs.List.Sorted.{IsStrictlySortedBy}
use Rattle.std.specs.FinMap.{FinMap, keys, entries, entries_sorted, from_entries, is_sorted, entries-from_sorted, get-from_entries, get-from_sorted, same_map, slice_cmp-IsAntisymmetric, nat_cmp-IsAntisymmetric}
use Rattle.std.specs.FinMap.Entries.{below_all}

-- the order of keys, by their bytes
abbrev order : List ℕ → List ℕ → Ordering
order = slice_cmp nat_cmp

is_less : (o : Ordering) → T (is_lt o) → o ≡ Less
is_less Less p = refl
is_less Equal p = absurd p
is_less Greater p = absurd p

first : (a b : Bool) → T (a && b) → T a
first true b p = tt
first false b p = p

second : (a b : Bool) → T (a && b) → T b
second true b p = p
second false b p = absurd p

module _ {X : Type 0} where
  is_below_all : (key : List ℕ) (es : List (List ℕ × X)) → AllByRecursion (λ k. order key k ≡ Less) (map (λ e. e.0) es) → T (below_all order key es)
  is_below_all key [] below = tt
  is_below_all key (e ∷ es) below = subst (λ o. T (is_lt o && below_all order key es)) (sym below.0) (is_below_all key es below.1)

  is_rising : (es : List (List ℕ × X)) → IsStrictlySortedBy order (map (λ e. e.0) es) → T (is_sorted order es)
  unfolding IsStrictlySortedBy
  is_rising [] rising = tt
  is_rising (e ∷ es) rising = both _ _ (is_below_all e.0 es rising.0) (is_rising es rising.1)
    where
      both : (a b : Bool) → T a → T b → T (a && b)
      both true b p q = q
      both false b p q = p

  -- a map that is built from entries with rising keys has exactly these keys
  pub keys-from_entries : (es : List (List ℕ × X)) → IsStrictlySortedBy order (map (λ e. e.0) es) → keys (from_entries {R = order} es) ≡ map (λ e. e.0) es
  keys-from_entries es rising =
      ap keys (same_map nat_list_cmp_total (slice_cmp-IsAntisymmetric nat_cmp-IsAntisymmetric) _ _ (λ q. get-from_entries nat_list_cmp_total es q ∙ sym (get-from_sorted order es q (is_rising es rising))))
      ∙ ap (map (λ e. e.0)) (entries-from_sorted order es (is_rising es rising))

  all_above : (key : List ℕ) (es : List (List ℕ × X)) → T (below_all order key es) → AllByRecursion (λ k. order key k ≡ Less) (map (λ e. e.0) es)
  all_above key [] below = tt
  all_above key (e ∷ es) below = (is_less (order key e.0) (first _ _ below), all_above key es (second _ _ below))

  rising_of_sorted : (es : List (List ℕ × X)) → T (is_sorted order es) → IsStrictlySortedBy order (map (λ e. e.0) es)
  unfolding IsStrictlySortedBy
  rising_of_sorted [] sorted = tt
  rising_of_sorted (e ∷ es) sorted = (all_above e.0 es (first _ _ sorted), rising_of_sorted es (second _ _ sorted))

  -- the keys of a map rise
  pub rising_keys : (m : FinMap order X) → IsStrictlySortedBy order (keys m)
  rising_keys m = rising_of_sorted (entries m) (entries_sorted m)
