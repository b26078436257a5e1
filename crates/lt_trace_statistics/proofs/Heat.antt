-- The order of keys by their steps, and why a ranking is in that order.
use Rattle.std.proofs.Common.{◌≡◌, ◌<◌, ◌⊎◌, Bool, true, false, cond, nat_eq, nat_lt, List, [], ◌∷◌, inl, inr, refl, sym, ap, ◌∙◌, arith}
use Rattle.std.specs.Prelude.{IsPermutation}
use Rattle.std.specs.List.{AllByRecursion}
use Rattle.std.specs.declared.cmp.Ordering.{Ordering}
use Rattle.std.specs.declared.cmp.Ordering.TheVariants.{Less, Equal, Greater}
use Rattle.std.specs.Ordering.{nat_cmp, is_lt}
use Rattle.std.specs.Cmp.Lexicographic.{slice_cmp}
use Rattle.std.proofs.lemmas.Bool.{false≢true}
use Rattle.std.proofs.lemmas.Bool.Decides.{nat_tests}
use Rattle.std.proofs.lemmas.Cmp.{nat_list_cmp_total, tied_itself}
use Rattle.std.proofs.lemmas.List.Sorted.{IsPermutation-refl, IsPermutation-cons, IsPermutation-trans, IsPermutation-middle}
use Rattle.lt_trace_statistics.specs.declared.summary.HotKey.{HotKey}
use Rattle.lt_trace_statistics.specs.Findings.{is_hotter, ranked_with, ranking}
use Rattle.lt_trace_statistics.specs.Laws.{IsHottestFirst, RankingIsHottestFirst}

less : (o : Ordering) → is_lt o ≡ true → o ≡ Less
less Less e = refl
less Equal e = absurd (false≢true e)
less Greater e = absurd (false≢true e)

-- what it means that one key is hotter than another
abbrev Hotter : HotKey → HotKey → Type 0
Hotter a b = (b.steps < a.steps) ⊎ ((a.steps ≡ b.steps) × (slice_cmp nat_cmp a.key b.key ≡ Less))

hotter_means : (a b : HotKey) → is_hotter a b ≡ true → Hotter a b
hotter_means a b = by (nat_eq a.steps b.steps) refl
  where
    by : (t : Bool) → nat_eq a.steps b.steps ≡ t → cond t (is_lt (slice_cmp nat_cmp a.key b.key)) (nat_lt b.steps a.steps) ≡ true → Hotter a b
    by true e h = inr (grind (arith, nat_tests), less (slice_cmp nat_cmp a.key b.key) h)
    by false e h = inl (grind (arith, nat_tests))

is_hotter_from : (a b : HotKey) → Hotter a b → is_hotter a b ≡ true
is_hotter_from a b h = by (nat_eq a.steps b.steps) refl h
  where
    by : (t : Bool) → nat_eq a.steps b.steps ≡ t → Hotter a b → cond t (is_lt (slice_cmp nat_cmp a.key b.key)) (nat_lt b.steps a.steps) ≡ true
    by true e (inl lt) = absurd (grind (arith, nat_tests))
    by true e (inr same) = ap is_lt same.1
    by false e (inl lt) = grind (arith, nat_tests)
    by false e (inr same) = absurd (grind (arith, nat_tests))

hotter_trans : (a b c : HotKey) → Hotter a b → Hotter b c → Hotter a c
hotter_trans a b c (inl p) (inl q) = inl (omega arith)
hotter_trans a b c (inl p) (inr q) = inl (omega arith)
hotter_trans a b c (inr p) (inl q) = inl (omega arith)
hotter_trans a b c (inr p) (inr q) = inr (omega arith, nat_list_cmp_total.trans a.key b.key c.key p.1 q.1)

not_hotter_itself : (a : HotKey) → Hotter a a → ⊥
not_hotter_itself a (inl p) = omega arith
not_hotter_itself a (inr p) = let tied = tied_itself nat_list_cmp_total a.key in cc

-- what is not hotter than a key is not hotter than a hotter one
stays_behind : (hot other y : HotKey) → is_hotter hot other ≡ true → is_hotter y other ≡ false → is_hotter y hot ≡ false
stays_behind hot other y above e = by (is_hotter y hot) refl
  where
    by : (t : Bool) → is_hotter y hot ≡ t → t ≡ false
    by true h = absurd (false≢true (sym e ∙ is_hotter_from y other (hotter_trans y hot other (hotter_means y hot h) (hotter_means hot other above))))
    by false h = refl

not_back : (hot other : HotKey) → is_hotter hot other ≡ true → is_hotter other hot ≡ false
not_back hot other above = by (is_hotter other hot) refl
  where
    by : (t : Bool) → is_hotter other hot ≡ t → t ≡ false
    by true h = absurd (not_hotter_itself hot (hotter_trans hot other hot (hotter_means hot other above) (hotter_means other hot h)))
    by false h = refl

all_behind : (hot other : HotKey) (others : List HotKey) → is_hotter hot other ≡ true → AllByRecursion (λ y. is_hotter y other ≡ false) others → AllByRecursion (λ y. is_hotter y hot ≡ false) others
all_behind hot other [] above all = tt
all_behind hot other (y ∷ others) above all = (stays_behind hot other y above all.0, all_behind hot other others above all.1)

all_ranked : (first hot : HotKey) (others : List HotKey) → is_hotter hot first ≡ false → AllByRecursion (λ y. is_hotter y first ≡ false) others → AllByRecursion (λ y. is_hotter y first ≡ false) (ranked_with hot others)
all_ranked first hot [] here all = (here, tt)
all_ranked first hot (other ∷ others) here all =
    elim (is_hotter hot other) as (λ b. AllByRecursion (λ y. is_hotter y first ≡ false) (cond b (hot ∷ other ∷ others) (other ∷ ranked_with hot others))) [
      | true ↦ (here, all)
      | false ↦ (all.0, all_ranked first hot others here all.1)
    ]

ranked_stays_in_order : (hot : HotKey) (others : List HotKey) → IsHottestFirst others → IsHottestFirst (ranked_with hot others)
ranked_stays_in_order hot [] ordered = (tt, tt)
ranked_stays_in_order hot (other ∷ others) ordered = by (is_hotter hot other) refl (ranked_stays_in_order hot others ordered.1)
  where
    by : (b : Bool) → is_hotter hot other ≡ b → IsHottestFirst (ranked_with hot others) → IsHottestFirst (cond b (hot ∷ other ∷ others) (other ∷ ranked_with hot others))
    by true e rest = ((not_back hot other e, all_behind hot other others e ordered.0), ordered)
    by false e rest = (all_ranked other hot others e ordered.0, rest)

ranked_has_the_same : (hot : HotKey) (others : List HotKey) → IsPermutation (ranked_with hot others) (hot ∷ others)
ranked_has_the_same hot [] = IsPermutation-refl (hot ∷ [])
ranked_has_the_same hot (other ∷ others) =
    elim (is_hotter hot other) as (λ b. IsPermutation (cond b (hot ∷ other ∷ others) (other ∷ ranked_with hot others)) (hot ∷ other ∷ others)) [
      | true ↦ IsPermutation-refl (hot ∷ other ∷ others)
      | false ↦ IsPermutation-trans (other ∷ ranked_with hot others) (other ∷ hot ∷ others) (hot ∷ other ∷ others) (IsPermutation-cons other (ranked_with hot others) (hot ∷ others) (ranked_has_the_same hot others)) (IsPermutation-middle (other ∷ []) hot others)
    ]

pub ranking_is_hottest_first : RankingIsHottestFirst
ranking_is_hottest_first [] = (IsPermutation-refl [], tt)
ranking_is_hottest_first (hot ∷ others) =
    let rest = ranking_is_hottest_first others in (
      IsPermutation-trans (ranked_with hot (ranking others)) (hot ∷ ranking others) (hot ∷ others) (ranked_has_the_same hot (ranking others)) (IsPermutation-cons hot (ranking others) others rest.0),
      ranked_stays_in_order hot (ranking others) rest.1,
    )
