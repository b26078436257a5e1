-- Committed transactions of different names can be put in the order of their lock points.
use Rattle.std.proofs.Common.{◌≡◌, ◌≢◌, ℕ, inl, inr, Some, List, [], ◌∷◌, sym, ap, subst, ◌∙◌}
use Rattle.std.specs.Prelude.{slice_get, IsPermutation}
use Rattle.std.specs.List.{AllByRecursion}
use Rattle.std.proofs.lemmas.List.Elements.{All-from_recursion, recursion_from_All}
use Rattle.std.proofs.lemmas.List.Sorted.{All-permutation, IsPermutation-refl, IsPermutation-cons, IsPermutation-trans, IsPermutation-middle}
use mathlib.Core.List.{IsPrefix}
use Rattle.lt_rules.specs.declared.call.Call.TheVariants.{Acquire}
use Rattle.lt_entry.specs.declared.entry.Entry.{Entry}
use Rattle.lt_words.specs.declared.event.Event.{Event}
use Rattle.lt_words.specs.History.{part, shard_of}
use Rattle.lt_words.specs.Laws.{PartsBegin, StepsStay}
use Rattle.lt_tenure.specs.Tenure.{Tenure, TakesAt, IsHeldAt, IsTwoPhase}
use Rattle.lt_tenure.specs.Committed.{Committed, AreCommittedIn, AreOrderedBy, AreApart, PointsRise, IsSerial}
use Rattle.lt_tenure.proofs.Lists.{all_map, all_both, prefix_of_prefix, prefixes_are_an_order}
use Rattle.lt_tenure.proofs.Committed.{IsStanding, all_stand, serial}

-- ---- no step takes a lock for two names

one_taker : (es : List Entry) (key key' : List ℕ) (T U i j : ℕ) → i ≡ j → TakesAt es key T i → TakesAt es key' U j → T ≡ U
one_taker es key key' T U i j same a b =
    let there : slice_get es j ≡ Some a.0 = subst (λ k. slice_get es k ≡ Some a.0) same a.2 in
    let entry : a.0 ≡ b.0 = cc (there, b.2) in
    let calls : Acquire T a.1 ≡ Acquire U b.1 = sym a.4 ∙ (ap (λ x. x.call) entry ∙ b.4) in
    cc calls

took_apart : (shards : ℕ) (h : List Event) (a b : Committed) (t u : Tenure) → a.txn ≢ b.txn → IsHeldAt shards h a.point a.txn t → IsHeldAt shards h b.point b.txn u → t.key ≡ u.key → t.taken ≢ u.taken
took_apart shards h a b t u differ x y same = λ is.
    let here : TakesAt (part (shard_of t.key shards) h) u.key b.txn u.taken = subst (λ k. TakesAt (part (shard_of k shards) h) u.key b.txn u.taken) (sym same) y.tenure.took in
    differ (one_taker (part (shard_of t.key shards) h) t.key u.key a.txn b.txn t.taken u.taken is x.tenure.took here)

names_apart : (shards : ℕ) (h : List Event) (a b : Committed) → IsStanding shards h a → IsStanding shards h b → a.txn ≢ b.txn → AreApart a b
names_apart shards h a b x y differ =
    all_map (IsHeldAt shards h a.point a.txn) (λ t. AllByRecursion (λ u. t.key ≡ u.key → t.taken ≢ u.taken) b.tenures) a.tenures
    (λ t held. all_map (IsHeldAt shards h b.point b.txn) (λ u. t.key ≡ u.key → t.taken ≢ u.taken) b.tenures
    (λ u held'. took_apart shards h a b t u differ held held') y) x

all_apart : (shards : ℕ) (h : List Event) (all : List Committed) → AllByRecursion (IsStanding shards h) all → AreOrderedBy (λ a b. a.txn ≢ b.txn) all → AreOrderedBy AreApart all
all_apart shards h [] stand names = tt
all_apart shards h (a ∷ all) stand names = (
  all_both (IsStanding shards h) (λ b. a.txn ≢ b.txn) (AreApart a) all (λ b y differ. names_apart shards h a b stand.0 y differ) stand.1 names.0,
  all_apart shards h all stand.1 names.1,
)

-- ---- the order

all_again : (P : Committed → Type 0) (xs ys : List Committed) → IsPermutation xs ys → AllByRecursion P xs → AllByRecursion P ys
all_again P xs ys same all = recursion_from_All P ys (All-permutation P xs ys same (All-from_recursion P xs all))

-- another name, and no earlier lock point
abbrev Comes : Committed → Committed → Type 0
Comes a b = (a.txn ≢ b.txn) × IsPrefix a.point b.point

abbrev Ordered : List Committed → Type 0
Ordered all = (order : List Committed) × IsPermutation all order × AreOrderedBy Comes order

inserted : (h : List Event) (a : Committed) (all : List Committed) → IsPrefix a.point h → AllByRecursion (λ b. IsPrefix b.point h) all → AllByRecursion (λ b. a.txn ≢ b.txn) all → AreOrderedBy Comes all → Ordered (a ∷ all)
inserted h a [] p points names rise = (a ∷ [], IsPermutation-refl (a ∷ []), (tt, tt))
inserted h a (b ∷ all) p points names rise = elim (prefixes_are_an_order h a.point b.point p points.0) [
  | inl l ↦ (
    a ∷ b ∷ all,
    IsPermutation-refl (a ∷ b ∷ all),
    (((names.0, l), all_both (λ c. a.txn ≢ c.txn) (Comes b) (Comes a) all (λ c differ after. (differ, prefix_of_prefix a.point b.point c.point l after.1)) names.1 rise.0), rise),
  )
  | inr r ↦
      let rest = inserted h a all p points.1 names.1 rise.1 in (
        b ∷ rest.0,
        IsPermutation-trans (a ∷ b ∷ all) (b ∷ a ∷ all) (b ∷ rest.0) (IsPermutation-middle (a ∷ []) b all) (IsPermutation-cons b (a ∷ all) rest.0 rest.1),
        (all_again (Comes b) (a ∷ all) rest.0 rest.1 (((λ is. names.0 (sym is)), r), rise.0), rest.2),
      )
]

ordered : (h : List Event) (all : List Committed) → AllByRecursion (λ b. IsPrefix b.point h) all → AreOrderedBy (λ a b. a.txn ≢ b.txn) all → Ordered all
ordered h [] points names = ([], IsPermutation-refl [], tt)
ordered h (a ∷ all) points names =
    let rest = ordered h all points.1 names.1 in
    let more = inserted h a rest.0 points.0 (all_again (λ b. IsPrefix b.point h) all rest.0 rest.1 points.1) (all_again (λ b. a.txn ≢ b.txn) all rest.0 rest.1 names.0) rest.2 in
    (more.0, IsPermutation-trans (a ∷ all) (a ∷ rest.0) more.0 (IsPermutation-cons a all rest.0 rest.1) more.1, more.2)

ordered_map : (R S : Committed → Committed → Type 0) (all : List Committed) → ((a b : Committed) → R a b → S a b) → AreOrderedBy R all → AreOrderedBy S all
ordered_map R S [] f each = tt
ordered_map R S (a ∷ all) f each = (all_map (R a) (S a) all (λ b. f a b) each.0, ordered_map R S all f each.1)

pub committed_are_serializable : PartsBegin → StepsStay → (shards : ℕ) (h : List Event) (all : List Committed) → AreCommittedIn shards h all → AreOrderedBy (λ a b. a.txn ≢ b.txn) all →
    (order : List Committed) × IsPermutation all order × PointsRise order × IsSerial order
committed_are_serializable begin stay shards h all committed names =
    let stand = all_stand begin stay shards h all committed in
    let points : AllByRecursion (λ c. IsPrefix c.point h) all = all_both (λ c. IsPrefix c.seen h) (λ c. IsTwoPhase shards c.seen c.point c.txn c.tenures) (λ c. IsPrefix c.point h) all
    (λ c seen two. prefix_of_prefix c.point c.seen h two.within seen) committed.seen committed.each in
    let sorted = ordered h all points names in
    let there = all_again (IsStanding shards h) all sorted.0 sorted.1 stand in
    let rise : PointsRise sorted.0 = ordered_map Comes (λ a b. IsPrefix a.point b.point) sorted.0 (λ a b c. c.1) sorted.2 in
    let differ : AreOrderedBy (λ a b. a.txn ≢ b.txn) sorted.0 = ordered_map Comes (λ a b. a.txn ≢ b.txn) sorted.0 (λ a b c. c.0) sorted.2 in
    (sorted.0, sorted.1, rise, serial begin shards h sorted.0 there (all_apart shards h sorted.0 there differ) rise)
