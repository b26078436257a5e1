-- The caller who was told of a step that stands in a final history, and when.
use Rattle.std.proofs.Common.{◌≡◌, ◌≢◌, ℕ, zero, suc, ◌+◌, ◌<◌, ◌≤◌, ◌⊎◌, ◌&&◌, Bool, true, false, if◌then◌else◌, nat_eq, inl, inr, ⊎_elim, Some, List, [], ◌∷◌, ◌++◌, map, length, slice_get, refl, sym, ◌∙◌, ap, subst, arith}
use Rattle.std.proofs.lemmas.Bool.Decides.{nat_tests}
use Rattle.std.specs.List.{AllByRecursion}
use mathlib.Core.List.{IsPrefix}
use Rattle.lt_rules.proofs.Cases.{all_weaker}
use Rattle.lt_words.specs.History.{part, shard_of}
use Rattle.lt_words.specs.Row.{Opening, PassState, fresh}
use Rattle.lt_words.proofs.Prefixes.{prefix_trans}
use Rattle.lt_words.proofs.Histories.{part_length}
use Rattle.lt_walk.specs.Machine.{Step}
use Rattle.lt_walk.specs.Reported.{shard_at}
use Rattle.lt_walk.specs.Laws.{at_index, at_index_of}
use Rattle.lt_walk.specs.Theorem.{Told, Heard, AreHeard, steps_told, ShardHistories, IsInFinal, AllTold, AllHeard}
use Rattle.lt_walk.specs.Theorem.Told.{Made, WasLet}

-- ---- what a caller hears

pub heard_grows : (p q : PassState) (told : List Told) → Heard p told q → IsPrefix p.seen q.seen × (q.of ≡ p.of) × (q.number ≡ p.number)
heard_grows p q [] h = (h.seen, h.of, h.number)
heard_grows p q (Made x ∷ told) h =
    let rest = heard_grows h.1 q told h.4 in
    (prefix_trans p.seen h.0.seen q.seen h.2.seen (prefix_trans h.0.seen h.1.seen q.seen h.3.reports.seen rest.0), rest.1 ∙ (h.3.reports.of ∙ h.2.of), rest.2 ∙ (h.3.reports.number ∙ h.2.number))
heard_grows p q (WasLet t ∷ told) h =
    let rest = heard_grows h.0 q told h.3 in
    (prefix_trans p.seen h.0.seen q.seen h.1.seen rest.0, rest.1 ∙ h.1.of, rest.2 ∙ h.1.number)

-- The step comes after all steps of its shard that the pass has seen.
abbrev pub IsLaterThan : PassState → Step → Type 0
IsLaterThan p x = length (part (shard_at p x) p.seen) ≤ x.answer.at

later_from : (p m : PassState) (x : Step) → m.of ≡ p.of → IsPrefix p.seen m.seen → IsLaterThan m x → IsLaterThan p x
later_from p m x of begins later =
    let same : shard_at m x ≡ shard_at p x = ap (λ (o : Opening). shard_of x.key o.shards) of in
    let low : length (part (shard_at p x) m.seen) ≤ x.answer.at = subst (λ s. length (part s m.seen) ≤ x.answer.at) same later in
    omega (arith, part_length (shard_at p x) p.seen m.seen begins, low)

-- What a caller hears from some moment on comes after all that his pass had seen then.
pub all_later : (p q : PassState) (told : List Told) → Heard p told q → AllByRecursion (IsLaterThan p) (steps_told told)
all_later p q [] h = tt
all_later p q (Made x ∷ told) h = (
  later_from p h.0 x h.2.of h.2.seen h.3.reports.later,
  all_weaker (IsLaterThan h.1) (IsLaterThan p) (λ y later. later_from p h.1 y (h.3.reports.of ∙ h.2.of) (prefix_trans p.seen h.0.seen h.1.seen h.2.seen h.3.reports.seen) later) (steps_told told) (all_later h.1 q told h.4),
)
all_later p q (WasLet t ∷ told) h = all_weaker (IsLaterThan h.0) (IsLaterThan p) (λ y later. later_from p h.0 y h.1.of h.1.seen later) (steps_told told) (all_later h.0 q told h.3)

-- ---- the caller who was told of a step

abbrev pub IsAmong : Step → List Step → Type 0
IsAmong x [] = ⊥
IsAmong x (y ∷ ys) = (y ≡ x) ⊎ IsAmong x ys

pub among_both : (x : Step) (xs ys : List Step) → IsAmong x (xs ++ ys) → IsAmong x xs ⊎ IsAmong x ys
among_both x [] ys among = inr among
among_both x (y ∷ xs) ys (inl same) = inl (inl same)
among_both x (y ∷ xs) ys (inr among) = ⊎_elim (λ a. inl (inr a)) (λ b. inr b) (among_both x xs ys among)

pub holds_among : (P : Step → Type 0) (x : Step) (xs : List Step) → AllByRecursion P xs → IsAmong x xs → P x
holds_among P x [] all among = absurd among
holds_among P x (y ∷ xs) all (inl same) = subst P same all.0
holds_among P x (y ∷ xs) all (inr among) = holds_among P x xs all.1 among

-- the step at this index of a shard, among those that a caller was told of
pub record IsStepAt (of : Opening) (finals : ShardHistories of) (number s at : ℕ) (told : List Told) : Type 0 where
  pub step : Step
  pub among : IsAmong step (steps_told told)
  pub shard : shard_of step.key of.shards ≡ s
  pub at_is : step.answer.at ≡ at
  pub stands : IsInFinal of finals number step

both_true : (a b : Bool) → (a && b) ≡ true → (a ≡ true) × (b ≡ true)
both_true true b is = (refl, is)
both_true false b is = absurd (let never : false ≡ true = is in cc)

step_here : (of : Opening) (finals : ShardHistories of) (number s at : ℕ) (x : Step) (told : List Told) (rest : ℕ) (b : Bool) → (nat_eq (shard_of x.key of.shards) s && nat_eq x.answer.at at) ≡ b → IsInFinal of finals number x →
    (0 < rest → IsStepAt of finals number s at told) → 0 < (if b then rest + 1 else rest) → IsStepAt of finals number s at (Made x ∷ told)
step_here of finals number s at x told rest true is stands later some =
    let both = both_true (nat_eq (shard_of x.key of.shards) s) (nat_eq x.answer.at at) is in
    let shard : nat_eq (shard_of x.key of.shards) s ≡ true = both.0 in
    let index : nat_eq x.answer.at at ≡ true = both.1 in
    record { step = x; among = inl refl; shard = grind (arith, nat_tests); at_is = grind (arith, nat_tests); stands = stands }
step_here of finals number s at x told rest false is stands later some =
    let found = later some in
    record { step = found.step; among = inr found.among; shard = found.shard; at_is = found.at_is; stands = found.stands }

step_told : (of : Opening) (finals : ShardHistories of) (number s at : ℕ) (p q : PassState) (told : List Told) (h : Heard p told q) → AllTold (λ before x. IsInFinal of finals number x) (λ t. Unit {0}) p told q h →
    0 < at_index of.shards s at (steps_told told) → IsStepAt of finals number s at told
step_told of finals number s at p q [] h stand some = absurd (omega (arith, some))
step_told of finals number s at p q (Made x ∷ told) h stand some =
    step_here of finals number s at x told (at_index of.shards s at (steps_told told)) (nat_eq (shard_of x.key of.shards) s && nat_eq x.answer.at at) refl stand.0 (λ more. step_told of finals number s at h.1 q told h.4 stand.1 more) some
step_told of finals number s at p q (WasLet t ∷ told) h stand some =
    let found = step_told of finals number s at h.0 q told h.3 stand.1 some in
    record { step = found.step; among = found.among; shard = found.shard; at_is = found.at_is; stands = found.stands }

-- the caller who was told of the step at this index of a shard
pub record IsCallerOf (of : Opening) (finals : ShardHistories of) (s at : ℕ) (all : List (List Told)) (ps : List PassState) : Type 0 where
  pub index : ℕ
  pub pass : PassState
  pub told : List Told
  pub is_pass : slice_get ps index ≡ Some pass
  pub is_told : slice_get all index ≡ Some told
  pub tells : IsStepAt of finals pass.number s at told

by_first : (P : Type 0) (n m : ℕ) → 0 < n + m → (0 < n → P) → (0 < m → P) → P
by_first P zero m some a b = b (omega (arith, some))
by_first P (suc n) m some a b = a (omega arith)

pub caller_of : (of : Opening) (finals : ShardHistories of) (s at : ℕ) (all : List (List Told)) (ps : List PassState) (h : AreHeard of all ps) → AllHeard (λ number before x. IsInFinal of finals number x) (λ number t. Unit {0}) of all ps h →
    0 < at_index_of of.shards s at (map steps_told all) → IsCallerOf of finals s at all ps
caller_of of finals s at [] [] h stand some = absurd (omega (arith, some))
caller_of of finals s at [] (p ∷ ps) h stand some = absurd h
caller_of of finals s at (told ∷ all) [] h stand some = absurd h
caller_of of finals s at (told ∷ all) (p ∷ ps) h stand some =
    by_first (IsCallerOf of finals s at (told ∷ all) (p ∷ ps)) (at_index of.shards s at (steps_told told)) (at_index_of of.shards s at (map steps_told all)) some
    (λ first. record { index = 0; pass = p; told = told; is_pass = refl; is_told = refl; tells = step_told of finals p.number s at (fresh of p.number) p told h.0 stand.0 first })
    (λ later.
    let found = caller_of of finals s at all ps h.2 stand.1 later in
    record { index = suc found.index; pass = found.pass; told = found.told; is_pass = found.is_pass; is_told = found.is_told; tells = found.tells })

-- ---- one caller for each pass

pub item_of : {A : Type 0} (P : A → Type 0) (xs : List A) (k : ℕ) (x : A) → AllByRecursion P xs → slice_get xs k ≡ Some x → P x
item_of P [] k x all is = absurd cc
item_of P (y ∷ xs) zero x all is = subst P (let same : Some y ≡ Some x = is in cc) all.0
item_of P (y ∷ xs) (suc k) x all is = item_of P xs k x all.1 is

pub one_index : (of : Opening) (all : List (List Told)) (ps : List PassState) (i j : ℕ) (p q : PassState) → AreHeard of all ps → slice_get ps i ≡ Some p → slice_get ps j ≡ Some q → p.number ≡ q.number → i ≡ j
one_index of [] [] i j p q h a b same = absurd cc
one_index of [] (r ∷ ps) i j p q h a b same = absurd h
one_index of (told ∷ all) [] i j p q h a b same = absurd cc
one_index of (told ∷ all) (r ∷ ps) zero zero p q h a b same = refl
one_index of (told ∷ all) (r ∷ ps) zero (suc j) p q h a b same =
    let first : r ≡ p = cc (a) in
    absurd (item_of (λ s. r.number ≢ s.number) ps j q h.1 b (ap (λ (s : PassState). s.number) first ∙ same))
one_index of (told ∷ all) (r ∷ ps) (suc i) zero p q h a b same =
    let first : r ≡ q = cc (b) in
    absurd (item_of (λ s. r.number ≢ s.number) ps i p h.1 a (ap (λ (s : PassState). s.number) first ∙ sym same))
one_index of (told ∷ all) (r ∷ ps) (suc i) (suc j) p q h a b same = ap suc (one_index of all ps i j p q h.2 a b same)

-- the pass of a caller is one of this table
pub of_table : (of : Opening) (all : List (List Told)) (ps : List PassState) (k : ℕ) (p : PassState) → AreHeard of all ps → slice_get ps k ≡ Some p → p.of ≡ of
of_table of [] [] k p h is = absurd cc
of_table of [] (r ∷ ps) k p h is = absurd h
of_table of (told ∷ all) [] k p h is = absurd h
of_table of (told ∷ all) (r ∷ ps) zero p h is = let first : r ≡ p = cc (is) in ap (λ (s : PassState). s.of) (sym first) ∙ (heard_grows (fresh of r.number) r told h.0).1
of_table of (told ∷ all) (r ∷ ps) (suc k) p h is = of_table of all ps k p h.2 is
