-- The indices of steps in the concatenated histories of all shards.
use Rattle.std.proofs.Common.{◌≡◌, ◌≢◌, ℕ, zero, suc, ◌+◌, ◌<◌, ◌≤◌, Bool, true, false, if◌then◌else◌, nat_eq, List, [], ◌∷◌, ◌++◌, length, map, Some, refl, sym, ap, subst, ◌∙◌, length-append, arith}
use Rattle.std.specs.Prelude.{slice_get}
use Rattle.std.specs.Global.{Vec}
use Rattle.std.specs.List.{flat_map, sum, AllByRecursion}
use Rattle.std.proofs.lemmas.Nat.{mod_below}
use Rattle.std.proofs.lemmas.Option.{slice_get_within}
use Rattle.lt_entry.specs.declared.entry.Entry.{Entry}
use Rattle.lt_words.specs.History.{shard_of}
use Rattle.lt_words.proofs.Prefixes.{prefix_get}
use Rattle.lt_walk.specs.Machine.{Step}
use Rattle.lt_walk.specs.Reported.{steps_at}
use Rattle.lt_runner.specs.Machine.{ExecutedLine}
use Rattle.lt_runner.specs.Ran.{all_entries}
use Rattle.lt_runner.specs.Standing.{Finals, final_of, Made, made_by, made_from, made_at, IsInFinalHistory, IsApart, Apart, NumbersDiffer, AreAll}
use Rattle.lt_runner.specs.Worked.{steps_of_executed}
use Rattle.lt_tool.specs.Laws.{IsLater, IndicesRise}

abbrev pub items_of : Vec Entry → List Entry
items_of v = v.items

abbrev pub finals_of : List (Vec Entry) → Finals
finals_of hs = map items_of hs

-- ---- lists

pub all_left : {A : Type 0} (P : A → Type 0) (xs ys : List A) → AllByRecursion P (xs ++ ys) → AllByRecursion P xs
all_left P [] ys h = tt
all_left P (x ∷ xs) ys h = (h.0, all_left P xs ys h.1)

pub all_right : {A : Type 0} (P : A → Type 0) (xs ys : List A) → AllByRecursion P (xs ++ ys) → AllByRecursion P ys
all_right P [] ys h = h
all_right P (x ∷ xs) ys h = all_right P xs ys h.1

further : (xs ys : List Entry) (n : ℕ) (e : Entry) → slice_get ys n ≡ Some e → slice_get (xs ++ ys) (length xs + n) ≡ Some e
further [] ys n e h = let same : n ≡ 0 + n = omega arith in subst (λ (k : ℕ). slice_get ys k ≡ Some e) same h
further (x ∷ xs) ys n e h =
    let same : suc (length xs + n) ≡ length (x ∷ xs) + n = omega arith in
    subst (λ (k : ℕ). slice_get (x ∷ (xs ++ ys)) k ≡ Some e) same (further xs ys n e h)

-- ---- indices

-- How many steps come before those of this shard.
abbrev pub before : List (Vec Entry) → ℕ → ℕ
before [] s = 0
before (v ∷ vs) zero = 0
before (v ∷ vs) (suc s) = length v.items + before vs s

abbrev pub index : ℕ → List (Vec Entry) → Step → ℕ
index shards hs x = before hs (shard_of x.key shards) + x.answer.at

abbrev pub made_index : ℕ → List (Vec Entry) → Made → ℕ
made_index shards hs m = index shards hs m.step

pub joined_at : (hs : List (Vec Entry)) (s n : ℕ) (e : Entry) → slice_get (final_of (finals_of hs) s) n ≡ Some e → slice_get (all_entries hs) (before hs s + n) ≡ Some e
joined_at [] s n e h = absurd cc
joined_at (v ∷ vs) zero n e h =
    let same : n ≡ 0 + n = omega arith in
    subst (λ (k : ℕ). slice_get (v.items ++ all_entries vs) k ≡ Some e) same (prefix_get v.items (v.items ++ all_entries vs) n e (all_entries vs, refl) h)
joined_at (v ∷ vs) (suc s) n e h =
    let same : length v.items + (before vs s + n) ≡ length v.items + before vs s + n = omega arith in
    subst (λ (k : ℕ). slice_get (v.items ++ all_entries vs) k ≡ Some e) same (further v.items (all_entries vs) (before vs s + n) e (joined_at vs s n e h))

apart_at : (hs : List (Vec Entry)) (s t m n : ℕ) → m < length (final_of (finals_of hs) s) → n < length (final_of (finals_of hs) t) → (s ≡ t → m ≢ n) → before hs s + m ≢ before hs t + n
apart_at [] s t m n lt lt' h = λ e. absurd (omega (arith, lt))
apart_at (v ∷ vs) zero zero m n lt lt' h = λ e. h refl (omega (arith, e))
apart_at (v ∷ vs) zero (suc t) m n lt lt' h = λ e. absurd (omega (arith, e, lt))
apart_at (v ∷ vs) (suc s) zero m n lt lt' h = λ e. absurd (omega (arith, e, lt'))
apart_at (v ∷ vs) (suc s) (suc t) m n lt lt' h = λ e. apart_at vs s t m n lt lt' (λ same. h (ap (λ k. suc k) same)) (omega (arith, e))

-- ---- the steps that were made

module _ (shards : ℕ) (hs : List (Vec Entry)) where
  pub step_there : (m : Made) → (f : IsInFinalHistory shards (finals_of hs) m) → slice_get (all_entries hs) (made_index shards hs m) ≡ Some f.entry
  step_there m f = joined_at hs (shard_of m.step.key shards) m.step.answer.at f.entry f.stands

  inside : (m : Made) → IsInFinalHistory shards (finals_of hs) m → m.step.answer.at < length (final_of (finals_of hs) (shard_of m.step.key shards))
  inside m f = slice_get_within (final_of (finals_of hs) (shard_of m.step.key shards)) m.step.answer.at f.entry f.stands

  pub all_within : (ms : List Made) → AllByRecursion (IsInFinalHistory shards (finals_of hs)) ms → AllByRecursion (λ n. n < length (all_entries hs)) (map (made_index shards hs) ms)
  all_within [] f = tt
  all_within (m ∷ ms) f = (slice_get_within (all_entries hs) (made_index shards hs m) f.0.entry (step_there m f.0), all_within ms f.1)

  differ : (m : Made) (ms : List Made) → IsInFinalHistory shards (finals_of hs) m → AllByRecursion (IsInFinalHistory shards (finals_of hs)) ms → AllByRecursion (IsApart shards m) ms → AllByRecursion (λ n. made_index shards hs m ≢ n) (map (made_index shards hs) ms)
  differ m [] f fs a = tt
  differ m (k ∷ ms) f fs a = (
    apart_at hs (shard_of m.step.key shards) (shard_of k.step.key shards) m.step.answer.at k.step.answer.at (inside m f) (inside k fs.0) (λ same. (a.0 same).0),
    differ m ms f fs.1 a.1,
  )

  pub all_differ : (ms : List Made) → AllByRecursion (IsInFinalHistory shards (finals_of hs)) ms → Apart shards ms → NumbersDiffer (map (made_index shards hs) ms)
  all_differ [] f a = tt
  all_differ (m ∷ ms) f a = (differ m ms f.0 f.1 a.0, all_differ ms f.1 a.1)

  later : (m k : Made) → m.pass ≡ k.pass → IsInFinalHistory shards (finals_of hs) m → IsInFinalHistory shards (finals_of hs) k → IsApart shards m k → IsLater (all_entries hs) (made_index shards hs m) (made_index shards hs k)
  later m k own f g a = λ d e at_m at_k same.
      let first : d ≡ f.entry = let both : Some d ≡ Some f.entry = sym at_m ∙ step_there m f in cc in
      let second : e ≡ g.entry = let both : Some e ≡ Some g.entry = sym at_k ∙ step_there k g in cc in
      let keys : m.step.key ≡ k.step.key = sym f.key_is ∙ (ap (λ (x : Entry). x.key) (sym first) ∙ (same ∙ (ap (λ (x : Entry). x.key) second ∙ g.key_is))) in
      let home : shard_of m.step.key shards ≡ shard_of k.step.key shards = ap (λ (l : List ℕ). shard_of l shards) keys in
      let lt : m.step.answer.at < k.step.answer.at = (a home).1 own in
      let begin : before hs (shard_of m.step.key shards) ≡ before hs (shard_of k.step.key shards) = ap (before hs) home in
      omega (arith, lt, begin)

  later_all : (n : ℕ) (x : Step) (xs : List Step) → IsInFinalHistory shards (finals_of hs) (made_by n x) → AllByRecursion (IsInFinalHistory shards (finals_of hs)) (map (made_by n) xs) → AllByRecursion (IsApart shards (made_by n x)) (map (made_by n) xs) → AllByRecursion (IsLater (all_entries hs) (index shards hs x)) (map (index shards hs) xs)
  later_all n x [] f fs a = tt
  later_all n x (y ∷ xs) f fs a = (later (made_by n x) (made_by n y) refl f fs.0 a.0, later_all n x xs f fs.1 a.1)

  pub all_rise : (n : ℕ) (xs : List Step) → AllByRecursion (IsInFinalHistory shards (finals_of hs)) (map (made_by n) xs) → Apart shards (map (made_by n) xs) → IndicesRise (all_entries hs) (map (index shards hs) xs)
  all_rise n [] f a = tt
  all_rise n (x ∷ xs) f a = (later_all n x xs f.0 f.1 a.0, all_rise n xs f.1 a.1)

  pub made_indices : (n : ℕ) (xs : List Step) → map (made_index shards hs) (map (made_by n) xs) ≡ map (index shards hs) xs
  made_indices n [] = refl
  made_indices n (x ∷ xs) = ap (λ (l : List ℕ). index shards hs x ∷ l) (made_indices n xs)

pub apart_left : (shards : ℕ) (ms ks : List Made) → Apart shards (ms ++ ks) → Apart shards ms
apart_left shards [] ks a = tt
apart_left shards (m ∷ ms) ks a = (all_left (IsApart shards m) ms ks a.0, apart_left shards ms ks a.1)

pub apart_right : (shards : ℕ) (ms ks : List Made) → Apart shards (ms ++ ks) → Apart shards ks
apart_right shards [] ks a = a
apart_right shards (m ∷ ms) ks a = apart_right shards ms ks a.1

-- ---- how many they are

abbrev up_to : (ℕ → ℕ) → ℕ → ℕ
up_to f zero = 0
up_to f (suc k) = up_to f k + f k

abbrev one_at : (ℕ → ℕ) → ℕ → ℕ → ℕ
one_at f h s = if nat_eq h s then f s + 1 else f s

below_test : (f : ℕ → ℕ) (h k n m : ℕ) → suc k ≤ h → (b : Bool) → nat_eq h k ≡ b → n ≡ m → n + (if b then f k + 1 else f k) ≡ m + f k
below_test f h k n m le true e rest = let same : h ≡ k = grind (arith, e) in absurd (omega (arith, same, le))
below_test f h k n m le false e rest = omega (arith, rest)

up_below : (f : ℕ → ℕ) (h k : ℕ) → k ≤ h → up_to (one_at f h) k ≡ up_to f k
up_below f h zero le = refl
up_below f h (suc k) le = below_test f h k (up_to (one_at f h) k) (up_to f k) le (nat_eq h k) refl (up_below f h k (omega arith))

above_test : (f : ℕ → ℕ) (h k : ℕ) → h < suc k → (b : Bool) → nat_eq h k ≡ b → (h < k → up_to (one_at f h) k ≡ up_to f k + 1) → up_to (one_at f h) k + (if b then f k + 1 else f k) ≡ up_to f k + f k + 1
above_test f h k lt true e rest = let same : h ≡ k = grind (arith, e) in omega (arith, up_below f h k (omega (arith, same)))
above_test f h k lt false e rest = let other : h ≢ k = grind (arith, e) in omega (arith, rest (omega (arith, lt, other)))

up_above : (f : ℕ → ℕ) (h k : ℕ) → h < k → up_to (one_at f h) k ≡ up_to f k + 1
up_above f h zero lt = absurd (omega arith)
up_above f h (suc k) lt = above_test f h k lt (nat_eq h k) refl (λ more. up_above f h k more)

up_none : (k : ℕ) → up_to (λ s. 0) k ≡ 0
up_none zero = refl
up_none (suc k) = omega (arith, up_none k)

up_both : (f g : ℕ → ℕ) (k : ℕ) → up_to (λ s. f s + g s) k ≡ up_to f k + up_to g k
up_both f g zero = refl
up_both f g (suc k) = omega (arith, up_both f g k)

steps_total : (shards : ℕ) (xs : List Step) → 0 < shards → up_to (λ s. steps_at shards s xs) shards ≡ length xs
steps_total shards [] some = up_none shards
steps_total shards (x ∷ xs) some =
    let low : shard_of x.key shards < shards = mod_below (sum x.key) shards some in
    let more : up_to (λ s. steps_at shards s (x ∷ xs)) shards ≡ up_to (λ s. steps_at shards s xs) shards + 1 = up_above (λ s. steps_at shards s xs) (shard_of x.key shards) shards low in
    omega (arith, more, steps_total shards xs some)

made_total : (shards n : ℕ) (dss : List (List ExecutedLine)) → 0 < shards → up_to (λ s. made_at shards s dss) shards ≡ length (made_from n dss)
made_total shards n [] some = up_none shards
made_total shards n (ds ∷ dss) some =
    let both : up_to (λ s. made_at shards s (ds ∷ dss)) shards ≡ up_to (λ s. steps_at shards s (flat_map steps_of_executed ds)) shards + up_to (λ s. made_at shards s dss) shards = up_both (λ s. steps_at shards s (flat_map steps_of_executed ds)) (λ s. made_at shards s dss) shards in
    omega (arith, both, steps_total shards (flat_map steps_of_executed ds) some, made_total shards (n + 1) dss some, length-append (map (made_by n) (flat_map steps_of_executed ds)) (made_from (n + 1) dss), many_made n (flat_map steps_of_executed ds))
  where
    many_made : (n : ℕ) (xs : List Step) → length (map (made_by n) xs) ≡ length xs
    many_made n [] = refl
    many_made n (x ∷ xs) = ap (λ k. suc k) (many_made n xs)

before_none : (hs : List (Vec Entry)) → before hs 0 ≡ 0
before_none [] = refl
before_none (v ∷ vs) = refl

before_more : (hs : List (Vec Entry)) (s : ℕ) → before hs (suc s) ≡ before hs s + length (final_of (finals_of hs) s)
before_more [] s = omega arith
before_more (v ∷ vs) zero = omega (arith, before_none vs)
before_more (v ∷ vs) (suc s) = omega (arith, before_more vs s)

before_all : (hs : List (Vec Entry)) → before hs (length hs) ≡ length (all_entries hs)
before_all [] = refl
before_all (v ∷ vs) = omega (arith, before_all vs, length-append v.items (all_entries vs))

before_is : (shards : ℕ) (hs : List (Vec Entry)) (dss : List (List ExecutedLine)) (k : ℕ) → k ≤ shards → AreAll shards (finals_of hs) dss → before hs k ≡ up_to (λ s. made_at shards s dss) k
before_is shards hs dss zero le all = before_none hs
before_is shards hs dss (suc k) le all = omega (arith, before_more hs k, all k (omega arith), before_is shards hs dss k (omega arith) all)

-- The histories have as many steps as were made.
pub many_steps : (shards n : ℕ) (hs : List (Vec Entry)) (dss : List (List ExecutedLine)) → 0 < shards → length hs ≡ shards → AreAll shards (finals_of hs) dss → length (made_from n dss) ≡ length (all_entries hs)
many_steps shards n hs dss some many all =
    let end : before hs (length hs) ≡ before hs shards = ap (before hs) many in
    omega (arith, end, before_all hs, before_is shards hs dss shards (omega arith) all, made_total shards n dss some)

none_made : (ms : List Made) → AllByRecursion (IsInFinalHistory 0 (finals_of [])) ms → length ms ≡ length (all_entries [])
none_made [] f = refl
none_made (m ∷ ms) f = let never = f.0.stands in absurd (cc never)

pub all_counted : (shards n : ℕ) (hs : List (Vec Entry)) (dss : List (List ExecutedLine)) → length hs ≡ shards → AllByRecursion (IsInFinalHistory shards (finals_of hs)) (made_from n dss) → AreAll shards (finals_of hs) dss → length (made_from n dss) ≡ length (all_entries hs)
all_counted zero n [] dss many f all = none_made (made_from n dss) f
all_counted zero n (v ∷ vs) dss many f all = absurd (omega (arith, many))
all_counted (suc k) n hs dss many f all = many_steps (suc k) n hs dss (omega arith) many all
