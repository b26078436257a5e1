-- What passes did since they were handed out, and that each index of a final history is the index of one of their
-- steps.
use Rattle.std.proofs.Common.{◌≡◌, ◌≢◌, ℕ, zero, suc, ◌+◌, ◌<◌, ◌≤◌, Bool, true, false, if◌then◌else◌, ◌&&◌, ◌||◌, nat_eq, List, [], ◌∷◌, ◌++◌, length, slice_get, get_or, replicate, Some, refl, sym, ◌∙◌, ap, subst, arith, length-append}
use Rattle.std.proofs.lemmas.List.{get_or-replicate}
use Rattle.std.proofs.lemmas.Map.Keys.{IsDistinct-cons}
use Rattle.std.proofs.lemmas.Map.Steps.{length-le_from_distinct_below}
use Rattle.std.proofs.lemmas.Bool.Decides.{nat_tests}
use Rattle.std.specs.Prelude.{slice_index}
use Rattle.std.specs.List.{AllByRecursion, IsDistinct, list_any}
use mathlib.Core.List.{IsPrefix}
use Rattle.lt_rules.proofs.Cases.{all_append, distinct_append}
use Rattle.lt_entry.specs.declared.entry.Entry.{Entry}
use Rattle.lt_words.specs.History.{part, shard_of, OneHolderAtEachKey, ReadsPassAtEachKey}
use Rattle.lt_words.specs.Row.{Opening, PassState, MakesNoStep, fresh}
use Rattle.lt_words.proofs.Prefixes.{prefix_trans, prefix_get}
use Rattle.lt_words.proofs.Histories.{part_prefix, part_length}
use Rattle.lt_walk.specs.Machine as runs
use Rattle.lt_words.specs.declared.event.Event.{Event}
use Rattle.lt_walk.specs.Closed.{counts_at, IsFinal}
use Rattle.lt_walk.specs.Reported.{shard_at, Reported, AreReported, steps_at}
use Rattle.lt_walk.specs.Laws.{Lived, AreLives, at_index, at_index_of, EachStepIsReportedOnce, OneHolderAtClose, ReadsPassAtClose, NoStepIsMade, LivesGoOn}
use Rattle.lt_words.proofs.Passes.{no_step, take_no_step, no_step_on}
use Rattle.lt_walk.proofs.InPlace.{one_counted, add_one_more, inside_length, prefix_same}

-- ---- how often a number is in a list

abbrev tally : ℕ → List ℕ → ℕ
tally n [] = 0
tally n (k ∷ ks) = if nat_eq k n then tally n ks + 1 else tally n ks

one_more : (b : Bool) (a c d : ℕ) → a ≡ c + d → (if b then a + 1 else a) ≡ (if b then c + 1 else c) + d
one_more true a c d e = omega (arith, e)
one_more false a c d e = e

tally_append : (n : ℕ) (ks ms : List ℕ) → tally n (ks ++ ms) ≡ tally n ks + tally n ms
tally_append n [] ms = omega arith
tally_append n (k ∷ ks) ms = one_more (nat_eq k n) (tally n (ks ++ ms)) (tally n ks) (tally n ms) (tally_append n ks ms)

-- a number that equals none of the others
no_tie : (n k t : ℕ) (P : Type 0) (b : Bool) → nat_eq k n ≡ b → (if b then t + 1 else t) ≡ 0 → (t ≡ 0 → P) → (nat_eq n k ≡ false) × P
no_tie n k t P true is none rest = absurd (omega (arith, none))
no_tie n k t P false is none rest = (grind (arith, nat_tests), rest none)

ties_none : (n : ℕ) (ks : List ℕ) → tally n ks ≡ 0 → AllByRecursion (λ m. nat_eq n m ≡ false) ks
ties_none n [] none = tt
ties_none n (k ∷ ks) none = no_tie n k (tally n ks) (AllByRecursion (λ m. nat_eq n m ≡ false) ks) (nat_eq k n) refl none (λ e. ties_none n ks e)

not_here : (n k t : ℕ) (b : Bool) → nat_eq k n ≡ b → nat_eq n k ≡ false → t ≡ 0 → (if b then t + 1 else t) ≡ 0
not_here n k t true is other none = let ties : nat_eq n k ≡ true = grind (arith, nat_tests) in absurd (let never : true ≡ false = sym ties ∙ other in cc)
not_here n k t false is other none = none

none_tied : (n : ℕ) (ks : List ℕ) → AllByRecursion (λ m. nat_eq n m ≡ false) ks → tally n ks ≡ 0
none_tied n [] all = refl
none_tied n (k ∷ ks) all = not_here n k (tally n ks) (nat_eq k n) refl all.0 (none_tied n ks all.1)

once_here : (n k t : ℕ) (b : Bool) → nat_eq k n ≡ b → (k ≡ n → t ≡ 0) → t ≤ 1 → (if b then t + 1 else t) ≤ 1
once_here n k t true is none few = let same : k ≡ n = grind (arith, nat_tests) in omega (arith, none same)
once_here n k t false is none few = few

at_most_once : (n : ℕ) (ks : List ℕ) → IsDistinct nat_eq ks → tally n ks ≤ 1
unfolding IsDistinct
at_most_once n [] d = omega arith
at_most_once n (k ∷ ks) d = once_here n k (tally n ks) (nat_eq k n) refl (λ same. none_tied n ks (subst (λ m. AllByRecursion (λ y. nat_eq m y ≡ false) ks) same d.0)) (at_most_once n ks d.1)

below_here : (limit q k : ℕ) (b c : Bool) → nat_eq q k ≡ b → (b || c) ≡ true → k < limit → (c ≡ true → q < limit) → q < limit
below_here limit q k true c is e lt rest = let same : q ≡ k = grind (arith, nat_tests) in omega (arith, same, lt)
below_here limit q k false c is e lt rest = rest e

below_each : (limit : ℕ) (ks : List ℕ) → AllByRecursion (λ k. k < limit) ks → (q : ℕ) → list_any (nat_eq q) ks ≡ true → q < limit
below_each limit [] all q e = absurd (let never : false ≡ true = e in cc)
below_each limit (k ∷ ks) all q e = below_here limit q k (nat_eq q k) (list_any (nat_eq q) ks) refl e all.0 (λ f. below_each limit ks all.1 q f)

-- n different numbers below n are all numbers below n, each once
exactly_once : (n : ℕ) (ks : List ℕ) → IsDistinct nat_eq ks → AllByRecursion (λ k. k < length ks) ks → n < length ks → tally n ks ≡ 1
exactly_once n ks d below lt = by_tally (tally n ks) refl
  where
    by_tally : (t : ℕ) → tally n ks ≡ t → tally n ks ≡ 1
    by_tally zero is =
        let more : IsDistinct nat_eq (n ∷ ks) = IsDistinct-cons nat_eq n ks (ties_none n ks is) d in
        let long : length (n ∷ ks) ≤ length ks = length-le_from_distinct_below (n ∷ ks) (length ks) more (below_each (length ks) (n ∷ ks) (lt, below)) in
        absurd (omega (arith, long))
    by_tally (suc t) is = omega (arith, is, at_most_once n ks d)

-- ---- the indices of steps at a shard

abbrev indices : ℕ → ℕ → List runs.Step → List ℕ
indices shards s [] = []
indices shards s (x ∷ xs) = if nat_eq (shard_of x.key shards) s then x.answer.at ∷ indices shards s xs else indices shards s xs

abbrev all_indices : ℕ → ℕ → List (List runs.Step) → List ℕ
all_indices shards s [] = []
all_indices shards s (xs ∷ lives) = indices shards s xs ++ all_indices shards s lives

same_more : (b : Bool) (a c : ℕ) → a ≡ c → (if b then a + 1 else a) ≡ (if b then c + 1 else c)
same_more true a c e = ap (λ t. t + 1) e
same_more false a c e = e

at_here : (n k a : ℕ) (ks : List ℕ) (b : Bool) → a ≡ tally n ks → (if b && nat_eq k n then a + 1 else a) ≡ tally n (if b then k ∷ ks else ks)
at_here n k a ks true e = same_more (nat_eq k n) a (tally n ks) e
at_here n k a ks false e = e

at_indices : (shards s n : ℕ) (xs : List runs.Step) → at_index shards s n xs ≡ tally n (indices shards s xs)
at_indices shards s n [] = refl
at_indices shards s n (x ∷ xs) = at_here n x.answer.at (at_index shards s n xs) (indices shards s xs) (nat_eq (shard_of x.key shards) s) (at_indices shards s n xs)

at_all_indices : (shards s n : ℕ) (lives : List (List runs.Step)) → at_index_of shards s n lives ≡ tally n (all_indices shards s lives)
at_all_indices shards s n [] = refl
at_all_indices shards s n (xs ∷ lives) = omega (arith, at_indices shards s n xs, at_all_indices shards s n lives, tally_append n (indices shards s xs) (all_indices shards s lives))

one_longer : (b : Bool) (k a : ℕ) (ks : List ℕ) → length ks ≡ a → length (if b then k ∷ ks else ks) ≡ (if b then a + 1 else a)
one_longer true k a ks e = omega (arith, e)
one_longer false k a ks e = e

many_indices : (shards s : ℕ) (xs : List runs.Step) → length (indices shards s xs) ≡ steps_at shards s xs
many_indices shards s [] = refl
many_indices shards s (x ∷ xs) = one_longer (nat_eq (shard_of x.key shards) s) x.answer.at (steps_at shards s xs) (indices shards s xs) (many_indices shards s xs)

-- a fact of one more index, if the step is at the shard
one_index : (P : ℕ → Type 0) (shards s : ℕ) (x : runs.Step) (ks : List ℕ) → (nat_eq (shard_of x.key shards) s ≡ true → P x.answer.at) → AllByRecursion P ks → AllByRecursion P (if nat_eq (shard_of x.key shards) s then x.answer.at ∷ ks else ks)
one_index P shards s x ks here all = one (nat_eq (shard_of x.key shards) s) refl
  where
    one : (b : Bool) → nat_eq (shard_of x.key shards) s ≡ b → AllByRecursion P (if b then x.answer.at ∷ ks else ks)
    one true is = (here is, all)
    one false is = all

-- ---- one pass

-- the entry at this index is of this pass
abbrev Owned : ℕ → List Entry → ℕ → Type 0
Owned number es k = (e : Entry) × (slice_get es k ≡ Some e) × (e.pass ≡ number)

life_grows : (p q : PassState) (xs : List runs.Step) → Lived p xs q → IsPrefix p.seen q.seen × (q.of ≡ p.of) × (q.number ≡ p.number)
life_grows p q [] l = (l.seen, l.of, l.number)
life_grows p q (x ∷ xs) l =
    let rest = life_grows l.1 q xs l.4 in
    (prefix_trans p.seen l.0.seen q.seen l.2.seen (prefix_trans l.0.seen l.1.seen q.seen l.3.reports.seen rest.0), rest.1 ∙ (l.3.reports.of ∙ l.2.of), rest.2 ∙ (l.3.reports.number ∙ l.2.number))

life_counted : (p q : PassState) (xs : List runs.Step) (s : ℕ) → Lived p xs q → slice_index q.counts s ≡ slice_index p.counts s + steps_at p.of.shards s xs
life_counted p q [] s l = let same : slice_index q.counts s ≡ slice_index p.counts s = ap (λ c. slice_index c s) l.counts in omega (arith, same)
life_counted p q (x ∷ xs) s l =
    let m : PassState = l.0 in
    let n : PassState = l.1 in
    let of : n.of.shards ≡ p.of.shards = ap (λ (o : Opening). o.shards) (l.3.reports.of ∙ l.2.of) in
    let of_m : m.of.shards ≡ p.of.shards = ap (λ (o : Opening). o.shards) l.2.of in
    let before : slice_index m.counts s ≡ slice_index p.counts s = ap (λ c. slice_index c s) l.2.counts in
    let rest : slice_index q.counts s ≡ slice_index n.counts s + steps_at p.of.shards s xs = subst (λ k. slice_index q.counts s ≡ slice_index n.counts s + steps_at k s xs) of (life_counted n q xs s l.4) in
    let step : slice_index n.counts s ≡ slice_index m.counts s + (if nat_eq (shard_of x.key p.of.shards) s then 1 else 0) = subst (λ k. slice_index n.counts s ≡ slice_index m.counts s + (if nat_eq (shard_of x.key k) s then 1 else 0)) of_m (one_counted m n x s (nat_eq (shard_at m x) s) refl l.3) in
    add_one_more (nat_eq (shard_of x.key p.of.shards) s) (slice_index p.counts s) (slice_index n.counts s) (slice_index q.counts s) (steps_at p.of.shards s xs) (step ∙ ap (λ k. k + (if nat_eq (shard_of x.key p.of.shards) s then 1 else 0)) before) rest

later_indices : (low low' : ℕ) (ks : List ℕ) → low ≤ low' → AllByRecursion (λ k. low' ≤ k) ks → AllByRecursion (λ k. low ≤ k) ks
later_indices low low' [] le all = tt
later_indices low low' (k ∷ ks) le all = (omega (arith, le, all.0), later_indices low low' ks le all.1)

ties_no_later : (n low : ℕ) (ks : List ℕ) → n < low → AllByRecursion (λ k. low ≤ k) ks → AllByRecursion (λ m. nat_eq n m ≡ false) ks
ties_no_later n low [] lt all = tt
ties_no_later n low (k ∷ ks) lt all = (let more : n < k = omega (arith, lt, all.0) in grind (arith, nat_tests), ties_no_later n low ks lt all.1)

-- a pass's step at a shard is at that shard in each later state of the pass
at_shard : (shards s : ℕ) (p m n : PassState) (x : runs.Step) → p.of.shards ≡ shards → MakesNoStep p m → Reported m n x → nat_eq (shard_of x.key shards) s ≡ true → shard_at m x ≡ s
at_shard shards s p m n x of more r is =
    let here : shard_of x.key shards ≡ s = grind (arith, nat_tests) in
    ap (λ k. shard_of x.key k) (ap (λ (o : Opening). o.shards) more.of ∙ of) ∙ here

-- one more step of a pass, before steps for which this is known
rises_here : (shards s : ℕ) (p m n : PassState) (x : runs.Step) (ks : List ℕ) (b : Bool) → p.of.shards ≡ shards → MakesNoStep p m → Reported m n x → nat_eq (shard_of x.key shards) s ≡ b →
    IsDistinct nat_eq ks × AllByRecursion (λ k. length (part s n.seen) ≤ k) ks →
    IsDistinct nat_eq (if b then x.answer.at ∷ ks else ks) × AllByRecursion (λ k. length (part s p.seen) ≤ k) (if b then x.answer.at ∷ ks else ks)
rises_here shards s p m n x ks true of more r is rest =
    let here : shard_at m x ≡ s = at_shard shards s p m n x of more r is in
    let low : length (part s m.seen) ≤ x.answer.at = subst (λ k. length (part k m.seen) ≤ x.answer.at) here r.reports.later in
    let high : x.answer.at < length (part s n.seen) = subst (λ k. x.answer.at < length (part k n.seen)) here (inside_length (part (shard_at m x) n.seen) x.answer.at r.entry r.reports.stands) in
    let seen_m : length (part s p.seen) ≤ length (part s m.seen) = part_length s p.seen m.seen more.seen in
    let seen_n : length (part s m.seen) ≤ length (part s n.seen) = part_length s m.seen n.seen r.reports.seen in (
      IsDistinct-cons nat_eq x.answer.at ks (ties_no_later x.answer.at (length (part s n.seen)) ks high rest.1) rest.0,
      (omega (arith, seen_m, low), later_indices (length (part s p.seen)) (length (part s n.seen)) ks (omega (arith, seen_m, seen_n)) rest.1),
    )
rises_here shards s p m n x ks false of more r is rest =
    let seen_m : length (part s p.seen) ≤ length (part s m.seen) = part_length s p.seen m.seen more.seen in
    let seen_n : length (part s m.seen) ≤ length (part s n.seen) = part_length s m.seen n.seen r.reports.seen in
    (rest.0, later_indices (length (part s p.seen)) (length (part s n.seen)) ks (omega (arith, seen_m, seen_n)) rest.1)

life_rises : (shards s : ℕ) (p q : PassState) (xs : List runs.Step) → p.of.shards ≡ shards → Lived p xs q → IsDistinct nat_eq (indices shards s xs) × AllByRecursion (λ k. length (part s p.seen) ≤ k) (indices shards s xs)
unfolding IsDistinct
life_rises shards s p q [] of l = (tt, tt)
life_rises shards s p q (x ∷ xs) of l =
    rises_here shards s p l.0 l.1 x (indices shards s xs) (nat_eq (shard_of x.key shards) s) of l.2 l.3 refl
    (life_rises shards s l.1 q xs (ap (λ (o : Opening). o.shards) (l.3.reports.of ∙ l.2.of) ∙ of) l.4)

life_owned : (shards s number : ℕ) (es : List Entry) (p q : PassState) (xs : List runs.Step) → p.of.shards ≡ shards → p.number ≡ number → Lived p xs q → IsPrefix (part s q.seen) es → AllByRecursion (Owned number es) (indices shards s xs)
life_owned shards s number es p q [] of is_number l begins = tt
life_owned shards s number es p q (x ∷ xs) of is_number l begins =
    let m : PassState = l.0 in
    let n : PassState = l.1 in
    let rest = life_owned shards s number es n q xs (ap (λ (o : Opening). o.shards) (l.3.reports.of ∙ l.2.of) ∙ of) (l.3.reports.number ∙ (l.2.number ∙ is_number)) l.4 begins in
    one_index (Owned number es) shards s x (indices shards s xs)
    (λ is.
    let here : shard_at m x ≡ s = at_shard shards s p m n x of l.2 l.3 is in
    let stands : slice_get (part s n.seen) x.answer.at ≡ Some l.3.entry = subst (λ k. slice_get (part k n.seen) x.answer.at ≡ Some l.3.entry) here l.3.reports.stands in
    (l.3.entry, prefix_get (part s n.seen) es x.answer.at l.3.entry (prefix_trans (part s n.seen) (part s q.seen) es (part_prefix s n.seen q.seen (life_grows n q xs l.4).0) begins) stands, l.3.reports.own ∙ (l.2.number ∙ is_number)))
    rest

-- ---- all passes

-- the entry at this index is of another pass
abbrev OfOthers : ℕ → List Entry → ℕ → Type 0
OfOthers number es k = (e : Entry) × (slice_get es k ≡ Some e) × (e.pass ≢ number)

never_tied : (number : ℕ) (es : List Entry) (k n : ℕ) (b : Bool) → nat_eq k n ≡ b → Owned number es k → OfOthers number es n → b ≡ false
never_tied number es k n false is own other = refl
never_tied number es k n true is own other =
    let same : k ≡ n = grind (arith, nat_tests) in
    let entries : Some own.0 ≡ Some other.0 = sym own.1 ∙ (ap (λ j. slice_get es j) same ∙ other.1) in
    let entry : own.0 ≡ other.0 = cc (entries) in
    absurd (other.2 (ap (λ (e : Entry). e.pass) (sym entry) ∙ own.2))

ties_no_other : (number : ℕ) (es : List Entry) (k : ℕ) (ns : List ℕ) → Owned number es k → AllByRecursion (OfOthers number es) ns → AllByRecursion (λ m. nat_eq k m ≡ false) ns
ties_no_other number es k [] own all = tt
ties_no_other number es k (n ∷ ns) own all = (never_tied number es k n (nat_eq k n) refl own all.0, ties_no_other number es k ns own all.1)

others_own : (number : ℕ) (es : List Entry) (ks ms : List ℕ) → AllByRecursion (Owned number es) ks → AllByRecursion (OfOthers number es) ms → AllByRecursion (λ k. AllByRecursion (λ m. nat_eq k m ≡ false) ms) ks
others_own number es [] ms own others = tt
others_own number es (k ∷ ks) ms own others = (ties_no_other number es k ms own.0 others, others_own number es ks ms own.1 others)

owned_by_others : (number other : ℕ) (es : List Entry) (ks : List ℕ) → number ≢ other → AllByRecursion (Owned other es) ks → AllByRecursion (OfOthers number es) ks
owned_by_others number other es [] differ all = tt
owned_by_others number other es (k ∷ ks) differ all = ((all.0.0, all.0.1, λ is. differ (sym is ∙ all.0.2)), owned_by_others number other es ks differ all.1)

lives_owned : (of : Opening) (s number : ℕ) (es : List Entry) (lives : List (List runs.Step)) (ps : List PassState) → AreLives of lives ps → AllByRecursion (λ q. number ≢ q.number) ps → AllByRecursion (λ q. IsPrefix (part s q.seen) es) ps → AllByRecursion (OfOthers number es) (all_indices of.shards s lives)
lives_owned of s number es [] [] l differ begins = tt
lives_owned of s number es [] (p ∷ ps) l differ begins = absurd l
lives_owned of s number es (xs ∷ lives) [] l differ begins = absurd l
lives_owned of s number es (xs ∷ lives) (p ∷ ps) l differ begins =
    all_append (OfOthers number es) (indices of.shards s xs) (all_indices of.shards s lives)
    (owned_by_others number p.number es (indices of.shards s xs) differ.0 (life_owned of.shards s p.number es (fresh of p.number) p xs refl refl l.0 begins.0))
    (lives_owned of s number es lives ps l.2 differ.1 begins.1)

lives_differ : (of : Opening) (s : ℕ) (es : List Entry) (lives : List (List runs.Step)) (ps : List PassState) → AreLives of lives ps → AllByRecursion (λ q. IsPrefix (part s q.seen) es) ps → IsDistinct nat_eq (all_indices of.shards s lives)
unfolding IsDistinct
lives_differ of s es [] [] l begins = tt
lives_differ of s es [] (p ∷ ps) l begins = absurd l
lives_differ of s es (xs ∷ lives) [] l begins = absurd l
lives_differ of s es (xs ∷ lives) (p ∷ ps) l begins =
    distinct_append nat_eq (indices of.shards s xs) (all_indices of.shards s lives) (life_rises of.shards s (fresh of p.number) p xs refl l.0).0 (lives_differ of s es lives ps l.2 begins.1)
    (others_own p.number es (indices of.shards s xs) (all_indices of.shards s lives) (life_owned of.shards s p.number es (fresh of p.number) p xs refl refl l.0 begins.0) (lives_owned of s p.number es lives ps l.2 l.1 begins.1))

owned_below : (number : ℕ) (es : List Entry) (ks : List ℕ) → AllByRecursion (Owned number es) ks → AllByRecursion (λ k. k < length es) ks
owned_below number es [] all = tt
owned_below number es (k ∷ ks) all = (inside_length es k all.0.0 all.0.1, owned_below number es ks all.1)

lives_below : (of : Opening) (s : ℕ) (es : List Entry) (lives : List (List runs.Step)) (ps : List PassState) → AreLives of lives ps → AllByRecursion (λ q. IsPrefix (part s q.seen) es) ps → AllByRecursion (λ k. k < length es) (all_indices of.shards s lives)
lives_below of s es [] [] l begins = tt
lives_below of s es [] (p ∷ ps) l begins = absurd l
lives_below of s es (xs ∷ lives) [] l begins = absurd l
lives_below of s es (xs ∷ lives) (p ∷ ps) l begins =
    all_append (λ k. k < length es) (indices of.shards s xs) (all_indices of.shards s lives)
    (owned_below p.number es (indices of.shards s xs) (life_owned of.shards s p.number es (fresh of p.number) p xs refl refl l.0 begins.0))
    (lives_below of s es lives ps l.2 begins.1)

lives_counted : (of : Opening) (s : ℕ) (lives : List (List runs.Step)) (ps : List PassState) → AreLives of lives ps → s < of.shards → length (all_indices of.shards s lives) ≡ counts_at s ps
lives_counted of s [] [] l lt = refl
lives_counted of s [] (p ∷ ps) l lt = absurd l
lives_counted of s (xs ∷ lives) [] l lt = absurd l
lives_counted of s (xs ∷ lives) (p ∷ ps) l lt =
    let none : slice_index (replicate of.shards 0) s ≡ 0 = get_or-replicate of.shards s 0 0 lt in
    let lived : slice_index p.counts s ≡ slice_index (replicate of.shards 0) s + steps_at of.shards s xs = life_counted (fresh of p.number) p xs s l.0 in
    omega (arith, none, lived, length-append (indices of.shards s xs) (all_indices of.shards s lives), many_indices of.shards s xs, lives_counted of s lives ps l.2 lt)

-- At most one step of the passes is at an index of a history that extends what each of them has seen.
pub once_so_far : (of : Opening) (ps : List PassState) (s : ℕ) (es : List Entry) (lives : List (List runs.Step)) (n : ℕ) → AreLives of lives ps → AllByRecursion (λ q. IsPrefix (part s q.seen) es) ps → at_index_of of.shards s n lives ≤ 1
once_so_far of ps s es lives n l begins =
    subst (λ t. t ≤ 1) (sym (at_all_indices of.shards s n lives)) (at_most_once n (all_indices of.shards s lives) (lives_differ of s es lives ps l begins))

-- Exactly one step of the passes is at an index of a final history.
pub once_in_final : (of : Opening) (ps : List PassState) (whole : List Event) (s : ℕ) (es : List Entry) (lives : List (List runs.Step)) (n : ℕ) → IsFinal of ps whole s es → AreLives of lives ps → s < of.shards → n < length es → at_index_of of.shards s n lives ≡ 1
once_in_final of ps whole s es lives n final l here lt =
    let many : length (all_indices of.shards s lives) ≡ length es = lives_counted of s lives ps l here ∙ sym final.counted in
    let below : AllByRecursion (λ k. k < length (all_indices of.shards s lives)) (all_indices of.shards s lives) = subst (λ j. AllByRecursion (λ k. k < j) (all_indices of.shards s lives)) (sym many) (lives_below of s es lives ps l final.seen) in
    let inside : n < length (all_indices of.shards s lives) = subst (λ j. n < j) (sym many) lt in
    at_all_indices of.shards s n lives ∙ exactly_once n (all_indices of.shards s lives) (lives_differ of s es lives ps l final.seen) below inside

pub each_step_is_reported_once : EachStepIsReportedOnce
each_step_is_reported_once of ps shards draws lives s n d closed l here lt =
    once_in_final of ps closed.whole s (get_or shards s d).items lives n (closed.each s d here) l here lt

pub one_holder_at_close : OneHolderAtEachKey → OneHolderAtClose
one_holder_at_close law of ps shards draws s d key past rest T U closed here is t u = law (get_or shards s d).items key past rest T U (closed.each s d here).legal is t u

pub reads_pass_at_close : ReadsPassAtEachKey → ReadsPassAtClose
reads_pass_at_close law of ps shards draws s d key past rest e ticket txn ts longest closed here is call = law (get_or shards s d).items key past rest e ticket txn ts longest (closed.each s d here).legal is call

-- ---- a call extends what a pass did

life_sees : (p q r : PassState) (xs : List runs.Step) → Lived p xs q → MakesNoStep q r → Lived p xs r
life_sees p q r [] l more = no_step_on p q r l more
life_sees p q r (x ∷ xs) l more = (l.0, l.1, l.2, l.3, life_sees l.1 q r xs l.4 more)

pub sees_same : (p : PassState) → MakesNoStep p p
sees_same p = record { of = refl; number = refl; counts = refl; seen = prefix_same p.seen p.seen refl; shown = prefix_same p.shown p.shown refl; takes = prefix_same p.takes p.takes refl }

reported_lived : (p q : PassState) (xs : List runs.Step) → AreReported p xs q → Lived p xs q
reported_lived p q [] r = subst (λ s. MakesNoStep p s) (sym r) (sees_same p)
reported_lived p q (x ∷ xs) r = (p, r.0, sees_same p, r.1, reported_lived r.0 q xs r.2)

pub sees_then : (p q r : PassState) (xs : List runs.Step) → MakesNoStep p q → Lived q xs r → Lived p xs r
sees_then p q r [] more l = no_step_on p q r more l
sees_then p q r (x ∷ xs) more l = (l.0, l.1, no_step_on p q l.0 more l.2, l.3, l.4)

life_then : (p q r : PassState) (xs ys : List runs.Step) → Lived p xs q → Lived q ys r → Lived p (xs ++ ys) r
life_then p q r [] ys l m = sees_then p q r ys l m
life_then p q r (x ∷ xs) ys l m = (l.0, l.1, l.2, l.3, life_then l.1 q r xs ys l.4 m)

pub lives_go_on : LivesGoOn
lives_go_on p q r xs ys l = (λ more. life_sees p q r xs l more, λ reported. life_then p q r xs ys l (reported_lived q r ys reported))

pub no_step_is_made : NoStepIsMade
no_step_is_made p q = (no_step p q, λ shard from many t. take_no_step p q shard from many t)
