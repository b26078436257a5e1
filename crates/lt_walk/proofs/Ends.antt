-- A table that is being closed.
use Rattle.std.proofs.Common.{◌≡◌, ◌≢◌, ℕ, zero, suc, true, false, nat_eq, Option, Some, None, IfNone, ◌+◌, ◌<◌, ◌≤◌, List, [], ◌∷◌, ◌++◌, length, map, take, drop, get_or, ap, refl, sym, subst, ◌∙◌, arith, add-one, length-append}
use Rattle.std.proofs.Math.Seq.{get_or-append_seam}
use Rattle.std.proofs.lemmas.Bool.Decides.{nat_tests}
use Rattle.std.proofs.lemmas.List.{get_or-map, length-map}
use Rattle.std.proofs.Math.ListN.{get_or-append}
use Rattle.std.specs.Prelude.{slice_index}
use Rattle.std.specs.Global.{Vec}
use Rattle.std.specs.List.{AllByRecursion}
use native.Mathlib.Decide.{ℕ_discrete}
use mathlib.Core.Logic.{dite}
use mathlib.Core.List.{IsPrefix}
use Rattle.lt_entry.specs.declared.entry.Entry.{Entry}
use Rattle.lt_entry.specs.Legal.{AreLegalKeys}
use Rattle.lt_entry.specs.Ranges.{IsInRange}
use Rattle.lt_words.specs.declared.event.Event.{Event}
use Rattle.lt_words.specs.History.{part, draws_of, shard_of, IsLegalHistory}
use Rattle.lt_ids.specs.declared.ticket.Through.{Through}
use Rattle.lt_words.specs.Shown.{AreShown, AreLet}
use Rattle.lt_words.specs.Row.{Opening, PassState, SeesMore}
use Rattle.lt_words.proofs.Prefixes.{prefix_trans}
use Rattle.lt_words.proofs.Histories.{part_prefix}
use Rattle.lt_shard.specs.declared.holding.Rest.{Rest}
use Rattle.lt_shard.specs.Shards.{View, IsShard, OnlySeesMore, new_shard}
use Rattle.lt_shard.proofs.Storing.{shown_on}
use Rattle.lt_walk.proofs.InPlace.{prefix_same}
use Rattle.lt_walk.specs.Configs.{AreNewShards}
use Rattle.lt_walk.specs.declared.config.Config.{Config}
use Rattle.lt_walk.specs.declared.closing.Wanted.{Wanted}
use Rattle.lt_walk.specs.declared.closing.PassCount.{PassCount}
use Rattle.lt_walk.specs.declared.closing.PassCount.TheVariants.{Made}
use Rattle.lt_walk.specs.declared.closing.CloseError.{CloseError}
use Rattle.lt_walk.specs.declared.closing.CloseError.TheVariants.{PassesOut, Memory, Counts}
use Rattle.lt_walk.specs.Closed.{tally, tallied_at, counts_at, IsCounted, IsMiscount, IsUnclosed, IsMet, IsEnded, AreEnded, IsFinal, IsClosed, IsRest, IsClosedRest, AreWhole}

-- ---- how many steps passes count at a shard

tallied_append : (t : PassCount) (s : ℕ) (ps qs : List PassState) → tallied_at t s (ps ++ qs) ≡ tallied_at t s ps + tallied_at t s qs
tallied_append t s [] qs = omega arith
tallied_append t s (p ∷ ps) qs = omega (arith, tallied_append t s ps qs)

pub counts_append : (s : ℕ) (ps qs : List PassState) → counts_at s (ps ++ qs) ≡ counts_at s ps + counts_at s qs
counts_append s ps qs = tallied_append Made s ps qs

-- one more of the items that each have a pass
tallied_more : {A : Type 0} (f : A → PassState) (t : PassCount) (s : ℕ) (xs : List A) (i : ℕ) (x : A) → i < length xs → x ≡ get_or xs i x → tallied_at t s (map f (take (suc i) xs)) ≡ tallied_at t s (map f (take i xs)) + slice_index (tally t (f x)) s
tallied_more f t s [] i x lt is = absurd (omega arith)
tallied_more f t s (y ∷ ys) zero x lt is = let same : slice_index (tally t (f x)) s ≡ slice_index (tally t (f y)) s = ap (λ z. slice_index (tally t (f z)) s) is in omega (arith, same)
tallied_more f t s (y ∷ ys) (suc i) x lt is = omega (arith, tallied_more f t s ys i x (omega arith) is)

pub less_one : {A : Type 0} (f : A → PassState) (t : PassCount) (s : ℕ) (xs : List A) (i : ℕ) (x : A) (left left' steps : ℕ) → left + tallied_at t s (map f (take i xs)) ≡ steps → i < length xs → x ≡ get_or xs i x → left' + slice_index (tally t (f x)) s ≡ left → left' + tallied_at t s (map f (take (i + 1) xs)) ≡ steps
less_one f t s xs i x left left' steps so_far lt is less = rw add-one (omega (arith, so_far, less, tallied_more f t s xs i x lt is))

-- a fact that holds anyway holds if there is none
pub on_none : {A : Type 0} (o : Option A) (P : Type 0) → P → IfNone o P
on_none None P p = p
on_none (Some x) P p = tt

tallied_front : {A : Type 0} (f : A → PassState) (t : PassCount) (s : ℕ) (xs : List A) (i : ℕ) → tallied_at t s (map f (take i xs)) ≤ tallied_at t s (map f xs)
tallied_front f t s [] zero = omega arith
tallied_front f t s [] (suc i) = omega arith
tallied_front f t s (y ∷ ys) zero = omega arith
tallied_front f t s (y ∷ ys) (suc i) = omega (arith, tallied_front f t s ys i)

-- fewer steps are left than one item counts, so all items together count more than there were
pub more_tallied : {A : Type 0} (f : A → PassState) (t : PassCount) (s : ℕ) (xs : List A) (i : ℕ) (x : A) (left steps : ℕ) → left + tallied_at t s (map f (take i xs)) ≡ steps → i < length xs → x ≡ get_or xs i x → left < slice_index (tally t (f x)) s → steps < tallied_at t s (map f xs)
more_tallied f t s xs i x left steps so_far lt is more = omega (arith, so_far, more, tallied_more f t s xs i x lt is, tallied_front f t s xs (suc i))

pub more_tallied_alone : (t : PassCount) (s : ℕ) (ps : List PassState) (i : ℕ) (p : PassState) (left steps : ℕ) → left + tallied_at t s (map (λ q. q) (take i ps)) ≡ steps → i < length ps → p ≡ get_or ps i p → left < slice_index (tally t p) s → steps < tallied_at t s ps
more_tallied_alone t s ps i p left steps so_far lt is more = omega (arith, same ps, more_tallied (λ q. q) t s ps i p left steps so_far lt is more)
  where
    same : (qs : List PassState) → tallied_at t s (map (λ q. q) qs) ≡ tallied_at t s qs
    same [] = refl
    same (q ∷ qs) = ap (λ n. slice_index (tally t q) s + n) (same qs)

-- what is left when the steps of the passes, and then those of the guards' passes, are subtracted
pub all_tallied : (t : PassCount) (s : ℕ) (ps qs : List PassState) (left rest steps : ℕ) → left + tallied_at t s ps ≡ steps → rest + tallied_at t s qs ≡ left → rest ≡ 0 → steps ≡ tallied_at t s (ps ++ qs)
all_tallied t s ps qs left rest steps first second none = omega (arith, first, second, none, tallied_append t s ps qs)

pub more_than_steps : (t : PassCount) (s : ℕ) (ps qs : List PassState) (steps : ℕ) → steps < tallied_at t s ps → steps ≢ tallied_at t s (ps ++ qs)
more_than_steps t s ps qs steps less is = absurd (omega (arith, less, is, tallied_append t s ps qs))

pub more_than_left : (t : PassCount) (s : ℕ) (ps qs : List PassState) (left steps : ℕ) → left + tallied_at t s ps ≡ steps → left < tallied_at t s qs → steps ≢ tallied_at t s (ps ++ qs)
more_than_left t s ps qs left steps first less is = absurd (omega (arith, first, less, is, tallied_append t s ps qs))

pub some_left : (t : PassCount) (s : ℕ) (ps qs : List PassState) (left rest steps : ℕ) → left + tallied_at t s ps ≡ steps → rest + tallied_at t s qs ≡ left → nat_eq rest 0 ≡ false → steps ≢ tallied_at t s (ps ++ qs)
some_left t s ps qs left rest steps first second some is =
    let more : 0 < rest = grind (arith, nat_tests) in
    absurd (omega (arith, first, second, more, is, tallied_append t s ps qs))

-- ---- what was seen

-- what follows from a fact about what each pass had seen
pub each_seen : {P Q : List Event → Type 0} (ps : List PassState) → ((h : List Event) → P h → Q h) → AllByRecursion (λ p. P p.seen) ps → AllByRecursion (λ p. Q p.seen) ps
each_seen [] f a = tt
each_seen (p ∷ ps) f a = (f p.seen a.0, each_seen ps f a.1)

-- what one more pass had seen was learned
pub learnt : {A : Type 0} (f : PassState → List A) (ps : List PassState) (i : ℕ) (p : PassState) (h h' : List A) → AllByRecursion (λ q. IsPrefix (f q) h) (take i ps) → i < length ps → p ≡ get_or ps i p → IsPrefix h h' → IsPrefix (f p) h' → AllByRecursion (λ q. IsPrefix (f q) h') (take (suc i) ps)
learnt f [] i p h h' a lt is more that = absurd (omega arith)
learnt f (q ∷ qs) zero p h h' a lt is more that = (subst (λ (s : PassState). IsPrefix (f s) h') is that, tt)
learnt f (q ∷ qs) (suc i) p h h' a lt is more that = (prefix_trans (f q) h h' a.0 more, learnt f qs i p h h' a.1 (omega arith) is more that)

pub all_and_last : {A : Type 0} (f : PassState → List A) (ps : List PassState) (p : PassState) (h : List A) → AllByRecursion (λ q. IsPrefix (f q) h) ps → IsPrefix (f p) h → AllByRecursion (λ q. IsPrefix (f q) h) (ps ++ p ∷ [])
all_and_last f [] p h a last = (last, tt)
all_and_last f (q ∷ qs) p h a last = (a.0, all_and_last f qs p h a.1 last)

-- ---- shards that were met

pub was_met : (of : Opening) (v w : View) (old new : PassState) (t : Rest) → IsShard of w → OnlySeesMore v w → t.from ≡ w.before → t.entries.items ≡ w.held → part v.index new.seen ≡ v.stored → IsPrefix v.told new.shown → IsPrefix old.seen new.seen → IsEnded of old new v.index v t
was_met of v w old new t kept same from entries met told more = record {
  met = record {
    legal = subst AreLegalKeys same.stored kept.legal;
    home = subst (λ i. AllByRecursion (λ e. i ≡ shard_of e.key of.shards) v.stored) same.index (subst (AllByRecursion (λ e. w.index ≡ shard_of e.key of.shards)) same.stored kept.home);
    in_range = subst (AllByRecursion IsInRange) same.stored kept.in_range;
    within = subst (IsPrefix (part v.index old.seen)) met (part_prefix v.index old.seen new.seen more);
    behind = prefix_same v.stored (part v.index new.seen) met;
    shown = shown_on v.stored v.told new.shown told (subst (λ ts. AllByRecursion (λ e. AreShown ts e.lets) v.stored) same.told (subst (AllByRecursion (λ e. AreShown w.told e.lets)) same.stored kept.shown));
  };
  from = from ∙ same.before;
  entries = entries ∙ same.held;
  within = subst (λ n. n ≤ length v.stored) same.before (subst (λ es. w.before ≤ length es) same.stored kept.before);
  held = sym same.held ∙ (kept.held ∙ (ap (λ n. drop n w.stored) same.before ∙ ap (drop v.before) same.stored));
  whole = λ e. sym same.before ∙ kept.whole e;
  unrecorded = λ e. sym same.held ∙ kept.unrecorded e;
  limit = omega (arith, ap length entries, kept.room, same.max_steps);
}

met_later : (of : Opening) (old mid new : PassState) (s : ℕ) (es : List Entry) → IsMet of old mid s es → IsPrefix mid.seen new.seen → IsPrefix mid.shown new.shown → IsMet of old new s es
met_later of old mid new s es m more later = record { legal = m.legal; home = m.home; in_range = m.in_range; within = m.within; behind = prefix_trans es (part s mid.seen) (part s new.seen) m.behind (part_prefix s mid.seen new.seen more); shown = shown_on es mid.shown new.shown later m.shown }

met_before : (of : Opening) (old mid new : PassState) (s : ℕ) (es : List Entry) → IsMet of mid new s es → IsPrefix old.seen mid.seen → IsMet of old new s es
met_before of old mid new s es m more = record { legal = m.legal; home = m.home; in_range = m.in_range; within = prefix_trans (part s old.seen) (part s mid.seen) es (part_prefix s old.seen mid.seen more) m.within; behind = m.behind; shown = m.shown }

-- a fact of the item at each index of a list with one more item
pub at_each : {A : Type 0} (P : ℕ → A → Type 0) (xs : List A) (x : A) (n : ℕ) → n ≡ length xs → ((s : ℕ) (d : A) → s < n → P s (get_or xs s d)) → P n x → (s : ℕ) (d : A) → s < n + 1 → P s (get_or (xs ++ x ∷ []) s d)
at_each P xs x n many each last s d lt =
    dite (ℕ_discrete s n)
    (λ same. subst (λ k. P k (get_or (xs ++ x ∷ []) k d)) (sym same) (subst (λ k. P n (get_or (xs ++ x ∷ []) k d)) (sym many) (subst (P n) (sym (get_or-append_seam xs x [] d)) last)))
    (λ other. let inside : s < n = omega (arith, lt, other) in subst (P s) (sym (get_or-append xs (x ∷ []) d s (omega (arith, inside, many)))) (each s d inside))

-- one more shard that has made no step
pub new_more : (of : Opening) (max_steps : ℕ) (vs : List View) (v : View) → AreNewShards of max_steps vs → v ≡ new_shard of (length vs) max_steps → AreNewShards of max_steps (vs ++ v ∷ [])
new_more of max_steps vs v each last = λ s d lt. at_each (λ k x. x ≡ new_shard of k max_steps) vs v (length vs) refl each last s d (omega (arith, lt, length-append vs (v ∷ [])))

ended_at : (of : Opening) (old new old' new' : PassState) (s : ℕ) (v v' : View) (t : Rest) → v ≡ v' → (IsMet of old new s v.stored → IsMet of old' new' s v.stored) → IsEnded of old new s v t → IsEnded of old' new' s v' t
ended_at of old new old' new' s v v' t same f m = subst (λ x. IsEnded of old' new' s x t) same (record { met = f m.met; from = m.from; entries = m.entries; within = m.within; held = m.held; whole = m.whole; unrecorded = m.unrecorded; limit = m.limit })

pub met_more : (of : Opening) (old mid new : PassState) (vs : List View) (ts : List Rest) (v : View) (t : Rest) → AreEnded of old mid vs ts → IsPrefix old.seen mid.seen → IsPrefix mid.seen new.seen → IsPrefix mid.shown new.shown → IsEnded of mid new (length vs) v t
    → AreEnded of old new (vs ++ v ∷ []) (ts ++ t ∷ [])
met_more of old mid new vs ts v t m before later shown last =
    let longer : length (vs ++ v ∷ []) ≡ length vs + 1 = length-append vs (v ∷ []) in
    record {
      many = omega (arith, length-append ts (t ∷ []), longer, m.many);
      each = λ s w d lt. at_each (λ k x. IsEnded of old new k (get_or (vs ++ v ∷ []) k w) x) ts t (length vs) (sym m.many)
          (λ k e inside. ended_at of old mid old new k (get_or vs k w) (get_or (vs ++ v ∷ []) k w) (get_or ts k e) (sym (get_or-append vs (v ∷ []) w k inside))
          (λ a. met_later of old mid new k (get_or vs k w).stored a later shown) (m.each k w e inside))
          (ended_at of mid new old new (length vs) v (get_or (vs ++ v ∷ []) (length vs) w) t (sym (get_or-append_seam vs v [] w)) (λ a. met_before of old mid new (length vs) v.stored a before) last)
          s d (omega (arith, lt, longer));
    }

-- ---- the end

each_shown_on : (ps : List PassState) (h h' : List Through) → IsPrefix h h' → AllByRecursion (λ p. IsPrefix p.shown h) ps → AllByRecursion (λ p. IsPrefix p.shown h') ps
each_shown_on [] h h' more all = tt
each_shown_on (p ∷ ps) h h' more all = (prefix_trans p.shown h h' all.0 more, each_shown_on ps h h' more all.1)

rest_of : (of : Opening) (wanted : Wanted) (ps : List PassState) (one two three : PassState) (s : ℕ) (v : View) (t : Rest) → AllByRecursion (λ p. IsPrefix p.seen one.seen) ps → IsEnded of one two s v t → IsPrefix two.seen three.seen → IsPrefix two.shown three.shown → IsCounted wanted ps s v → wanted.keeping ≡ of.keeping → IsRest of ps three.seen three.shown s t.from t.entries.items
rest_of of wanted ps one two three s v t seen m second later counted way = record {
  all = v.stored;
  final = record {
    legal = m.met.legal;
    home = m.met.home;
    in_range = m.met.in_range;
    counted = counted.counted;
    seen = each_seen ps (λ h p. prefix_trans (part s h) (part s one.seen) v.stored (part_prefix s h one.seen p) m.met.within) seen;
    stands = prefix_trans v.stored (part s two.seen) (part s three.seen) m.met.behind (part_prefix s two.seen three.seen second);
  };
  lets_shown = shown_on v.stored two.shown three.shown later m.met.shown;
  within = subst (λ n. n ≤ length v.stored) (sym m.from) m.within;
  rest = m.entries ∙ (m.held ∙ ap (λ n. drop n v.stored) (sym m.from));
  is_whole = λ e. m.from ∙ m.whole e;
  unrecorded = λ e. m.entries ∙ m.unrecorded e;
  streamed = λ e. m.from ∙ counted.streamed (way ∙ e);
}

pub ends : (of : Opening) (wanted : Wanted) (ps : List PassState) (vs : List View) (ts : List Rest) (one two three : PassState) (draws : ℕ) → AllByRecursion (λ p. IsPrefix p.seen one.seen) ps → AllByRecursion (λ p. IsPrefix p.shown one.shown) ps → IsPrefix one.shown two.shown → IsPrefix two.shown three.shown → AreLet three.seen three.shown
    → AreEnded of one two vs ts → IsPrefix one.seen two.seen → IsPrefix two.seen three.seen
    → IsLegalHistory of.shards three.seen → draws ≡ draws_of three.seen → length vs ≡ of.shards → ((s : ℕ) (v : View) → s < of.shards → IsCounted wanted ps s (get_or vs s v)) → wanted.keeping ≡ of.keeping → (v : View) → IsClosedRest of ps ts draws
ends of wanted ps vs ts one two three draws seen shown more later through met first second legal drawn many counted way v = record {
  whole = three.seen;
  legal = legal;
  seen = each_seen ps (λ h p. prefix_trans h one.seen three.seen p (prefix_trans one.seen two.seen three.seen first second)) seen;
  whole_shown = three.shown;
  let_through = through;
  shown = each_shown_on ps one.shown three.shown (prefix_trans one.shown two.shown three.shown more later) shown;
  draws_are = drawn;
  many = met.many ∙ many;
  each = λ s d lt. rest_of of wanted ps one two three s (get_or vs s v) (get_or ts s d) seen (met.each s v d (omega (arith, lt, many))) second later (counted s v lt) way;
}

-- nothing is gone from shards that have to hold all of their steps
pub ends_whole : (of : Opening) (wanted : Wanted) (ps : List PassState) (vs : List View) (ts : List Rest) (one two : PassState) → AreEnded of one two vs ts → length vs ≡ of.shards → ((s : ℕ) (v : View) → s < of.shards → IsCounted wanted ps s (get_or vs s v)) → (v : View) → wanted.whole ≡ true → AreWhole of ts
ends_whole of wanted ps vs ts one two met many counted v sure = λ s d lt. (met.each s v d (omega (arith, lt, many))).from ∙ (counted s v lt).whole sure

-- no more is left of a shard than it may hold
pub ends_short : (of : Opening) (wanted : Wanted) (ps : List PassState) (vs : List View) (ts : List Rest) (one two : PassState) → AreEnded of one two vs ts → length vs ≡ of.shards → ((s : ℕ) (v : View) → s < of.shards → IsCounted wanted ps s (get_or vs s v)) → (v : View) → (s : ℕ) (d : Rest) → s < length ts → length (get_or ts s d).entries.items ≤ wanted.max_steps
ends_short of wanted ps vs ts one two met many counted v = λ s d lt. let inside : s < length vs = omega (arith, lt, met.many) in omega (arith, (met.each s v d inside).limit, (counted s v (omega (arith, inside, many))).limit)

-- if nothing is gone, what is left is the histories
all_left : (of : Opening) (ps : List PassState) (whole : List Event) (shown : List Through) (s from : ℕ) (es fs : List Entry) → IsRest of ps whole shown s from es → from ≡ 0 → es ≡ fs → IsFinal of ps whole s fs × AllByRecursion (λ e. AreShown shown e.lets) fs
all_left of ps whole shown s from es fs m none same =
    let all : m.all ≡ fs = sym (ap (λ n. drop n m.all) none) ∙ (sym m.rest ∙ same) in
    (subst (IsFinal of ps whole s) all m.final, subst (AllByRecursion (λ e. AreShown shown e.lets)) all m.lets_shown)

pub whole_closed : (of : Opening) (ps : List PassState) (ts : List Rest) (hs : List (Vec Entry)) (draws draws' : ℕ) → IsClosedRest of ps ts draws → AreWhole of ts → hs ≡ map (λ t. t.entries) ts → draws' ≡ draws → IsClosed of ps hs draws'
whole_closed of ps ts hs draws draws' m none same drawn = record {
  whole = m.whole;
  legal = m.legal;
  seen = m.seen;
  whole_shown = m.whole_shown;
  let_through = m.let_through;
  shown = m.shown;
  draws_are = drawn ∙ m.draws_are;
  many = ap length same ∙ (length-map ts (λ t. t.entries) ∙ m.many);
  each = λ s d lt. (left s d lt).0;
  lets_shown = λ s d lt. (left s d lt).1;
}
  where
    left : (s : ℕ) (d : Vec Entry) → s < of.shards → IsFinal of ps m.whole s (get_or hs s d).items × AllByRecursion (λ e. AreShown m.whole_shown e.lets) (get_or hs s d).items
    left s d lt =
        let t : Rest = record { from = 0; entries = d } in
        let at : get_or hs s d ≡ (get_or ts s t).entries = ap (λ l. get_or l s d) same ∙ get_or-map (λ t. t.entries) ts s t d (omega (arith, lt, m.many)) in
        all_left of ps m.whole m.whole_shown s (get_or ts s t).from (get_or ts s t).entries.items (get_or hs s d).items (m.each s t lt) (none s t lt) (sym (ap (λ x. x.items) at))

-- the error of a table whose counts are wrong at one of its shards
pub is_unclosed : (wanted : Wanted) (ps : List PassState) (vs : List View) (e : CloseError) (handed : ℕ) (c : Config) → IsMiscount wanted ps vs e → c.passes ≤ handed → length vs ≡ c.shards → IsUnclosed e handed c
is_unclosed wanted ps vs (Counts index) handed c m enough same = (enough, subst (λ n. index < n) same m.0)
is_unclosed wanted ps vs (PassesOut missing) handed c m enough same = absurd m
is_unclosed wanted ps vs Memory handed c m enough same = absurd m

-- a fact of each item of two lists
pub all_of_both : {A : Type 0} (P : A → Type 0) (xs ys : List A) → ((k : ℕ) (d : A) → k < length xs → P (get_or xs k d)) → ((k : ℕ) (d : A) → k < length ys → P (get_or ys k d)) → (k : ℕ) (d : A) → k < length (xs ++ ys) → P (get_or (xs ++ ys) k d)
all_of_both P [] ys f g k d lt = g k d lt
all_of_both P (x ∷ xs) ys f g zero d lt = f 0 d (omega arith)
all_of_both P (x ∷ xs) ys f g (suc k) d lt = all_of_both P xs ys (λ j e inside. f (suc j) e (omega (arith, inside))) g k d (omega (arith, lt))

pub all_mapped : {A B : Type 0} (P : B → Type 0) (f : A → B) (xs : List A) → ((k : ℕ) (d : A) → k < length xs → P (f (get_or xs k d))) → (k : ℕ) (d : B) → k < length (map f xs) → P (get_or (map f xs) k d)
all_mapped P f [] h k d lt = absurd (omega arith)
all_mapped P f (x ∷ xs) h zero d lt = h 0 x (omega arith)
all_mapped P f (x ∷ xs) h (suc k) d lt = all_mapped P f xs (λ j e inside. h (suc j) e (omega (arith, inside))) k d (omega (arith, lt))

pub sees_on : (old mid new : PassState) → SeesMore old mid → SeesMore mid new → SeesMore old new
sees_on old mid new a b = record { of = b.of ∙ a.of; number = b.number ∙ a.number; counts = b.counts ∙ a.counts; taken = b.taken ∙ a.taken; wakes = b.wakes ∙ a.wakes; seen = prefix_trans old.seen mid.seen new.seen a.seen b.seen; shown = prefix_trans old.shown mid.shown new.shown a.shown b.shown; takes = prefix_trans old.takes mid.takes new.takes a.takes b.takes }

-- a fact of each item holds of the last item
pub of_last : {A : Type 0} (P : A → Type 0) (xs ys : List A) (y : A) → xs ≡ ys ++ y ∷ [] → ((k : ℕ) (d : A) → k < length xs → P (get_or xs k d)) → P y
of_last P xs ys y is each =
    let lt : length ys < length xs = omega (arith, ap length is, length-append ys (y ∷ [])) in
    subst P (ap (λ zs. get_or zs (length ys) y) is ∙ get_or-append_seam ys y [] y) (each (length ys) y lt)
