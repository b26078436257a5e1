-- Calls of a pass, one after the other.
use Rattle.std.proofs.Common.{◌≡◌, ℕ, ◌+◌, ◌<◌, ◌≤◌, Bool, true, false, if◌then◌else◌, nat_eq, Option, List, [], ◌∷◌, ◌++◌, length, inl, inr, refl, ap, sym, subst, ◌∙◌, append-nil, arith}
use Rattle.std.specs.Prelude.{slice_index}
use Rattle.std.specs.List.{AllByRecursion}
use Rattle.std.proofs.lemmas.Option.{slice_get_within}
use mathlib.Core.List.{IsPrefix}
use Rattle.lt_ids.specs.Ids.{Wait}
use Rattle.lt_ids.specs.declared.ticket.Through.{Through}
use Rattle.lt_ids.specs.declared.timestamp.Timestamp.{Timestamp}
use Rattle.lt_ids.specs.declared.request.Access.{Access}
use Rattle.lt_entry.specs.declared.entry.Entry.{Entry}
use Rattle.lt_words.specs.declared.event.Event.{Event}
use Rattle.lt_words.specs.declared.event.Event.TheVariants.{Opened, Draw, Step}
use Rattle.lt_words.specs.History.{part, shard_of, draws_of, DrewIn, LetIn}
use Rattle.lt_words.specs.Row.{Opening, PassState, SeesMore, Appends}
use Rattle.lt_words.proofs.Prefixes.{prefix_trans, prefix_get}
use Rattle.lt_words.proofs.Histories.{part_length, part_prefix, let_later}
use Rattle.lt_words.proofs.Draws.{draws_stay}
use Rattle.lt_words.proofs.Showing.{shown_later}
use Rattle.lt_words.specs.Shown.{IsShown}
use Rattle.lt_walk.specs.Machine as runs
use Rattle.lt_walk.specs.Entered.{IsEntered}
use Rattle.lt_walk.specs.Reported.{GuardState, Reported, AreReported, steps_at}
use Rattle.lt_walk.proofs.InPlace.{all_counted}
use Rattle.lt_runner.specs.Outcomes.{StandsAt, StandsIn, IsSeen, LetsAreShown, ComesAfter, IsBefore, Ascend, IsRising, IsDrawn, OutcomeTells, part_of}

pub all_append : {A : Type 0} (P : A → Type 0) (xs ys : List A) → AllByRecursion P xs → AllByRecursion P ys → AllByRecursion P (xs ++ ys)
all_append P [] ys p q = q
all_append P (x ∷ xs) ys p q = (p.0, all_append P xs ys p.1 q)

pub all_more : {A : Type 0} (P : A → Type 0) (xs : List A) (x : A) → AllByRecursion P xs → P x → AllByRecursion P (xs ++ x ∷ [])
all_more P xs x p q = all_append P xs (x ∷ []) p (q, tt)

pub all_weaker : {A : Type 0} (P Q : A → Type 0) (xs : List A) → ((x : A) → P x → Q x) → AllByRecursion P xs → AllByRecursion Q xs
all_weaker P Q [] f p = tt
all_weaker P Q (x ∷ xs) f p = (f x p.0, all_weaker P Q xs f p.1)

pub prefix_self : {A : Type 0} (xs : List A) → IsPrefix xs xs
prefix_self [] = ([], refl)
prefix_self (x ∷ xs) = let p = prefix_self xs in (p.0, ap (λ l. x ∷ l) p.1)

-- What is in a prefix is in the whole.
pub stands_at_later : (pass : ℕ) (es fs : List Entry) (x : runs.Step) → IsPrefix es fs → StandsAt pass es x → StandsAt pass fs x
stands_at_later pass es fs x p s = record { entry = s.entry; key_is = s.key_is; pass_is = s.pass_is; call_is = s.call_is; reply_is = s.reply_is; stands = prefix_get es fs x.answer.at s.entry p s.stands }

stands_later : (shards pass : ℕ) (h g : List Event) (x : runs.Step) → IsPrefix h g → StandsIn shards pass h x → StandsIn shards pass g x
stands_later shards pass h g x p s = stands_at_later pass (part_of shards h x) (part_of shards g x) x (part_prefix (shard_of x.key shards) h g p) s

pub after_earlier : (shards : ℕ) (h g : List Event) (x : runs.Step) → IsPrefix h g → ComesAfter shards g x → ComesAfter shards h x
after_earlier shards h g x p a = let le : length (part_of shards h x) ≤ length (part_of shards g x) = part_length (shard_of x.key shards) h g p in omega arith

pub lets_shown_later : (shards : ℕ) (h g : List Event) (ts us : List Through) (x : runs.Step) → IsPrefix h g → IsPrefix ts us → LetsAreShown shards h ts x → LetsAreShown shards g us x
lets_shown_later shards h g ts us x p q s = record {
  entry = s.entry;
  stands = prefix_get (part_of shards h x) (part_of shards g x) x.answer.at s.entry (part_prefix (shard_of x.key shards) h g p) s.stands;
  lets_shown = all_weaker (λ t. IsShown ts t.pass t.ticket) (λ t. IsShown us t.pass t.ticket) s.entry.lets (λ t. shown_later t.pass t.ticket ts us q) s.lets_shown;
}

pub stands_seen : (shards pass : ℕ) (h : List Event) (x : runs.Step) → StandsIn shards pass h x → IsSeen shards h x
stands_seen shards pass h x s = slice_get_within (part_of shards h x) x.answer.at s.entry s.stands

pub seen_later : (shards : ℕ) (h g : List Event) (x : runs.Step) → IsPrefix h g → IsSeen shards h x → IsSeen shards g x
seen_later shards h g x p s =
    let lt : x.answer.at < length (part_of shards h x) = s in
    let le : length (part_of shards h x) ≤ length (part_of shards g x) = part_length (shard_of x.key shards) h g p in
    omega arith

-- A step that was seen comes before a step that comes after everything seen.
is_before : (shards : ℕ) (h : List Event) (x y : runs.Step) → IsSeen shards h x → ComesAfter shards h y → IsBefore shards x y
is_before shards h x y s a = λ same.
    let lt : x.answer.at < length (part_of shards h x) = s in
    let le : length (part (shard_of x.key shards) h) ≤ y.answer.at = subst (λ (n : ℕ). length (part n h) ≤ y.answer.at) (sym same) a in
    omega arith

pub ascend_append : (shards : ℕ) (h : List Event) (xs ys : List runs.Step) → AllByRecursion (IsSeen shards h) xs → AllByRecursion (ComesAfter shards h) ys → Ascend shards xs → Ascend shards ys → Ascend shards (xs ++ ys)
ascend_append shards h [] ys s a p q = q
ascend_append shards h (x ∷ xs) ys s a p q = (
  all_append (IsBefore shards x) xs ys p.0 (all_weaker (ComesAfter shards h) (IsBefore shards x) ys (λ y. is_before shards h x y s.0) a),
  ascend_append shards h xs ys s.1 a p.1 q,
)

-- ---- draws

draws_append : (h g : List Event) → draws_of h ≤ draws_of (h ++ g)
draws_append [] g = omega arith
draws_append (Opened s p way ∷ h) g = draws_append h g
draws_append (Draw p n ∷ h) g = let le : draws_of h ≤ draws_of (h ++ g) = draws_append h g in omega arith
draws_append (Step s e ∷ h) g = draws_append h g

pub draws_later : (h g : List Event) → IsPrefix h g → draws_of h ≤ draws_of g
draws_later h g p = subst (λ (l : List Event). draws_of h ≤ draws_of l) p.1 (draws_append h p.0)

drawn_later : (pass : ℕ) (old h g : List Event) (n : ℕ) → IsPrefix h g → IsDrawn pass old h n → IsDrawn pass old g n
drawn_later pass old h g n p d =
    let le : draws_of h ≤ draws_of g = draws_later h g p in
    let in' : n ≤ draws_of h = d.within in
    record { drew = draws_stay h g pass n p d.drew; above = d.above; within = omega arith }

drawn_earlier : (pass : ℕ) (old mid new : List Event) (n : ℕ) → IsPrefix old mid → IsDrawn pass mid new n → IsDrawn pass old new n
drawn_earlier pass old mid new n p d =
    let le : draws_of old ≤ draws_of mid = draws_later old mid p in
    let above : draws_of mid < n = d.above in
    record { drew = d.drew; above = omega arith; within = d.within }

below : (p q : ℕ) (old mid new : List Event) (n m : ℕ) → IsDrawn p old mid n → IsDrawn q mid new m → n < m
below p q old mid new n m d e =
    let one : n ≤ draws_of mid = d.within in
    let two : draws_of mid < m = e.above in
    omega arith

rise_append : (p : ℕ) (old mid new : List Event) (xs ys : List ℕ) → AllByRecursion (IsDrawn p old mid) xs → AllByRecursion (IsDrawn p mid new) ys → IsRising xs → IsRising ys → IsRising (xs ++ ys)
rise_append p old mid new [] ys d e r s = s
rise_append p old mid new (x ∷ xs) ys d e r s = (
  all_append (λ m. x < m) xs ys r.0 (all_weaker (IsDrawn p mid new) (λ m. x < m) ys (λ m. below p p old mid new x m d.0) e),
  rise_append p old mid new xs ys d.1 e r.1 s,
)

draws_snoc : (h : List Event) (p n : ℕ) → draws_of (h ++ Draw p n ∷ []) ≡ draws_of h + 1
draws_snoc [] p n = refl
draws_snoc (Opened a b way ∷ h) p n = draws_snoc h p n
draws_snoc (Draw q m ∷ h) p n = ap (λ k. k + 1) (draws_snoc h p n)
draws_snoc (Step s e ∷ h) p n = draws_snoc h p n

drew_last : (h : List Event) (p n : ℕ) → DrewIn (h ++ Draw p n ∷ []) p n
drew_last [] p n = inl (refl, refl)
drew_last (Opened a b way ∷ h) p n = drew_last h p n
drew_last (Draw q m ∷ h) p n = inr (drew_last h p n)
drew_last (Step s e ∷ h) p n = drew_last h p n

drawn_next : (old new : List Event) (p n : ℕ) → Appends old (λ h. draws_of h + 1 ≡ n) (Draw p n) new → IsDrawn p old new n
drawn_next old new p n g =
    let le : draws_of old ≤ draws_of g.0 = draws_later old g.0 g.1 in
    let next : draws_of g.0 + 1 ≡ n = g.2 in
    let more : draws_of new ≡ draws_of g.0 + 1 = ap draws_of g.3 ∙ draws_snoc g.0 p n in
    record { drew = subst (λ (h : List Event). DrewIn h p n) (sym g.3) (drew_last g.0 p n); above = omega arith; within = omega arith }

-- ---- counts

-- Without a step the counts stay the same.
count_none : (a b : PassState) → b.counts ≡ a.counts → (s : ℕ) → slice_index b.counts s ≡ slice_index a.counts s + 0
count_none a b e s = let same : slice_index b.counts s ≡ slice_index a.counts s = ap (λ (l : List ℕ). slice_index l s) e in omega (arith, same)

one_more : (b : Bool) (k m n : ℕ) → k ≡ m + n → (if b then k + 1 else k) ≡ (if b then m + 1 else m) + n
one_more true k m n e = omega (arith, e)
one_more false k m n e = e

steps_append : (shards s : ℕ) (xs ys : List runs.Step) → steps_at shards s (xs ++ ys) ≡ steps_at shards s xs + steps_at shards s ys
steps_append shards s [] ys = omega arith
steps_append shards s (x ∷ xs) ys = one_more (nat_eq (shard_of x.key shards) s) (steps_at shards s (xs ++ ys)) (steps_at shards s xs) (steps_at shards s ys) (steps_append shards s xs ys)

count_then : (a b c : PassState) (n s : ℕ) (xs ys : List runs.Step) → slice_index b.counts s ≡ slice_index a.counts s + steps_at n s xs → slice_index c.counts s ≡ slice_index b.counts s + steps_at n s ys → slice_index c.counts s ≡ slice_index a.counts s + steps_at n s (xs ++ ys)
count_then a b c n s xs ys one two = omega (arith, one, two, steps_append n s xs ys)

-- ---- what the calls tell

pub tells_none : (a : PassState) → OutcomeTells a a [] [] []
tells_none a = record { of = refl; number = refl; seen = prefix_self a.seen; stand = tt; after = tt; ascend = tt; counted = count_none a a refl; drawn = tt; rise = tt; let_in = tt; shown = prefix_self a.shown; lets_shown = tt }

pub tells_more : (a b : PassState) → SeesMore a b → OutcomeTells a b [] [] []
tells_more a b m = record { of = m.of; number = m.number; seen = m.seen; stand = tt; after = tt; ascend = tt; counted = count_none a b m.counts; drawn = tt; rise = tt; let_in = tt; shown = m.shown; lets_shown = tt }

-- One call after the other.
pub tells_then : (a b c : PassState) (xs ys : List runs.Step) (ms ns : List ℕ) (ts us : List Wait) → OutcomeTells a b xs ms ts → OutcomeTells b c ys ns us → OutcomeTells a c (xs ++ ys) (ms ++ ns) (ts ++ us)
tells_then a b c xs ys ms ns ts us g h =
    let n : ℕ = a.of.shards in
    let same : b.of.shards ≡ n = ap (λ (o : Opening). o.shards) g.of in
    let stand : AllByRecursion (StandsIn n a.number c.seen) ys = subst (λ (p : ℕ). AllByRecursion (StandsIn n p c.seen) ys) g.number (subst (λ (s : ℕ). AllByRecursion (StandsIn s b.number c.seen) ys) same h.stand) in
    let after : AllByRecursion (ComesAfter n b.seen) ys = subst (λ (s : ℕ). AllByRecursion (ComesAfter s b.seen) ys) same h.after in
    let ascend : Ascend n ys = subst (λ (s : ℕ). Ascend s ys) same h.ascend in
    let drawn : AllByRecursion (IsDrawn a.number b.seen c.seen) ns = subst (λ (p : ℕ). AllByRecursion (IsDrawn p b.seen c.seen) ns) g.number h.drawn in
    let lets : AllByRecursion (LetIn c.seen a.number) us = subst (λ (p : ℕ). AllByRecursion (LetIn c.seen p) us) g.number h.let_in in
    let told : AllByRecursion (LetsAreShown n c.seen c.shown) ys = subst (λ (s : ℕ). AllByRecursion (LetsAreShown s c.seen c.shown) ys) same h.lets_shown in
    record {
      of = h.of ∙ g.of;
      number = h.number ∙ g.number;
      seen = prefix_trans a.seen b.seen c.seen g.seen h.seen;
      stand = all_append (StandsIn n a.number c.seen) xs ys (all_weaker (StandsIn n a.number b.seen) (StandsIn n a.number c.seen) xs (λ x. stands_later n a.number b.seen c.seen x h.seen) g.stand) stand;
      after = all_append (ComesAfter n a.seen) xs ys g.after (all_weaker (ComesAfter n b.seen) (ComesAfter n a.seen) ys (λ x. after_earlier n a.seen b.seen x g.seen) after);
      ascend = ascend_append n b.seen xs ys (all_weaker (StandsIn n a.number b.seen) (IsSeen n b.seen) xs (stands_seen n a.number b.seen) g.stand) after g.ascend ascend;
      counted = λ s. count_then a b c n s xs ys (g.counted s) (subst (λ (k : ℕ). slice_index c.counts s ≡ slice_index b.counts s + steps_at k s ys) same (h.counted s));
      drawn = all_append (IsDrawn a.number a.seen c.seen) ms ns (all_weaker (IsDrawn a.number a.seen b.seen) (IsDrawn a.number a.seen c.seen) ms (λ k. drawn_later a.number a.seen b.seen c.seen k h.seen) g.drawn) (all_weaker (IsDrawn a.number b.seen c.seen) (IsDrawn a.number a.seen c.seen) ns (λ k. drawn_earlier a.number a.seen b.seen c.seen k g.seen) drawn);
      rise = rise_append a.number a.seen b.seen c.seen ms ns g.drawn drawn g.rise h.rise;
      let_in = all_append (LetIn c.seen a.number) ts us (all_weaker (LetIn b.seen a.number) (LetIn c.seen a.number) ts (λ t. let_later b.seen c.seen a.number t h.seen) g.let_in) lets;
      shown = prefix_trans a.shown b.shown c.shown g.shown h.shown;
      lets_shown = all_append (LetsAreShown n c.seen c.shown) xs ys (all_weaker (LetsAreShown n b.seen b.shown) (LetsAreShown n c.seen c.shown) xs (λ x. lets_shown_later n b.seen c.seen b.shown c.shown x h.seen h.shown) g.lets_shown) told;
    }

-- The pass learned more afterwards.
pub tells_learnt : (a b c : PassState) (xs : List runs.Step) (ns : List ℕ) (ts : List Wait) → OutcomeTells a b xs ns ts → SeesMore b c → OutcomeTells a c xs ns ts
tells_learnt a b c xs ns ts t m =
    subst (λ (l : List Wait). OutcomeTells a c xs ns l) (append-nil ts)
    (subst (λ (l : List ℕ). OutcomeTells a c xs l (ts ++ [])) (append-nil ns)
    (subst (λ (l : List runs.Step). OutcomeTells a c l (ns ++ []) (ts ++ [])) (append-nil xs)
    (tells_then a b c xs [] ns [] ts [] t (tells_more b c m))))

pub tells_step : (a b : PassState) (x : runs.Step) → Reported a b x → OutcomeTells a b (x ∷ []) [] []
tells_step a b x r = record {
  of = r.reports.of;
  number = r.reports.number;
  seen = r.reports.seen;
  stand = (record { entry = r.entry; key_is = r.key_is; pass_is = r.reports.own; call_is = r.call_is; reply_is = r.reply_is; stands = r.reports.stands }, tt);
  after = (r.reports.later, tt);
  ascend = (tt, tt);
  counted = λ s. all_counted a b (x ∷ []) s (b, r, refl);
  drawn = tt;
  rise = tt;
  let_in = tt;
  shown = r.reports.shown;
  lets_shown = (record { entry = r.entry; stands = r.reports.stands; lets_shown = r.reports.lets_shown }, tt);
}

pub tells_steps : (a : PassState) (xs : List runs.Step) (b : PassState) → AreReported a xs b → OutcomeTells a b xs [] []
tells_steps a [] b r = subst (λ (p : PassState). OutcomeTells a p [] [] []) (sym r) (tells_none a)
tells_steps a (x ∷ xs) b r = tells_then a r.0 b (x ∷ []) xs [] [] [] [] (tells_step a r.0 x r.1) (tells_steps r.0 xs b r.2)

pub tells_entered : (a : PassState) (given : List (List ℕ × Access)) (txn : Option ℕ) (ts : Timestamp) (longest max : ℕ) (g : GuardState) → IsEntered a given txn ts longest max g → OutcomeTells a g.pass [] (g.walk.asked.number ∷ []) []
tells_entered a given txn ts longest max g e = record {
  of = e.more.of;
  number = e.more.number;
  seen = e.more.seen;
  stand = tt;
  after = tt;
  ascend = tt;
  counted = count_none a g.pass e.more.counts;
  drawn = (drawn_next a.seen g.pass.seen a.number g.walk.asked.number e.drawn, tt);
  rise = (tt, tt);
  let_in = tt;
  shown = e.more.shown;
  lets_shown = tt;
}

-- A let that the pass found at a call.
pub tells_let : (a b : PassState) (xs : List runs.Step) (ts : List Wait) → OutcomeTells a b xs [] [] → AllByRecursion (LetIn b.seen a.number) ts → OutcomeTells a b xs [] ts
tells_let a b xs ts t l = record { of = t.of; number = t.number; seen = t.seen; stand = t.stand; after = t.after; ascend = t.ascend; counted = t.counted; drawn = t.drawn; rise = t.rise; let_in = l; shown = t.shown; lets_shown = t.lets_shown }
