-- A reported step keeps its index.
use Rattle.std.proofs.Common.{◌≡◌, ℕ, zero, suc, ◌+◌, ◌<◌, ◌≤◌, nat_eq, Bool, true, false, if◌then◌else◌, List, [], ◌∷◌, ◌++◌, length, slice_get, get_or, refl, sym, ◌∙◌, ap, subst, arith, append-nil, append_assoc, length-append, Some, inl, inr}
use Rattle.std.specs.Prelude.{slice_index}
use mathlib.Core.List.{IsPrefix}
use Rattle.std.specs.List.{AllByRecursion}
use Rattle.std.proofs.lemmas.Bool.Decides.{nat_tests}
use Rattle.lt_words.specs.History.{part, shard_of}
use Rattle.lt_words.specs.Row.{PassState}
use Rattle.lt_words.specs.declared.event.Event.{Event}
use Rattle.lt_words.specs.declared.event.Event.TheVariants.{Draw}
use Rattle.lt_words.proofs.Prefixes.{prefix_trans, prefix_length, prefix_get}
use Rattle.lt_words.proofs.Draws.{numbers_are_drawn_once}
use Rattle.lt_words.proofs.Histories.{part_length, part_prefix}
use Rattle.lt_walk.specs.Machine as runs
use Rattle.lt_walk.specs.Reported.{shard_at, Reported, AreReported, steps_at, StepIndicesRise}
use Rattle.lt_walk.specs.Laws.{Stands, ReportedStand, NumbersOfGuardsDiffer, ReportedStandAtClose}

pub prefix_same : {A : Type 0} (xs ys : List A) → ys ≡ xs → IsPrefix xs ys
prefix_same xs ys e = ([], append-nil xs ∙ sym e)

-- the first step, seen from the end
first_stands : (old mid new : PassState) (x : runs.Step) → Reported old mid x → IsPrefix mid.seen new.seen → Stands old new x
first_stands old mid new x r begins = record {
  entry = r.entry;
  key_is = r.key_is;
  pass_is = r.reports.own;
  call_is = r.call_is;
  reply_is = r.reply_is;
  at = prefix_get (part (shard_at old x) mid.seen) (part (shard_at old x) new.seen) x.answer.at r.entry (part_prefix (shard_at old x) mid.seen new.seen begins) r.reports.stands;
  later = r.reports.later;
}

-- a later step, seen from the beginning
pub later_stands : (old mid new : PassState) (x : runs.Step) → mid.of ≡ old.of → mid.number ≡ old.number → IsPrefix old.seen mid.seen → Stands mid new x → Stands old new x
later_stands old mid new x of number begins s =
    let same : shard_at mid x ≡ shard_at old x = ap (λ o. shard_of x.key o.shards) of in
    let after : length (part (shard_at old x) mid.seen) ≤ x.answer.at = subst (λ n. length (part n mid.seen) ≤ x.answer.at) same s.later in
    record {
      entry = s.entry;
      key_is = s.key_is;
      pass_is = s.pass_is ∙ number;
      call_is = s.call_is;
      reply_is = s.reply_is;
      at = subst (λ n. slice_get (part n new.seen) x.answer.at ≡ Some s.entry) same s.at;
      later = omega (arith, part_length (shard_at old x) old.seen mid.seen begins, after);
    }

pub all_later : (old mid new : PassState) (xs : List runs.Step) → mid.of ≡ old.of → mid.number ≡ old.number → IsPrefix old.seen mid.seen → AllByRecursion (Stands mid new) xs → AllByRecursion (Stands old new) xs
all_later old mid new [] of number begins a = tt
all_later old mid new (x ∷ xs) of number begins a = (later_stands old mid new x of number begins a.0, all_later old mid new xs of number begins a.1)

pub all_stand : (old new : PassState) (xs : List runs.Step) → AreReported old xs new → IsPrefix old.seen new.seen × AllByRecursion (Stands old new) xs
all_stand old new [] c = (prefix_same old.seen new.seen (ap (λ s. s.seen) c), tt)
all_stand old new (x ∷ xs) c =
    let rest : IsPrefix c.0.seen new.seen × AllByRecursion (Stands c.0 new) xs = all_stand c.0 new xs c.2 in
    (prefix_trans old.seen c.0.seen new.seen c.1.reports.seen rest.0, (first_stands old c.0 new x c.1 rest.0, all_later old c.0 new xs c.1.reports.of c.1.reports.number c.1.reports.seen rest.1))

-- ---- counts

pub one_counted : (old mid : PassState) (x : runs.Step) (s : ℕ) (b : Bool) → nat_eq (shard_at old x) s ≡ b → Reported old mid x → slice_index mid.counts s ≡ slice_index old.counts s + (if b then 1 else 0)
one_counted old mid x s true is r =
    let here : shard_at old x ≡ s = grind (arith, nat_tests) in
    subst (λ t. slice_index mid.counts t ≡ slice_index old.counts t + 1) here r.reports.counted
one_counted old mid x s false is r =
    let same : slice_index mid.counts s ≡ slice_index old.counts s = r.reports.others s (λ e. let there : nat_eq (shard_at old x) s ≡ true = grind (arith, nat_tests) in absurd cc) in
    omega (arith, same)

pub add_one_more : (b : Bool) (old mid new rest : ℕ) → mid ≡ old + (if b then 1 else 0) → new ≡ mid + rest → new ≡ old + (if b then rest + 1 else rest)
add_one_more true old mid new rest e f = omega (arith, e, f)
add_one_more false old mid new rest e f = omega (arith, e, f)

pub all_counted : (old new : PassState) (xs : List runs.Step) (s : ℕ) → AreReported old xs new → slice_index new.counts s ≡ slice_index old.counts s + steps_at old.of.shards s xs
all_counted old new [] s c = let same : slice_index new.counts s ≡ slice_index old.counts s = ap (λ p. slice_index p.counts s) c in omega (arith, same)
all_counted old new (x ∷ xs) s c =
    let rest : slice_index new.counts s ≡ slice_index c.0.counts s + steps_at c.0.of.shards s xs = all_counted c.0 new xs s c.2 in
    let here : slice_index new.counts s ≡ slice_index c.0.counts s + steps_at old.of.shards s xs = subst (λ n. slice_index new.counts s ≡ slice_index c.0.counts s + steps_at n s xs) (ap (λ o. o.shards) c.1.reports.of) rest in
    add_one_more (nat_eq (shard_at old x) s) (slice_index old.counts s) (slice_index c.0.counts s) (slice_index new.counts s) (steps_at old.of.shards s xs) (one_counted old c.0 x s (nat_eq (shard_at old x) s) refl c.1) here

pub reported_stand : ReportedStand
reported_stand old new xs c =
    let both = all_stand old new xs c in
    record { seen = both.0; stand = both.1; counted = λ s. all_counted old new xs s c }

-- ---- indices

pub inside_length : {A : Type 0} (xs : List A) (i : ℕ) (x : A) → slice_get xs i ≡ Some x → i < length xs
inside_length [] i x e = absurd cc
inside_length (y ∷ ys) zero x e = omega arith
inside_length (y ∷ ys) (suc i) x e = omega (arith, inside_length ys i x e)

pub indices_rise : StepIndicesRise
indices_rise first second third last x y r more s same =
    let one : x.answer.at < length (part (shard_at first x) second.seen) = inside_length (part (shard_at first x) second.seen) x.answer.at r.entry r.reports.stands in
    let two : length (part (shard_at first x) third.seen) ≤ y.answer.at = subst (λ n. length (part n third.seen) ≤ y.answer.at) (sym same) s.reports.later in
    omega (arith, one, two, part_length (shard_at first x) second.seen third.seen more)

-- ---- numbers

-- an extension of a history with one more event has that event after the history
goes_into : (h seen whole : List Event) (e : Event) → seen ≡ h ++ e ∷ [] → IsPrefix seen whole → (rest : List Event) × (whole ≡ h ++ e ∷ rest)
goes_into h seen whole e is begins = (begins.0, sym begins.1 ∙ (ap (λ l. l ++ begins.0) is ∙ append_assoc h (e ∷ []) begins.0))

pub numbers_of_guards_differ : NumbersOfGuardsDiffer
numbers_of_guards_differ shards whole old old' given given' txn txn' ts ts' longest longest' max max' guard guard' legal in_whole in_whole' e e' apart = λ same.
    let one = goes_into e.drawn.0 guard.pass.seen whole (Draw old.number guard.walk.asked.number) e.drawn.3 in_whole in
    let two = goes_into e'.drawn.0 guard'.pass.seen whole (Draw old'.number guard'.walk.asked.number) e'.drawn.3 in_whole' in
    let two' : whole ≡ e'.drawn.0 ++ Draw old'.number guard.walk.asked.number ∷ two.0 = subst (λ n. whole ≡ e'.drawn.0 ++ Draw old'.number n ∷ two.0) (sym same) two.1 in
    let once = numbers_are_drawn_once shards whole e.drawn.0 e'.drawn.0 one.0 two.0 old.number old'.number guard.walk.asked.number legal one.1 two' in
    elim apart [
      | inl passes ↦ absurd (passes once.0)
      | inr later ↦
          let long : length guard.pass.seen ≤ length e'.drawn.0 = omega (arith, prefix_length guard.pass.seen old'.seen later, prefix_length old'.seen e'.drawn.0 e'.drawn.1) in
          let grown : length guard.pass.seen ≡ length e.drawn.0 + 1 = ap length e.drawn.3 ∙ length-append e.drawn.0 (Draw old.number guard.walk.asked.number ∷ []) in
          absurd (omega (arith, long, grown, ap length once.1))
    ]

-- ---- the close

pub each_at : (P : PassState → Type 0) (ps : List PassState) (k : ℕ) (p : PassState) → AllByRecursion P ps → k < length ps → p ≡ get_or ps k p → P p
each_at P [] k p a lt is = absurd (omega arith)
each_at P (q ∷ qs) zero p a lt is = subst P (sym is) a.0
each_at P (q ∷ qs) (suc k) p a lt is = each_at P qs k p a.1 (omega arith) is

pub reported_stand_at_close : ReportedStandAtClose
reported_stand_at_close of ps shards draws k p old new x d closed lt is step more here =
    let final = closed.each (shard_at old x) d here in
    let begins : IsPrefix (part (shard_at old x) p.seen) (get_or shards (shard_at old x) d).items = each_at (λ q. IsPrefix (part (shard_at old x) q.seen) (get_or shards (shard_at old x) d).items) ps k p final.seen lt is in
    prefix_get (part (shard_at old x) new.seen) (get_or shards (shard_at old x) d).items x.answer.at step.entry
    (prefix_trans (part (shard_at old x) new.seen) (part (shard_at old x) p.seen) (get_or shards (shard_at old x) d).items (part_prefix (shard_at old x) new.seen p.seen more) begins) step.reports.stands
