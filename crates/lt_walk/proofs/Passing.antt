-- A visit in a legal history passes, has to wait, or meets a queue that is too long. So a request that proceeds has
-- passed each key.
use Rattle.std.proofs.Common.{◌+◌, ◌≡◌, ℕ, zero, suc, Bool, true, false, cond, Option, Some, None, List, [], ◌∷◌, map, slice_get, refl, sym, ◌∙◌, ap, subst, Ok, ◌==◌, length}
use Rattle.std.specs.Prelude.{filter}
use Rattle.std.specs.Option.{option_map}
use Rattle.std.specs.List.{AllByRecursion}
use Rattle.std.specs.Str.{bytes_eq}
use Rattle.std.proofs.lemmas.Slice.Eq.{bytes_eq-Decides}
use Rattle.lt_ids.specs.Ids.{Wait}
use Rattle.lt_ids.specs.declared.timestamp.Timestamp.{Timestamp}
use Rattle.lt_ids.specs.declared.request.Access.{Access}
use Rattle.lt_rules.specs.declared.call.Call.{Call}
use Rattle.lt_rules.specs.declared.call.Call.TheVariants.{Visit}
use Rattle.lt_rules.specs.Rules.{Record, empty}
use Rattle.lt_rules.specs.Step.{IsLegalFrom, step}
use Rattle.lt_rules.specs.Step as plain
use Rattle.lt_entry.specs.declared.entry.Entry.{Entry}
use Rattle.lt_entry.specs.Legal.{event_of}
use Rattle.lt_entry.specs.Legal.{key_part}
use Rattle.lt_words.specs.declared.event.Event.{Event}
use Rattle.lt_words.specs.declared.event.Event.TheVariants.{Opened, Draw, Step}
use Rattle.lt_words.specs.History.{part, steps_of, IsLegalHistory}
use Rattle.lt_words.specs.Row.{PassState}
use Rattle.lt_walk.specs.declared.walk_progress.Progress.{Progress}
use Rattle.lt_walk.specs.declared.scan_results.Scan.TheVariants.{Proceed}
use Rattle.lt_walk.specs.Machine.{Asked, met, may_visit, visit_call, Visits, IsScanFrom}
use Rattle.lt_walk.specs.Machine as runs
use Rattle.lt_walk.specs.Reported.{shard_at}
use Rattle.lt_walk.specs.Laws.{Stands, ProceedHasPassedEach}
use Rattle.lt_walk.proofs.InPlace.{all_stand}
use Rattle.lt_walk.proofs.Follows.{IsVisitReply, visit_replies, proceeds_after_all, guarded, begins_free, pair_same}

-- the event is no visit, or it passes, has to wait, or meets a queue that is too long
abbrev IsFine : plain.Event → Type 0
IsFine e = (ticket : Wait) (txn : Option ℕ) (ts : Timestamp) (access : Access) (longest : ℕ) → e.call ≡ Visit ticket txn ts access longest → IsVisitReply e.reply

one_fine : (r : Record) (e : plain.Event) → e.reply ≡ (step r e.pass e.call).reply → IsFine e
one_fine r e is ticket txn ts access longest call = subst IsVisitReply (sym (is ∙ ap (λ c. (step r e.pass c).reply) call)) (visit_replies r e.pass ticket txn ts access longest)

legal_fine : (r : Record) (es : List plain.Event) → IsLegalFrom r es → AllByRecursion IsFine es
legal_fine r [] l = tt
legal_fine r (e ∷ es) l = (one_fine r e l.0, legal_fine (step r e.pass e.call).after es l.2)

-- ---- lists

kept_has : {A B : Type 0} (Q : B → Type 0) (f : A → B) (b : Bool) (x : A) (rest : List A) → AllByRecursion Q (map f (cond b (x ∷ rest) rest)) → AllByRecursion Q (map f rest)
kept_has Q f true x rest a = a.1
kept_has Q f false x rest a = a

in_filter : {A B : Type 0} (Q : B → Type 0) (f : A → B) (test : A → Bool) (xs : List A) (i : ℕ) (x : A) → slice_get xs i ≡ Some x → test x ≡ true → AllByRecursion Q (map f (filter test xs)) → Q (f x)
in_filter Q f test [] i x e t a = absurd cc
in_filter Q f test (y ∷ ys) zero x e t a =
    let same : y ≡ x = cc in
    let passes : test y ≡ true = ap test same ∙ t in
    let there : AllByRecursion Q (map f (y ∷ filter test ys)) = rw passes at a in
    subst (λ z. Q (f z)) same there.0
in_filter Q f test (y ∷ ys) (suc i) x e t a = in_filter Q f test ys i x e t (kept_has Q f (test y) y (filter test ys) a)

from_index : {A : Type 0} (P : A → Type 0) (xs : List A) → ((i : ℕ) (x : A) → slice_get xs i ≡ Some x → P x) → AllByRecursion P xs
from_index P [] h = tt
from_index P (x ∷ xs) h = (h 0 x refl, from_index P xs (λ i y e. h (suc i) y e))

at_index : {A : Type 0} (P : A → Type 0) (xs : List A) (i : ℕ) (x : A) → AllByRecursion P xs → slice_get xs i ≡ Some x → P x
at_index P [] i x a e = absurd cc
at_index P (y ∷ ys) zero x a e = let same : y ≡ x = cc in subst P same a.0
at_index P (y ∷ ys) (suc i) x a e = at_index P ys i x a.1 e

-- ---- histories

abbrev IsFineEntry : Entry → Type 0
IsFineEntry e = IsFine (event_of e)

kept_fine : (b : Bool) (e : Entry) (es : List Entry) → IsFineEntry e → AllByRecursion IsFineEntry es → AllByRecursion IsFineEntry (cond b (e ∷ es) es)
kept_fine true e es p a = (p, a)
kept_fine false e es p a = a

part_fine : (s : ℕ) (h : List Event) → AllByRecursion IsFineEntry (steps_of h) → AllByRecursion IsFineEntry (part s h)
part_fine s [] a = tt
part_fine s (Opened shards passes keeping ∷ h) a = part_fine s h a
part_fine s (Draw pass number ∷ h) a = part_fine s h a
part_fine s (Step shard entry ∷ h) a = kept_fine (s == shard) entry (part s h) a.0 (part_fine s h a.1)

entry_fine : (shards s : ℕ) (h : List Event) (i : ℕ) (e : Entry) → IsLegalHistory shards h → slice_get (part s h) i ≡ Some e → IsFineEntry e
entry_fine shards s h i e legal at =
    let all : AllByRecursion IsFineEntry (steps_of h) = from_index IsFineEntry (steps_of h) (λ j x there.
    in_filter IsFine event_of (λ y. bytes_eq y.key x.key) (steps_of h) j x there ((bytes_eq-Decides x.key x.key).1 refl) (legal_fine empty (map event_of (key_part x.key (steps_of h))) (legal.keys x.key))) in
    at_index IsFineEntry (part s h) i e (part_fine s h all) at

-- ---- scans

is_a_visit : (o : Option (List ℕ × Access)) (f : Access → Call) (key : List ℕ) (call : Call) → option_map {U = List ℕ × Call} (λ k. (k.0, f k.1)) o ≡ Some (key, call) → (access : Access) × (call ≡ f access)
is_a_visit None f key call e = absurd cc
is_a_visit (Some k) f key call e = (k.1, sym (pair_same k.0 key (f k.1) call e).1)

pub visits_fine : (asked : Asked) (max_waits : ℕ) (p : Progress) (xs : List runs.Step) (q : Progress) (shards : ℕ) (old new : PassState) → IsLegalHistory shards new.seen → Visits asked max_waits p xs q → AllByRecursion (Stands old new) xs → AllByRecursion (λ x. IsVisitReply x.answer.reply) xs
visits_fine asked max_waits p [] q shards old new legal v s = tt
visits_fine asked max_waits p (x ∷ xs) q shards old new legal v s =
    let due = guarded (may_visit (length asked.keys) max_waits p) _ _ v.0 in
    let visit = is_a_visit (slice_get asked.keys p.index) (visit_call asked p) x.key x.call due.1 in
    let fine = entry_fine shards (shard_at old x) new.seen x.answer.at s.0.entry legal s.0.at in (
      subst IsVisitReply s.0.reply_is (fine (record { number = asked.number; wait = p.waits + 1 }) asked.txn asked.ts visit.0 asked.longest (s.0.call_is ∙ visit.1)),
      visits_fine asked max_waits (met p x.answer.reply) xs q shards old new legal v.1 s.1,
    )

pub proceed_has_passed_each : ProceedHasPassedEach
proceed_has_passed_each max_waits old new shards legal at_start free held =
    let from : IsScanFrom old.walk.asked max_waits old.walk.progress held.steps (Ok Proceed) new.walk = begins_free max_waits old.walk held.word held.steps (Ok Proceed) new.walk free held.scan in
    let stand = (all_stand held.read new.pass held.steps held.reported).1 in
    let fine = visits_fine old.walk.asked max_waits old.walk.progress held.steps from.last shards held.read new.pass legal from.visits stand in
    let passed = proceeds_after_all max_waits old.walk held.word held.steps new.walk at_start free fine held.scan in
    record { keys = passed.0; answered = from.answers; passed = passed.1 }
