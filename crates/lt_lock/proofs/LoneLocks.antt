-- The table with one lock, for which nobody waits: its records, and one step of each call.
use Rattle.std.proofs.Common.{◌≡◌, ◌≢◌, ◌≤◌, ℕ, Bool, true, false, not, is_some, List, [], ◌∷◌, Option, Some, None, unwrap_or, refl, sym, ap, ◌∙◌, IsSome, IfSome, subst, arith, inl, inr}
use mathlib.Core.Bool.{true≢false}
use Rattle.std.specs.Str.{bytes_eq}
use Rattle.std.proofs.lemmas.Slice.Eq.{bytes_eq-Decides}
use Rattle.std.specs.Cmp.{eq_by_cmp_equiv}
use Rattle.std.specs.Cmp.Lexicographic.{nat_list_cmp_total}
use Rattle.std.specs.FinMap as finmap
use Rattle.std.specs.FinMap.{get, get-empty, get-from_entries}
use Rattle.lt_ids.specs.declared.ticket.Through.{Through}
use Rattle.lt_rules.specs.declared.queued.Holder.{Holder}
use Rattle.lt_rules.specs.declared.call.Call.{Call}
use Rattle.lt_rules.specs.declared.call.Call.TheVariants.{Visit, Acquire, Update, Finish, Leave, Look}
use Rattle.lt_rules.specs.declared.call.Reply.{Reply}
use Rattle.lt_rules.specs.declared.call.Reply.TheVariants.{Nothing}
use Rattle.lt_rules.specs.Rules.{Record, empty, is_empty, Outcome, IsOutcome, NeedsNoMemory, TakesNoMemory, unchanged}
use Rattle.lt_rules.specs.Step.{step, look}
use Rattle.lt_rules.specs.Memory.{how_many, MayLack, HasRoom}
use Rattle.lt_rules.proofs.Rising.{keys-from_entries}
use Rattle.std.specs.List.Sorted.{IsStrictlySortedBy}
use Rattle.lt_rules.specs.Visit.{pass}
use Rattle.lt_rules.specs.Table.{Records, record_at, AreSound, IsKept, IsStep}
use Rattle.lt_rules.specs.Lawful.{IsLawful}
use Rattle.lt_rules.proofs.Lawfulness.{step_keeps_lawful, empty_is_lawful}
use Rattle.lt_rules.proofs.Maps.{order, same_records, same_or_apart, is_apart}
use Rattle.lt_lock.specs.declared.lone.LoneLock.{LoneLock}
use Rattle.lt_lock.specs.Lone.{held, with_lone, IsWithLone, MustQueue, NeedsRows}

-- the records of a table in which one key has a record
abbrev pub one : List ℕ → Record → Records
one k r = finmap.from_entries ((k, r) ∷ [])

pub get_here : (k : List ℕ) (r : Record) → get (one k r) k ≡ Some r
get_here k r = get-from_entries nat_list_cmp_total ((k, r) ∷ []) k ∙ rw ((eq_by_cmp_equiv nat_list_cmp_total).refl k) refl

pub get_other : (k : List ℕ) (r : Record) (q : List ℕ) → q ≢ k → get (one k r) q ≡ None
get_other k r q apart = get-from_entries nat_list_cmp_total ((k, r) ∷ []) q ∙ rw (is_apart k q (λ e. apart (sym e))) refl

pub record_here : (k : List ℕ) (r : Record) → record_at (one k r) k ≡ r
record_here k r = ap (λ o. unwrap_or o empty) (get_here k r)

pub record_other : (k : List ℕ) (r : Record) (q : List ℕ) → q ≢ k → record_at (one k r) q ≡ empty
record_other k r q apart = ap (λ o. unwrap_or o empty) (get_other k r q apart)

pub record_none : (q : List ℕ) → record_at finmap.empty q ≡ empty
record_none q = ap (λ o. unwrap_or o empty) (get-empty order q)

-- a step that changes nothing
pub kept_step : (m : Records) (k : List ℕ) (act : Record → Outcome) (reply : Reply) → act (record_at m k) ≡ unchanged (record_at m k) reply → IsStep m k act reply [] m
kept_step m k act reply same = record {
  replied = sym (ap (λ o. o.reply) same);
  let_through = sym (ap (λ o. o.lets) same);
  here = sym (ap (λ o. o.after) same);
  others = λ q apart. refl;
}

-- the same at a key without a record, and at the key of the only record
pub kept_step_none : (m : Records) (k : List ℕ) (act : Record → Outcome) (reply : Reply) → record_at m k ≡ empty → act empty ≡ unchanged empty reply → IsStep m k act reply [] m
kept_step_none m k act reply none same = kept_step m k act reply (rw none same)

-- The only record changes, goes, or comes.
module _ (k : List ℕ) (act : Record → Outcome) (reply : Reply) where
  pub changed_step : (r s : Record) → IsOutcome (act r) s reply [] → IsStep (one k r) k act reply [] (one k s)
  changed_step r s o = record {
    replied = rw (record_here k r) o.replied;
    let_through = rw (record_here k r) o.let_through;
    here = record_here k s ∙ rw (record_here k r) o.moved;
    others = λ q apart. get_other k s q apart ∙ sym (get_other k r q apart);
  }

  pub freed_step : (r : Record) → IsOutcome (act r) empty reply [] → IsStep (one k r) k act reply [] finmap.empty
  freed_step r o = record {
    replied = rw (record_here k r) o.replied;
    let_through = rw (record_here k r) o.let_through;
    here = record_none k ∙ rw (record_here k r) o.moved;
    others = λ q apart. get-empty order q ∙ sym (get_other k r q apart);
  }

  pub locked_step : (s : Record) → IsOutcome (act empty) s reply [] → IsStep finmap.empty k act reply [] (one k s)
  locked_step s o = record {
    replied = rw (record_none k) o.replied;
    let_through = rw (record_none k) o.let_through;
    here = record_here k s ∙ rw (record_none k) o.moved;
    others = λ q apart. get_other k s q apart ∙ sym (get-empty order q);
  }

some_of : (o : Option Record) (r : Record) → unwrap_or o empty ≡ r → is_empty r ≡ false → o ≡ Some r
some_of None r e filled = absurd (true≢false (ap is_empty e ∙ filled))
some_of (Some x) r e filled = ap Some e

-- after the first step of a table without records, its key has the only record
pub is_one : (m : Records) (k : List ℕ) (act : Record → Outcome) (reply : Reply) (lets : List Through) (r : Record) → IsStep finmap.empty k act reply lets m → (act empty).after ≡ r → is_empty r ≡ false → m ≡ one k r
is_one m k act reply lets r step after filled = same_records m (one k r) (λ q. elim (same_or_apart q k) [
  | inl s ↦ ap (get m) s.0 ∙ some_of (get m k) r (step.here ∙ ap (λ x. (act x).after) (record_none k) ∙ after) filled ∙ sym (get_here k r) ∙ ap (get (one k r)) (sym s.0)
  | inr d ↦ step.others q d.0 ∙ get-empty order q ∙ sym (get_other k r q d.0)
])

-- a lock that nobody waits for has a lawful record
pub held_lawful : (h : Holder) → IsLawful (held h)
held_lawful h = step_keeps_lawful empty 0 (Acquire h.txn h.ts) empty_is_lawful

sound_one : (k : List ℕ) (h : Holder) → AreSound (one k (held h))
sound_one k h q = elim (same_or_apart q k) [
  | inl s ↦ subst (λ o. IfSome o IsKept) (sym (ap (get (one k (held h))) s.0 ∙ get_here k (held h))) (record { filled = refl; lawful = held_lawful h })
  | inr d ↦ subst (λ o. IfSome o IsKept) (sym (get_other k (held h) q d.0)) tt
]

pub sound_with : (lone : Option LoneLock) (records : Records) → IsWithLone lone records → AreSound (with_lone lone records)
sound_with None records w = w.sound
sound_with (Some l) records w = sound_one l.key l.holder

-- the outcome of a test of two keys
pub same_key : (b : Bool) (a k : List ℕ) → b ≡ not (bytes_eq a k) → b ≡ false → a ≡ k
same_key b a k test e = (bytes_eq-Decides a k).0 (turn (bytes_eq a k) (sym test ∙ e))
  where
    turn : (x : Bool) → not x ≡ false → x ≡ true
    turn true e = refl
    turn false e = absurd (true≢false e)

-- the outcome of the opposite test
pub turn : (b : Bool) → not b ≡ true → b ≡ false
turn false e = refl
turn true e = absurd (true≢false (sym e))

other_key : (a k : List ℕ) → bytes_eq a k ≡ false → k ≢ a
other_key a k e s = true≢false (sym ((bytes_eq-Decides a k).1 (sym s)) ∙ e)

-- a statement on the record of any key, if it holds of the lone lock's and of the empty one
lone_record : (l : LoneLock) (key : List ℕ) (P : Record → Type 0) → (bytes_eq l.key key ≡ true → P (held l.holder)) → (bytes_eq l.key key ≡ false → P empty) → P (record_at (one l.key (held l.holder)) key)
lone_record l key P here other = elim (bytes_eq l.key key) as (λ b. bytes_eq l.key key ≡ b → P (record_at (one l.key (held l.holder)) key)) [
  | true ↦ λ e. subst P (sym (subst (λ k. record_at (one l.key (held l.holder)) k ≡ held l.holder) ((bytes_eq-Decides l.key key).0 e) (record_here l.key (held l.holder)))) (here e)
  | false ↦ λ e. subst P (sym (record_other l.key (held l.holder) key (other_key l.key key e))) (other e)
] refl

pub look_lone : (lone : Option LoneLock) (records : Records) (key : List ℕ) (n : ℕ) → is_some lone ≡ true → Nothing ≡ look (record_at (with_lone lone records) key) n
look_lone None records key n some = absurd (true≢false (sym some))
look_lone (Some l) records key n some = lone_record l key (λ r. Nothing ≡ look r n) (λ here. refl) (λ other. refl)

-- the record at the lone lock's key, and at another key
pub record_lone : (l : LoneLock) (key : List ℕ) → bytes_eq l.key key ≡ true → held l.holder ≡ record_at (one l.key (held l.holder)) key
record_lone l key e = lone_record l key (λ r. held l.holder ≡ r) (λ here. refl) (λ other. absurd (true≢false (sym e ∙ other)))

pub record_apart : (l : LoneLock) (key : List ℕ) → bytes_eq l.key key ≡ false → empty ≡ record_at (one l.key (held l.holder)) key
record_apart l key e = lone_record l key (λ r. empty ≡ r) (λ here. absurd (true≢false (sym here ∙ e))) (λ other. refl)

pub keys_one : (k : List ℕ) (r : Record) → finmap.keys (one k r) ≡ k ∷ []
unfolding IsStrictlySortedBy
keys_one k r = keys-from_entries ((k, r) ∷ []) (tt, tt)

pub some_unless : {A : Type 0} (o : Option A) → (o ≡ None → ⊥) → IsSome o
some_unless None not_none = absurd (not_none refl)
some_unless (Some x) not_none = refl

-- ---- the calls that need a row

-- a call that has to queue at this record
queueing : (r : Record) (call : Call) → MustQueue r call → ((pass : ℕ) → TakesNoMemory r (step r pass call) → ⊥) × ((room : ℕ) → MayLack r call room)
queueing r (Visit ticket txn ts access longest) must = (
  λ pass t. subst (λ reply. NeedsNoMemory reply (r.reservation ≡ (step r pass (Visit ticket txn ts access longest)).after.reservation)) (must pass) t,
  λ room. tt,
)
queueing r (Acquire txn ts) must = absurd must
queueing r (Update txn ts) must = absurd must
queueing r (Finish txn) must = absurd must
queueing r (Leave number) must = absurd must
queueing r (Look number) must = absurd must

-- an acquire of a key that has no record
pub taking : (h : Holder) (call : Call) → call ≡ Acquire h.txn h.ts → ((pass : ℕ) → TakesNoMemory empty (step empty pass call) → ⊥) × ((room : ℕ) → MayLack empty call room)
taking h call is = rw is (λ pass t. t, λ room. inl refl)

pub lone_queues : (l : LoneLock) (key : List ℕ) (call : Call) → l.key ≡ key → MustQueue (held l.holder) call → NeedsRows (Some l) key call
lone_queues l key call here must some = subst (λ k. ((pass : ℕ) → TakesNoMemory (record_at (one l.key (held l.holder)) k) (step (record_at (one l.key (held l.holder)) k) pass call) → ⊥) × ((room : ℕ) → MayLack (record_at (one l.key (held l.holder)) k) call room)) here
    (subst (λ r. ((pass : ℕ) → TakesNoMemory r (step r pass call) → ⊥) × ((room : ℕ) → MayLack r call room)) (sym (record_here l.key (held l.holder))) (queueing (held l.holder) call must))

pub lone_takes : (l : LoneLock) (key : List ℕ) (call : Call) (h : Holder) → bytes_eq l.key key ≡ false → call ≡ Acquire h.txn h.ts → NeedsRows (Some l) key call
lone_takes l key call h other is some =
    subst (λ r. ((pass : ℕ) → TakesNoMemory r (step r pass call) → ⊥) × ((room : ℕ) → MayLack r call room)) (record_apart l key other) (taking h call is)

-- ---- room for lets

-- nobody is queued while there is a lone lock
pub lone_writers : (lone : Option LoneLock) (records : Records) (key : List ℕ) → is_some lone ≡ true → (record_at (with_lone lone records) key).writers ≡ []
lone_writers None records key some = absurd (true≢false (sym some))
lone_writers (Some l) records key some = lone_record l key (λ r. r.writers ≡ []) (λ here. refl) (λ other. refl)

pub lone_readers : (lone : Option LoneLock) (records : Records) (key : List ℕ) → is_some lone ≡ true → (record_at (with_lone lone records) key).readers ≡ []
lone_readers None records key some = absurd (true≢false (sym some))
lone_readers (Some l) records key some = lone_record l key (λ r. r.readers ≡ []) (λ here. refl) (λ other. refl)

-- a call that answers at a key without a record, and is made at another key than the lone lock's
pub answered_elsewhere : (l : LoneLock) (key : List ℕ) (call : Call) (reply : Reply) → bytes_eq l.key key ≡ false → ((pass : ℕ) → step empty pass call ≡ unchanged empty reply) → (pass : ℕ) → IsStep (one l.key (held l.holder)) key (λ r. step r pass call) reply [] (one l.key (held l.holder))
answered_elsewhere l key call reply other answers pass = kept_step_none (one l.key (held l.holder)) key (λ r. step r pass call) reply (sym (record_apart l key other)) (answers pass)

-- nobody waits in a table without rows
pub nobody_waits : (lone : Option LoneLock) (room : ℕ) → HasRoom (with_lone lone finmap.empty) room
nobody_waits None room q = subst (λ r. how_many r ≤ room) (sym (record_none q)) (omega arith)
nobody_waits (Some l) room q = lone_record l q (λ r. how_many r ≤ room) (λ here. omega arith) (λ other. omega arith)
