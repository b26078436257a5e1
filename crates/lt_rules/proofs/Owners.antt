-- A reservation has a transaction, and a writer without one is active: each step keeps this so.
use Rattle.std.proofs.Common.{◌≡◌, ℕ, true, false, cond, suc, not, List, [], ◌∷◌, ◌++◌, filter, Option, Some, None, IsSome, IfSome, refl, nat_eq}
use Rattle.std.specs.List.{AllByRecursion, find}
use Rattle.std.specs.Option.{option_map}
use Rattle.std.specs.Ordering.{nat_cmp}
use Rattle.lt_ids.specs.declared.timestamp.Timestamp.{Timestamp}
use Rattle.lt_ids.specs.declared.request.Access.{Access}
use Rattle.lt_ids.specs.declared.request.Access.TheVariants.{Read, Write}
use Rattle.lt_ids.specs.Ids.{is_below}
use Rattle.lt_rules.specs.declared.queued.Holder.{Holder}
use Rattle.lt_rules.specs.declared.queued.QueuedRequest.{QueuedRequest}
use Rattle.lt_rules.specs.declared.queued.QueuedWriter.{QueuedWriter}
use Rattle.lt_rules.specs.declared.call.Call.{Call}
use Rattle.lt_rules.specs.declared.call.Call.TheVariants.{Visit, Acquire, Update, Finish, Leave, Look}
use Rattle.lt_rules.specs.declared.call.Reply.{Reply}
use Rattle.lt_rules.specs.declared.call.Reply.TheVariants.{Freed, Left}
use Rattle.lt_rules.specs.Rules.{Record, number_of, writer_number, is_txn, has_txn, Outcome, free, raise_to, take_lock, set_back, is_of, acquire_from, update_from, finish_from, leave, is_reserved_by, is_waiting, leading}
use Rattle.lt_rules.specs.Visit.{visit_lock, is_queued, displace, pass, wait_to_write}
use Rattle.lt_rules.specs.Step.{step}
use Rattle.lt_rules.proofs.Cases.{AreOwned, IsAwake, all_append, all_drop}
use Rattle.lt_rules.proofs.Holders.{either, one_of_three, joined}
use Rattle.lt_rules.proofs.Orderly.{all_filter, enqueue_all}

abbrev Keeps : Outcome → Type 0
Keeps o = AreOwned o.after

-- the first writer with a transaction has one
next_has : (ws : List QueuedWriter) → IfSome (option_map (λ w. w.request) (find has_txn ws)) (λ s. IsSome s.txn)
next_has [] = tt
next_has (w ∷ ws) = elim (has_txn w) as (λ b. has_txn w ≡ b → IfSome (option_map (λ v. v.request) (cond b (Some w) (find has_txn ws))) (λ s. IsSome s.txn)) [
  | true ↦ λ e. e
  | false ↦ λ e. next_has ws
] refl

-- a reservation that is set back has a transaction, so it may be inactive
back_awake : (s : Option QueuedRequest) → IfSome s (λ q. IsSome q.txn) → AllByRecursion IsAwake (set_back s)
back_awake None o = tt
back_awake (Some q) o = ((λ e. cc), tt)

freed : (r : Record) (reply : Reply) → AllByRecursion IsAwake r.writers → Keeps (free r reply)
freed r reply a = record { reservation = next_has r.writers; writers = all_drop IsAwake (suc (leading r.writers)) r.writers a }

raised : (r : Record) (h : Holder) (ts : Timestamp) → AreOwned r → Keeps (raise_to r h ts)
raised r h ts o = record { reservation = o.reservation; writers = o.writers }

taken : (r : Record) (h : Holder) → AreOwned r → Keeps (take_lock r h)
taken r h o = record {
  reservation = tt;
  writers = all_filter IsAwake (λ w. not (is_of h.txn w)) (set_back r.reservation ++ r.writers) (all_append IsAwake (set_back r.reservation) r.writers (back_awake r.reservation o.reservation) o.writers);
}

acquired : (r : Record) (holder : Option Holder) (h : Holder) → AreOwned r → Keeps (acquire_from holder r h)
acquired r None h o = taken r h o
acquired r (Some k) h o = either Keeps (nat_eq k.txn h.txn) _ _ (either Keeps (is_below k.ts h.ts) _ _ (raised r k h.ts o) o) o

updated : (r : Record) (holder : Option Holder) (txn : ℕ) (ts : Timestamp) → AreOwned r → Keeps (update_from holder r txn ts)
updated r None txn ts o = o
updated r (Some k) txn ts o = either Keeps (nat_eq k.txn txn) _ _ (either Keeps (is_below k.ts ts) _ _ (raised r k ts o) o) o

finished : (r : Record) (holder : Option Holder) (txn : ℕ) → AreOwned r → Keeps (finish_from holder r txn)
finished r None txn o = o
finished r (Some k) txn o = either Keeps (nat_eq k.txn txn) _ _ (freed (record r { holder = None }) Freed o.writers) o

left : (r : Record) (n : ℕ) → AreOwned r → Keeps (leave r n)
left r n o =
    either Keeps (is_reserved_by r.reservation n) _ _ (freed (record r { reservation = None }) Left o.writers)
    (either Keeps (is_waiting r n) _ _
    (record { reservation = o.reservation; writers = all_filter IsAwake (λ w. not (nat_eq (writer_number w) n)) r.writers o.writers }) o)

queued : (r : Record) (q : QueuedRequest) → AreOwned r → Keeps (wait_to_write r q)
queued r q o = record { reservation = o.reservation; writers = enqueue_all IsAwake r.writers q o.writers (λ e. refl) }

displaces : (txn : Option ℕ) (r : Record) (s q : QueuedRequest) → q.txn ≡ txn → IsSome s.txn → AreOwned r → Keeps (displace txn r s q)
displaces None r s q own has o = o
displaces (Some t) r s q own has o = record { reservation = rw own refl; writers = ((λ e. cc), o.writers) }

visited : (holder : Option Holder) (s : Option QueuedRequest) (r : Record) (q : QueuedRequest) (longest : ℕ) (access : Access) → AreOwned r → IfSome s (λ s. IsSome s.txn) → Keeps (visit_lock holder s r q longest access)
visited None None r q longest access o has = o
visited None (Some s) r q longest Read o has = o
visited None (Some s) r q longest Write o has = one_of_three Keeps (nat_cmp (number_of q) (number_of s)) _ _ _ (displaces q.txn r s q refl has o) o (joined Keeps r q longest o (queued r q o))
visited (Some h) s r q longest Read o has =
    either Keeps (is_txn q.txn h.txn) _ _ o
    (either Keeps (is_below q.ts h.ts) _ _ o
    (either Keeps (is_queued r.writers (number_of q)) _ _ (queued r q o) (record { reservation = o.reservation; writers = o.writers })))
visited (Some h) s r q longest Write o has = either Keeps (is_txn q.txn h.txn) _ _ o (joined Keeps r q longest o (queued r q o))

pub step_owned : (r : Record) (pass : ℕ) (call : Call) → AreOwned r → Keeps (step r pass call)
step_owned r pass (Visit ticket txn ts access longest) o =
    let q : QueuedRequest = record { ticket = ticket; txn = txn; ts = ts; pass = pass } in
    let after = visited r.holder r.reservation (record r { readers = filter (λ x. not (nat_eq (number_of x) ticket.number)) r.readers }) q longest access (record { reservation = o.reservation; writers = o.writers }) o.reservation in
    record { reservation = after.reservation; writers = after.writers }
step_owned r pass (Acquire txn ts) o = acquired r r.holder (record { txn = txn; ts = ts }) o
step_owned r pass (Update txn ts) o = updated r r.holder txn ts o
step_owned r pass (Finish txn) o = finished r r.holder txn o
step_owned r pass (Leave number) o = left r number o
step_owned r pass (Look number) o = o
