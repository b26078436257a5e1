-- Properties of each request at a key, and of each let.
use Rattle.std.proofs.Common.{◌≡◌, ℕ, Bool, true, false, cond, suc, not, List, [], ◌∷◌, ◌++◌, map, filter, take, Option, Some, None, IfSome, refl, sym, subst, nat_eq}
use Rattle.std.specs.List.{AllByRecursion, find}
use Rattle.std.specs.Option.{option_map}
use Rattle.std.specs.Ordering.{nat_cmp}
use Rattle.lt_ids.specs.declared.timestamp.Timestamp.{Timestamp}
use Rattle.lt_ids.specs.declared.ticket.Through.{Through}
use Rattle.lt_ids.specs.declared.request.Access.{Access}
use Rattle.lt_ids.specs.declared.request.Access.TheVariants.{Read, Write}
use Rattle.lt_ids.specs.Ids.{is_below}
use Rattle.lt_rules.specs.declared.queued.Holder.{Holder}
use Rattle.lt_rules.specs.declared.queued.QueuedRequest.{QueuedRequest}
use Rattle.lt_rules.specs.declared.queued.QueuedWriter.{QueuedWriter}
use Rattle.lt_rules.specs.declared.call.Call.{Call}
use Rattle.lt_rules.specs.declared.call.Call.TheVariants.{Visit, Acquire, Update, Finish, Leave, Look}
use Rattle.lt_rules.specs.declared.call.Reply.{Reply}
use Rattle.lt_rules.specs.declared.call.Reply.TheVariants.{Freed, Left}
use Rattle.lt_rules.specs.Rules.{Record, number_of, writer_number, through_of, is_txn, has_txn, Outcome, unchanged, free, raise_to, take_lock, set_back, is_of, active_requests, acquire_from, update_from, finish_from, leave, is_reserved_by, is_waiting, stop_reading, leading}
use Rattle.lt_rules.specs.Visit.{visit_lock, is_queued, wait_to_write, join_writers}
use Rattle.lt_rules.specs.Step.{step, is_visit}
use Rattle.lt_rules.specs.Laws.{AreOf}
use Rattle.lt_rules.proofs.Cases.{all_weaker, all_map, all_append, all_take, all_drop}
use Rattle.lt_rules.proofs.Holders.{either, one_of_three, joined, displaced}
use Rattle.lt_rules.proofs.Orderly.{all_filter, enqueue_all}

-- it holds of each request at the key
pub record Each (Of : QueuedRequest → Type 0) (r : Record) : Type 0 where
  pub reservation : IfSome r.reservation Of
  pub writers : AllByRecursion (λ w. Of w.request) r.writers
  pub readers : AllByRecursion Of r.readers

-- the request that this call by this pass brings to the key
abbrev pub IsOfCall : ℕ → Call → QueuedRequest → Type 0
IsOfCall pass (Visit ticket txn ts access longest) q = (q.pass ≡ pass) × (q.txn ≡ txn)
IsOfCall pass _ q = ⊥

-- A property that each request at the key and the visiting request have, and that a let has if its request does,
-- holds after a step too.
module _ (Of : QueuedRequest → Type 0) (Lets : Through → Type 0) (goes : (q : QueuedRequest) → Of q → Lets (through_of q)) where
  abbrev OfWriter : QueuedWriter → Type 0
  OfWriter w = Of w.request

  -- it holds of each request and each let of the outcome
  abbrev KeepsTo : Outcome → Type 0
  KeepsTo o = Each Of o.after × AllByRecursion Lets o.lets

  all_active : (ws : List QueuedWriter) → AllByRecursion OfWriter ws → AllByRecursion Of (active_requests ws)
  all_active ws a = all_map Of (λ w. w.request) (filter (λ w. w.active) ws) (all_filter OfWriter (λ w. w.active) ws a)

  all_let : (qs : List QueuedRequest) → AllByRecursion Of qs → AllByRecursion Lets (map through_of qs)
  all_let qs a = all_map Lets through_of qs (all_weaker Of (λ q. Lets (through_of q)) goes qs a)

  next_of : (ws : List QueuedWriter) → AllByRecursion OfWriter ws → IfSome (option_map (λ w. w.request) (find has_txn ws)) Of
  next_of [] a = tt
  next_of (w ∷ ws) a = elim (has_txn w) as (λ b. IfSome (option_map (λ v. v.request) (cond b (Some w) (find has_txn ws))) Of) [
    | true ↦ a.0
    | false ↦ next_of ws a.1
  ]

  back_of : (s : Option QueuedRequest) → IfSome s Of → AllByRecursion OfWriter (set_back s)
  back_of None a = tt
  back_of (Some q) a = (a, tt)

  nobody : (r : Record) (reply : Reply) → Each Of r → KeepsTo (unchanged r reply)
  nobody r reply a = (a, tt)

  freed : (r : Record) (reply : Reply) → Each Of r → KeepsTo (free r reply)
  freed r reply a = (
    record { reservation = next_of r.writers a.writers; writers = all_drop OfWriter (suc (leading r.writers)) r.writers a.writers; readers = tt },
    let gone = take (suc (leading r.writers)) r.writers in
        all_let (r.readers ++ active_requests gone) (all_append Of r.readers (active_requests gone) a.readers (all_active gone (all_take OfWriter (suc (leading r.writers)) r.writers a.writers))),
  )

  raised : (r : Record) (h : Holder) (ts : Timestamp) → Each Of r → KeepsTo (raise_to r h ts)
  raised r h ts a = (
    record { reservation = a.reservation; writers = a.writers; readers = all_filter Of (λ q. not (is_below q.ts ts)) r.readers a.readers },
    all_let (filter (λ q. is_below q.ts ts) r.readers) (all_filter Of (λ q. is_below q.ts ts) r.readers a.readers),
  )

  taken : (r : Record) (h : Holder) → Each Of r → KeepsTo (take_lock r h)
  taken r h a = (
    record {
      reservation = tt;
      writers = all_filter OfWriter (λ w. not (is_of h.txn w)) (set_back r.reservation ++ r.writers) (all_append OfWriter (set_back r.reservation) r.writers (back_of r.reservation a.reservation) a.writers);
      readers = a.readers;
    },
    all_let (active_requests (filter (is_of h.txn) r.writers)) (all_active (filter (is_of h.txn) r.writers) (all_filter OfWriter (is_of h.txn) r.writers a.writers)),
  )

  acquired : (r : Record) (holder : Option Holder) (h : Holder) → Each Of r → KeepsTo (acquire_from holder r h)
  acquired r None h a = taken r h a
  acquired r (Some k) h a = either KeepsTo (nat_eq k.txn h.txn) _ _ (either KeepsTo (is_below k.ts h.ts) _ _ (raised r k h.ts a) (a, tt)) (a, tt)

  updated : (r : Record) (holder : Option Holder) (txn : ℕ) (ts : Timestamp) → Each Of r → KeepsTo (update_from holder r txn ts)
  updated r None txn ts a = (a, tt)
  updated r (Some k) txn ts a = either KeepsTo (nat_eq k.txn txn) _ _ (either KeepsTo (is_below k.ts ts) _ _ (raised r k ts a) (a, tt)) (a, tt)

  finished : (r : Record) (holder : Option Holder) (txn : ℕ) → Each Of r → KeepsTo (finish_from holder r txn)
  finished r None txn a = (a, tt)
  finished r (Some k) txn a = either KeepsTo (nat_eq k.txn txn) _ _ (freed (record r { holder = None }) Freed (record { reservation = a.reservation; writers = a.writers; readers = a.readers })) (a, tt)

  left : (r : Record) (n : ℕ) → Each Of r → KeepsTo (leave r n)
  left r n a =
      either KeepsTo (is_reserved_by r.reservation n) _ _ (freed (record r { reservation = None }) Left (record { reservation = tt; writers = a.writers; readers = a.readers }))
      (either KeepsTo (is_waiting r n) _ _
      (record { reservation = a.reservation; writers = all_filter OfWriter (λ w. not (nat_eq (writer_number w) n)) r.writers a.writers; readers = all_filter Of (λ q. not (nat_eq (number_of q) n)) r.readers a.readers }, tt) (a, tt))

  queued : (r : Record) (q : QueuedRequest) → Each Of r → Of q → KeepsTo (wait_to_write r q)
  queued r q a of = (record { reservation = a.reservation; writers = enqueue_all OfWriter r.writers q a.writers of; readers = a.readers }, tt)

  joins : (r : Record) (q : QueuedRequest) (longest : ℕ) → Each Of r → Of q → KeepsTo (join_writers r q longest)
  joins r q longest a of = joined KeepsTo r q longest (a, tt) (queued r q a of)

  visited : (holder : Option Holder) (s : Option QueuedRequest) (r : Record) (q : QueuedRequest) (longest : ℕ) (access : Access) → Each Of r → IfSome s Of → Of q → KeepsTo (visit_lock holder s r q longest access)
  visited None None r q longest access a b of = (a, tt)
  visited None (Some s) r q longest Read a b of = (a, tt)
  visited None (Some s) r q longest Write a b of = one_of_three KeepsTo (nat_cmp (number_of q) (number_of s)) _ _ _ (displaced q.txn KeepsTo r s q (a, tt) (record { reservation = of; writers = (b, a.writers); readers = a.readers }, tt)) (a, tt) (joins r q longest a of)
  visited (Some h) s r q longest Read a b of =
      either KeepsTo (is_txn q.txn h.txn) _ _ (a, tt)
      (either KeepsTo (is_below q.ts h.ts) _ _ (a, tt)
      (either KeepsTo (is_queued r.writers (number_of q)) _ _ (queued r q a of) (record { reservation = a.reservation; writers = a.writers; readers = (of, a.readers) }, tt)))
  visited (Some h) s r q longest Write a b of = either KeepsTo (is_txn q.txn h.txn) _ _ (a, tt) (joins r q longest a of)

  pub step_keeps : (r : Record) (pass : ℕ) (call : Call) → ((q : QueuedRequest) → IsOfCall pass call q → Of q) → Each Of r → KeepsTo (step r pass call)
  step_keeps r pass (Visit ticket txn ts access longest) of a =
      let q : QueuedRequest = record { ticket = ticket; txn = txn; ts = ts; pass = pass } in
      let stopped : Each Of (stop_reading r ticket.number) = record { reservation = a.reservation; writers = a.writers; readers = all_filter Of (λ x. not (nat_eq (number_of x) ticket.number)) r.readers a.readers } in
      let v = visited r.holder r.reservation (stop_reading r ticket.number) q longest access stopped a.reservation (of q (refl, refl)) in
      (record { reservation = v.0.reservation; writers = v.0.writers; readers = v.0.readers }, v.1)
  step_keeps r pass (Acquire txn ts) of a = acquired r r.holder (record { txn = txn; ts = ts }) a
  step_keeps r pass (Update txn ts) of a = updated r r.holder txn ts a
  step_keeps r pass (Finish txn) of a = finished r r.holder txn a
  step_keeps r pass (Leave number) of a = left r number a
  step_keeps r pass (Look number) of a = (a, tt)

pass_of_call : (pass : ℕ) (call : Call) (q : QueuedRequest) → IsOfCall pass call q → q.pass ≡ pass
pass_of_call pass (Visit ticket txn ts access longest) q is = is.0
pass_of_call pass (Acquire txn ts) q is = absurd is
pass_of_call pass (Update txn ts) q is = absurd is
pass_of_call pass (Finish txn) q is = absurd is
pass_of_call pass (Leave number) q is = absurd is
pass_of_call pass (Look number) q is = absurd is

visit_of_call : (pass : ℕ) (call : Call) (q : QueuedRequest) → IsOfCall pass call q → is_visit call ≡ true
visit_of_call pass (Visit ticket txn ts access longest) q is = refl
visit_of_call pass (Acquire txn ts) q is = absurd is
visit_of_call pass (Update txn ts) q is = absurd is
visit_of_call pass (Finish txn) q is = absurd is
visit_of_call pass (Leave number) q is = absurd is
visit_of_call pass (Look number) q is = absurd is

pub passes_are_of_visits : (p : ℕ → Bool) (r : Record) (pass : ℕ) (call : Call) → (is_visit call ≡ true → p pass ≡ true) → AreOf p r → AreOf p (step r pass call).after × AllByRecursion (λ t. p t.pass ≡ true) (step r pass call).lets
passes_are_of_visits p r pass call of a =
    let after = step_keeps (λ q. p q.pass ≡ true) (λ t. p t.pass ≡ true) (λ q e. e) r pass call (λ q is. subst (λ n. p n ≡ true) (sym (pass_of_call pass call q is)) (of (visit_of_call pass call q is))) (record { reservation = a.reservation; writers = a.writers; readers = a.readers }) in
    (record { reservation = after.0.reservation; writers = after.0.writers; readers = after.0.readers }, after.1)
