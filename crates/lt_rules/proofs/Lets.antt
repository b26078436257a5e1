-- A request that is let through had to wait, and is no longer waiting.
use Rattle.std.proofs.Common.{◌≡◌, ◌≢◌, ◌<◌, ℕ, Bool, true, false, not, cond, zero, suc, List, [], ◌∷◌, ◌++◌, map, filter, take, drop, Option, Some, None, refl, sym, ap, subst, ◌∙◌, arith, nat_eq}
use Rattle.std.specs.List.{AllByRecursion, IsDistinct}
use mathlib.Core.Bool.{true≢false}
use Rattle.std.proofs.lemmas.Bool.Decides.{nat_tests}
use Rattle.std.proofs.lemmas.List.{append_assoc, append-nil}
use Rattle.std.specs.Prelude.{IsNone}
use Rattle.std.specs.Ordering.{nat_cmp}
use Rattle.lt_ids.specs.declared.timestamp.Timestamp.{Timestamp}
use Rattle.lt_ids.specs.Ids.{Wait, is_below}
use Rattle.lt_ids.specs.declared.ticket.Through.{Through}
use Rattle.lt_ids.specs.declared.request.Access.{Access}
use Rattle.lt_ids.specs.declared.request.Access.TheVariants.{Read, Write}
use Rattle.lt_rules.specs.declared.queued.Holder.{Holder}
use Rattle.lt_rules.specs.declared.queued.QueuedRequest.{QueuedRequest}
use Rattle.lt_rules.specs.declared.queued.QueuedWriter.{QueuedWriter}
use Rattle.lt_rules.specs.declared.call.Call.{Call}
use Rattle.lt_rules.specs.declared.call.Call.TheVariants.{Visit, Acquire, Update, Finish, Leave, Look}
use Rattle.lt_rules.specs.declared.call.Reply.{Reply}
use Rattle.lt_rules.specs.declared.call.Reply.TheVariants.{MustWait, Freed, Left, Kept, Other, Absent}
use Rattle.lt_rules.specs.Rules.{Record, empty, number_of, writer_number, through_of, is_txn, Outcome, unchanged, free, raise_to, take_lock, set_back, is_of, active_requests, acquire_from, update_from, finish_from, leave, is_reserved_by, is_waiting, stop_reading, leading}
use Rattle.lt_rules.specs.Visit.{visit, visit_lock, is_queued, enqueue, join_writers}
use Rattle.lt_rules.specs.Step.{Event, step, look, IsLegal, IsLegalFrom, record_after}
use Rattle.lt_rules.specs.Lawful.{IsLawful, Rises}
use Rattle.lt_rules.specs.Laws.{Spares, IsWaiting}
use Rattle.lt_rules.proofs.Cases.{all_weaker, all_map, all_take, all_drop, all_append, all_both, all_flip, Differ, AreApart, distinct_append, distinct_map, same_writer, same_request, differ_distinct, rises_distinct, lawful_differ, lawful_apart}
use Rattle.lt_rules.proofs.Holders.{either, one_of_three, joined, displaced, rest_legal}
use Rattle.lt_rules.proofs.Orderly.{all_filter, enqueue_all}
use Rattle.lt_rules.proofs.Lawfulness.{step_keeps_lawful, empty_is_lawful, lawful}

-- P holds of each waiting request
record EachActive (P : QueuedRequest → Type 0) (r : Record) : Type 0 where
  readers : AllByRecursion P r.readers
  writers : AllByRecursion (λ w. w.active ≡ true → P w.request) r.writers

-- ---- a visit

-- P holds of each waiting request after a visit, if it holds of a visiting request that has to wait
abbrev Waits : (QueuedRequest → Type 0) → QueuedRequest → Outcome → Type 0
Waits P q o = (o.reply ≡ MustWait → P q) → EachActive P o.after

module _ (P : QueuedRequest → Type 0) (r : Record) (q : QueuedRequest) (longest : ℕ) (each : EachActive P r) where
  passes : (reply : Reply) → Waits P q (unchanged r reply)
  passes reply new = each

  queues : (e : MustWait ≡ MustWait) → Waits P q (unchanged (record r { writers = enqueue r.writers q }) MustWait)
  queues e new = record { readers = each.readers; writers = enqueue_all (λ w. w.active ≡ true → P w.request) r.writers q each.writers (λ _. new e) }

  joins : Waits P q (join_writers r q longest)
  joins = joined (Waits P q) r q longest (λ new. each) (queues refl)

  lock_waits : (holder : Option Holder) (s : Option QueuedRequest) (access : Access) → Waits P q (visit_lock holder s r q longest access)
  lock_waits None None access = λ new. each
  lock_waits None (Some s) Read = λ new. each
  lock_waits None (Some s) Write =
      one_of_three (Waits P q) (nat_cmp (number_of q) (number_of s)) _ _ _
      (displaced q.txn (Waits P q) r s q (λ new. each) (λ new. record { readers = each.readers; writers = (λ active. absurd (true≢false (sym active)), each.writers) }))
      (λ new. each)
      joins
  lock_waits (Some h) s Read =
      either (Waits P q) (is_txn q.txn h.txn) _ _ (λ new. each)
      (either (Waits P q) (is_below q.ts h.ts) _ _ (λ new. each)
      (either (Waits P q) (is_queued r.writers (number_of q)) _ _ (queues refl) (λ new. record { readers = (new refl, each.readers); writers = each.writers })))
  lock_waits (Some h) s Write = either (Waits P q) (is_txn q.txn h.txn) _ _ (λ new. each) joins

visit_waits : (P : QueuedRequest → Type 0) (r : Record) (q : QueuedRequest) (longest : ℕ) (access : Access) → EachActive P r → ((visit r q longest access).reply ≡ MustWait → P q) → EachActive P (visit r q longest access).after
visit_waits P r q longest access each new =
    let stopped : EachActive P (stop_reading r (number_of q)) = record { readers = all_filter P (λ x. not (nat_eq (number_of x) (number_of q))) r.readers each.readers; writers = each.writers } in
    let after = lock_waits P (stop_reading r (number_of q)) q longest stopped r.holder r.reservation access new in
    record { readers = after.readers; writers = after.writers }

lock_lets : (holder : Option Holder) (s : Option QueuedRequest) (r : Record) (q : QueuedRequest) (longest : ℕ) (access : Access) → (visit_lock holder s r q longest access).lets ≡ []
lock_lets None None r q longest access = refl
lock_lets None (Some s) r q longest Read = refl
lock_lets None (Some s) r q longest Write = one_of_three (λ o. o.lets ≡ []) (nat_cmp (number_of q) (number_of s)) _ _ _ (displaced q.txn (λ o. o.lets ≡ []) r s q refl refl) refl (joined (λ o. o.lets ≡ []) r q longest refl refl)
lock_lets (Some h) s r q longest Read =
    either (λ o. o.lets ≡ []) (is_txn q.txn h.txn) _ _ refl
    (either (λ o. o.lets ≡ []) (is_below q.ts h.ts) _ _ refl
    (either (λ o. o.lets ≡ []) (is_queued r.writers (number_of q)) _ _ refl refl))
lock_lets (Some h) s r q longest Write = either (λ o. o.lets ≡ []) (is_txn q.txn h.txn) _ _ refl (joined (λ o. o.lets ≡ []) r q longest refl refl)

-- ---- the requests that leave and those that stay

-- No request with this number is let through.
abbrev Misses : List Through → QueuedRequest → Type 0
Misses lets x = AllByRecursion (λ t. nat_eq t.ticket.number (number_of x) ≡ false) lets

-- Each request that the outcome lets through was waiting, none is let through twice, and no request that is still
-- waiting is let through.
record LetsGo (P : QueuedRequest → Type 0) (o : Outcome) : Type 0 where
  from : AllByRecursion (λ t. (x : QueuedRequest) × (t ≡ through_of x) × P x) o.lets
  left : EachActive (λ x. P x × Misses o.lets x) o.after
  once : IsDistinct nat_eq (map (λ t. t.ticket.number) o.lets)

each_weaker : (P Q : QueuedRequest → Type 0) (r : Record) → ((x : QueuedRequest) → P x → Q x) → EachActive P r → EachActive Q r
each_weaker P Q r f e = record {
  readers = all_weaker P Q f r.readers e.readers;
  writers = all_weaker (λ w. w.active ≡ true → P w.request) (λ w. w.active ≡ true → Q w.request) (λ w p active. f w.request (p active)) r.writers e.writers;
}

nobody_goes : (P : QueuedRequest → Type 0) (r : Record) (reply : Reply) → EachActive P r → LetsGo P (unchanged r reply)
unfolding IsDistinct
nobody_goes P r reply e = record { from = tt; left = each_weaker P (λ x. P x × Misses [] x) r (λ x p. (p, tt)) e; once = tt }

through_from : (P : QueuedRequest → Type 0) (xs : List QueuedRequest) → AllByRecursion P xs → AllByRecursion (λ t. (x : QueuedRequest) × (t ≡ through_of x) × P x) (map through_of xs)
through_from P xs a = all_map (λ t. (x : QueuedRequest) × (t ≡ through_of x) × P x) through_of xs (all_weaker P (λ y. (x : QueuedRequest) × (through_of y ≡ through_of x) × P x) (λ x p. (x, refl, p)) xs a)

through_misses : (xs : List QueuedRequest) (y : QueuedRequest) → AllByRecursion (λ x. same_request x y ≡ false) xs → Misses (map through_of xs) y
through_misses xs y a = all_map (λ t. nat_eq t.ticket.number (number_of y) ≡ false) through_of xs a

through_once : (xs : List QueuedRequest) → IsDistinct same_request xs → IsDistinct nat_eq (map (λ t. t.ticket.number) (map through_of xs))
through_once xs d = distinct_map nat_eq (λ t. t.ticket.number) (map through_of xs) (distinct_map (λ t u. nat_eq t.ticket.number u.ticket.number) through_of xs d)

same_flips : (m n : ℕ) → nat_eq m n ≡ false → nat_eq n m ≡ false
same_flips m n e = grind (arith, nat_tests)

distinct_filter : {X : Type 0} (e : X → X → Bool) (p : X → Bool) (xs : List X) → IsDistinct e xs → IsDistinct e (filter p xs)
unfolding IsDistinct
distinct_filter e p [] d = tt
distinct_filter e p (x ∷ xs) d = elim (p x) as (λ b. IsDistinct e (cond b (x ∷ filter p xs) (filter p xs))) [
  | true ↦ (all_filter (λ y. e x y ≡ false) p xs d.0, distinct_filter e p xs d.1)
  | false ↦ distinct_filter e p xs d.1
]

-- elements that pass a test differ from those that do not
split_apart : {X : Type 0} (f : X → ℕ) (p : X → Bool) (xs : List X) → IsDistinct (λ x y. nat_eq (f x) (f y)) xs → AllByRecursion (λ x. AllByRecursion (λ y. nat_eq (f y) (f x) ≡ false) (filter p xs)) (filter (λ x. not (p x)) xs)
unfolding IsDistinct
split_apart f p [] d = tt
split_apart f p (x ∷ xs) d = elim (p x) as (λ b. AllByRecursion (λ z. AllByRecursion (λ y. nat_eq (f y) (f z) ≡ false) (cond b (x ∷ filter p xs) (filter p xs))) (cond (not b) (x ∷ filter (λ x. not (p x)) xs) (filter (λ x. not (p x)) xs))) [
  | true ↦ all_both (λ z. nat_eq (f x) (f z) ≡ false) (λ z. AllByRecursion (λ y. nat_eq (f y) (f z) ≡ false) (filter p xs)) (filter (λ x. not (p x)) xs) (all_filter (λ z. nat_eq (f x) (f z) ≡ false) (λ x. not (p x)) xs d.0) (split_apart f p xs d.1)
  | false ↦ (all_filter (λ y. nat_eq (f y) (f x) ≡ false) p xs (all_weaker (λ y. nat_eq (f x) (f y) ≡ false) (λ y. nat_eq (f y) (f x) ≡ false) (λ y e. same_flips (f x) (f y) e) xs d.0), split_apart f p xs d.1)
]

-- a property of the active writers holds of their requests
active_all : (Q : QueuedRequest → Type 0) (ws : List QueuedWriter) → AllByRecursion (λ w. w.active ≡ true → Q w.request) ws → AllByRecursion Q (active_requests ws)
active_all Q [] a = tt
active_all Q (w ∷ ws) a = elim w.active as (λ b. (b ≡ true → Q w.request) → AllByRecursion Q (map (λ v. v.request) (cond b (w ∷ filter (λ v. v.active) ws) (filter (λ v. v.active) ws)))) [
  | true ↦ λ here. (here refl, active_all Q ws a.1)
  | false ↦ λ here. active_all Q ws a.1
] a.0

active_each : (Q : QueuedRequest → Type 0) (ws : List QueuedWriter) → AllByRecursion (λ w. Q w.request) ws → AllByRecursion Q (active_requests ws)
active_each Q ws a = active_all Q ws (all_weaker (λ w. Q w.request) (λ w. w.active ≡ true → Q w.request) (λ w q active. q) ws a)

active_distinct : (ws : List QueuedWriter) → IsDistinct same_writer ws → IsDistinct same_request (active_requests ws)
active_distinct ws d = distinct_map same_request (λ w. w.request) (filter (λ w. w.active) ws) (distinct_filter same_writer (λ w. w.active) ws d)

-- no reader has the number of one of these writers
writers_apart : (ws : List QueuedWriter) (rs : List QueuedRequest) → AreApart ws rs → AllByRecursion (λ w. AllByRecursion (λ q. same_request q w.request ≡ false) rs) ws
writers_apart ws rs a = all_flip (λ q w. same_request q w.request ≡ false) rs ws (all_weaker (λ q. AllByRecursion (λ w. nat_eq (writer_number w) (number_of q) ≡ false) ws) (λ q. AllByRecursion (λ w. same_request q w.request ≡ false) ws) (λ q b. all_weaker (λ w. nat_eq (writer_number w) (number_of q) ≡ false) (λ w. same_request q w.request ≡ false) (λ w e. same_flips (writer_number w) (number_of q) e) ws b) rs a)

-- the same of the first n writers
front_apart : (n : ℕ) (ws : List QueuedWriter) (rs : List QueuedRequest) → AreApart ws rs → AllByRecursion (λ q. AllByRecursion (λ x. same_request q x ≡ false) (active_requests (take n ws))) rs
front_apart n ws rs a = all_weaker (λ q. AllByRecursion (λ w. nat_eq (writer_number w) (number_of q) ≡ false) ws) (λ q. AllByRecursion (λ x. same_request q x ≡ false) (active_requests (take n ws)))
    (λ q b. active_each (λ x. same_request q x ≡ false) (take n ws) (all_take (λ w. same_request q w.request ≡ false) n ws (all_weaker (λ w. nat_eq (writer_number w) (number_of q) ≡ false) (λ w. same_request q w.request ≡ false) (λ w e. same_flips (writer_number w) (number_of q) e) ws b))) rs a

rises_take : (n : ℕ) (ws : List QueuedWriter) → Rises ws → Rises (take n ws)
rises_take zero ws r = tt
rises_take (suc n) [] r = tt
rises_take (suc n) (w ∷ ws) r = (all_take (λ v. writer_number w < writer_number v) n ws r.0, rises_take n ws r.1)

-- the first n writers have smaller numbers than the others
split_rises : (n : ℕ) (ws : List QueuedWriter) → Rises ws → AllByRecursion (λ v. AllByRecursion (λ w. writer_number w < writer_number v) (take n ws)) (drop n ws)
split_rises zero [] r = tt
split_rises zero (w ∷ ws) r = (tt, split_rises zero ws r.1)
split_rises (suc n) [] r = tt
split_rises (suc n) (w ∷ ws) r = all_both (λ v. writer_number w < writer_number v) (λ v. AllByRecursion (λ w. writer_number w < writer_number v) (take n ws)) (drop n ws) (all_drop (λ v. writer_number w < writer_number v) n ws r.0) (split_rises n ws r.1)

module _ (P : QueuedRequest → Type 0) (rs : List QueuedRequest) (d : Option ℕ) (differ : Differ rs) where
  abbrev at : Option Holder → Option QueuedRequest → List QueuedWriter → Record
  at holder s ws = record { holder = holder; reservation = s; writers = ws; readers = rs; distinguished = d }

  -- a lock that comes free
  free_goes : (holder : Option Holder) (s : Option QueuedRequest) (ws : List QueuedWriter) (reply : Reply) → Rises ws → AreApart ws rs → EachActive P (at holder s ws) → LetsGo P (free (at holder s ws) reply)
  free_goes holder s ws reply rises apart e =
      let n = suc (leading ws) in
      let gone = active_requests (take n ws) in
      let waits = λ (w : QueuedWriter). w.active ≡ true → P w.request in
      let above = λ (v : QueuedWriter). AllByRecursion (λ q. same_request q v.request ≡ false) rs × AllByRecursion (λ w. writer_number w < writer_number v) (take n ws) in
      let aboves = all_both (λ v. AllByRecursion (λ q. same_request q v.request ≡ false) rs) (λ v. AllByRecursion (λ w. writer_number w < writer_number v) (take n ws)) (drop n ws) (all_drop (λ v. AllByRecursion (λ q. same_request q v.request ≡ false) rs) n ws (writers_apart ws rs apart)) (split_rises n ws rises) in
      let misses : (v : QueuedWriter) → above v → Misses (map through_of (rs ++ gone)) v.request = λ v b. through_misses (rs ++ gone) v.request
      (all_append (λ q. same_request q v.request ≡ false) rs gone b.0 (active_each (λ q. same_request q v.request ≡ false) (take n ws) (all_weaker (λ w. writer_number w < writer_number v) (λ w. same_request w.request v.request ≡ false) (λ w lt. grind (arith, nat_tests)) (take n ws) b.1))) in
      record {
        from = through_from P (rs ++ gone) (all_append P rs gone e.readers (active_all P (take n ws) (all_take waits n ws e.writers)));
        left = record {
          readers = tt;
          writers = all_weaker (λ v. waits v × above v) (λ v. v.active ≡ true → P v.request × Misses (map through_of (rs ++ gone)) v.request) (λ v b active. (b.0 active, misses v b.1)) (drop n ws)
              (all_both waits above (drop n ws) (all_drop waits n ws e.writers) aboves);
        };
        once = through_once (rs ++ gone) (distinct_append same_request rs gone (differ_distinct rs differ) (active_distinct (take n ws) (rises_distinct (take n ws) (rises_take n ws rises))) (front_apart n ws rs apart));
      }

  -- a timestamp that rises
  raise_goes : (holder : Option Holder) (s : Option QueuedRequest) (ws : List QueuedWriter) (h : Holder) (ts : Timestamp) → AreApart ws rs → EachActive P (at holder s ws) → LetsGo P (raise_to (at holder s ws) h ts)
  raise_goes holder s ws h ts apart e =
      let below = λ (q : QueuedRequest). is_below q.ts ts in
      let gone = filter below rs in
      record {
        from = through_from P gone (all_filter P below rs e.readers);
        left = record {
          readers = all_both P (Misses (map through_of gone)) (filter (λ q. not (below q)) rs) (all_filter P (λ q. not (below q)) rs e.readers)
              (all_weaker (λ x. AllByRecursion (λ y. same_request y x ≡ false) gone) (Misses (map through_of gone)) (λ x a. through_misses gone x a) (filter (λ q. not (below q)) rs) (split_apart number_of below rs (differ_distinct rs differ)));
          writers = all_weaker (λ w. (w.active ≡ true → P w.request) × AllByRecursion (λ q. same_request q w.request ≡ false) rs) (λ w. w.active ≡ true → P w.request × Misses (map through_of gone) w.request)
              (λ w b active. (b.0 active, through_misses gone w.request (all_filter (λ q. same_request q w.request ≡ false) below rs b.1)))
              ws (all_both (λ w. w.active ≡ true → P w.request) (λ w. AllByRecursion (λ q. same_request q w.request ≡ false) rs) ws e.writers (writers_apart ws rs apart));
        };
        once = through_once gone (distinct_filter same_request below rs (differ_distinct rs differ));
      }

  -- a lock that is taken
  take_goes : (s : Option QueuedRequest) (ws : List QueuedWriter) (h : Holder) → Rises ws → rs ≡ [] → EachActive P (at None s ws) → LetsGo P (take_lock (at None s ws) h)
  take_goes s ws h rises none e =
      let mine = is_of h.txn in
      let gone = active_requests (filter mine ws) in
      let stays = λ (w : QueuedWriter). w.active ≡ true → P w.request × Misses (map through_of gone) w.request in
      let misses = all_weaker (λ w. AllByRecursion (λ v. same_writer v w ≡ false) (filter mine ws)) (λ w. Misses (map through_of gone) w.request) (λ w a. through_misses gone w.request (active_each (λ q. same_request q w.request ≡ false) (filter mine ws) a)) (filter (λ w. not (mine w)) ws) (split_apart writer_number mine ws (rises_distinct ws rises)) in
      let rest = all_weaker (λ w. (w.active ≡ true → P w.request) × Misses (map through_of gone) w.request) stays (λ w b active. (b.0 active, b.1)) (filter (λ w. not (mine w)) ws)
      (all_both (λ w. w.active ≡ true → P w.request) (λ w. Misses (map through_of gone) w.request) (filter (λ w. not (mine w)) ws) (all_filter (λ w. w.active ≡ true → P w.request) (λ w. not (mine w)) ws e.writers) misses) in
      record {
        from = through_from P gone (active_all P (filter mine ws) (all_filter (λ w. w.active ≡ true → P w.request) mine ws e.writers));
        left = record { readers = subst (AllByRecursion (λ x. P x × Misses (map through_of gone) x)) (sym none) tt; writers = with_back s (λ x. P x × Misses (map through_of gone) x) (λ w. not (mine w)) ws rest };
        once = through_once gone (active_distinct (filter mine ws) (distinct_filter same_writer mine ws (rises_distinct ws rises)));
      }
    where
      -- a reservation that is set back is inactive
      with_back : (s : Option QueuedRequest) (Q : QueuedRequest → Type 0) (p : QueuedWriter → Bool) (ws : List QueuedWriter) → AllByRecursion (λ w. w.active ≡ true → Q w.request) (filter p ws) → AllByRecursion (λ w. w.active ≡ true → Q w.request) (filter p (set_back s ++ ws))
      with_back None Q p ws a = a
      with_back (Some q) Q p ws a = elim (p (record { request = q; active = false })) as (λ b. AllByRecursion (λ w. w.active ≡ true → Q w.request) (cond b (record { request = q; active = false } ∷ filter p ws) (filter p ws))) [
        | true ↦ (λ active. absurd (true≢false (sym active)), a)
        | false ↦ a
      ]

  raised_goes : (holder : Option Holder) (s : Option QueuedRequest) (ws : List QueuedWriter) (h : Holder) (ts : Timestamp) → AreApart ws rs → EachActive P (at holder s ws) → (own below : Bool) → LetsGo P (cond own (cond below (raise_to (at holder s ws) h ts) (unchanged (at holder s ws) Kept)) (unchanged (at holder s ws) Other))
  raised_goes holder s ws h ts apart e false below = nobody_goes P (at holder s ws) Other e
  raised_goes holder s ws h ts apart e true false = nobody_goes P (at holder s ws) Kept e
  raised_goes holder s ws h ts apart e true true = raise_goes holder s ws h ts apart e

  acquire_goes : (holder : Option Holder) (s : Option QueuedRequest) (ws : List QueuedWriter) (h : Holder) → (IsNone holder → rs ≡ []) → Rises ws → AreApart ws rs → EachActive P (at holder s ws) → LetsGo P (acquire_from holder (at holder s ws) h)
  acquire_goes None s ws h none rises apart e = take_goes s ws h rises (none refl) e
  acquire_goes (Some k) s ws h none rises apart e = raised_goes (Some k) s ws k h.ts apart e (nat_eq k.txn h.txn) (is_below k.ts h.ts)

  update_goes : (holder : Option Holder) (s : Option QueuedRequest) (ws : List QueuedWriter) (txn : ℕ) (ts : Timestamp) → AreApart ws rs → EachActive P (at holder s ws) → LetsGo P (update_from holder (at holder s ws) txn ts)
  update_goes None s ws txn ts apart e = nobody_goes P (at None s ws) Other e
  update_goes (Some k) s ws txn ts apart e = raised_goes (Some k) s ws k ts apart e (nat_eq k.txn txn) (is_below k.ts ts)

  finish_goes : (holder : Option Holder) (s : Option QueuedRequest) (ws : List QueuedWriter) (txn : ℕ) → Rises ws → AreApart ws rs → EachActive P (at holder s ws) → LetsGo P (finish_from holder (at holder s ws) txn)
  finish_goes None s ws txn rises apart e = nobody_goes P (at None s ws) Other e
  finish_goes (Some k) s ws txn rises apart e = either (LetsGo P) (nat_eq k.txn txn) _ _ (free_goes None s ws Freed rises apart (record { readers = e.readers; writers = e.writers })) (nobody_goes P (at (Some k) s ws) Other e)

  leave_goes : (holder : Option Holder) (s : Option QueuedRequest) (ws : List QueuedWriter) (n : ℕ) → Rises ws → AreApart ws rs → EachActive P (at holder s ws) → LetsGo P (leave (at holder s ws) n)
  unfolding IsDistinct
  leave_goes holder s ws n rises apart e =
      let gone = λ (x : QueuedRequest). not (nat_eq (number_of x) n) in
      let away = λ (w : QueuedWriter). not (nat_eq (writer_number w) n) in
      either (LetsGo P) (is_reserved_by s n) _ _
      (free_goes holder None ws Left rises apart (record { readers = e.readers; writers = e.writers }))
      (either (LetsGo P) (is_waiting (at holder s ws) n) _ _
      (record {
        from = tt;
        left = record {
          readers = all_weaker P (λ x. P x × Misses [] x) (λ x p. (p, tt)) (filter gone rs) (all_filter P gone rs e.readers);
          writers = all_weaker (λ w. w.active ≡ true → P w.request) (λ w. w.active ≡ true → P w.request × Misses [] w.request) (λ w p active. (p active, tt)) (filter away ws) (all_filter (λ w. w.active ≡ true → P w.request) away ws e.writers);
        };
        once = tt;
      })
      (nobody_goes P (at holder s ws) Absent e))

-- ---- along a history

-- each waiting request was told to wait
abbrev AllWaiting : List Event → Record → Type 0
AllWaiting past r = EachActive (λ x. IsWaiting past (through_of x)) r

waits_on : (past : List Event) (e : Event) (t : Through) → IsWaiting past t → Spares e t.ticket → IsWaiting (past ++ e ∷ []) t
waits_on past e t w s = record {
  before = w.before;
  told = w.told;
  since = w.since ++ e ∷ [];
  joined = ap (λ l. l ++ e ∷ []) w.joined ∙ append_assoc w.before (w.told ∷ w.since) (e ∷ []);
  tells = w.tells;
  spared = all_append (λ x. Spares x t.ticket) w.since (e ∷ []) w.spared (s, tt);
}

missed_spares : (e : Event) (x : QueuedRequest) → Misses e.lets x → Spares e x.ticket
missed_spares e x m = all_weaker (λ t. nat_eq t.ticket.number (number_of x) ≡ false) (λ t. t.ticket ≢ x.ticket) (λ t differs same. let own : nat_eq t.ticket.number (number_of x) ≡ true = rw same (grind (arith, nat_tests)) in true≢false (sym own ∙ differs)) e.lets m

-- what an event of a legal history shows of the waiting requests
record Advances (past : List Event) (e : Event) (after : Record) : Type 0 where
  waited : AllByRecursion (IsWaiting past) e.lets
  once : IsDistinct nat_eq (map (λ t. t.ticket.number) e.lets)
  waiting : AllWaiting (past ++ e ∷ []) after

-- the event's lets are those that the rules give
goes_on : (past : List Event) (e : Event) (o : Outcome) → e.lets ≡ o.lets → LetsGo (λ x. IsWaiting past (through_of x)) o → Advances past e o.after
goes_on past e o lets g = record {
  waited = rw lets (all_weaker (λ t. (x : QueuedRequest) × (t ≡ through_of x) × IsWaiting past (through_of x)) (IsWaiting past) (λ t a. subst (IsWaiting past) (sym a.1) a.2) o.lets g.from);
  once = rw lets g.once;
  waiting = each_weaker (λ x. IsWaiting past (through_of x) × Misses o.lets x) (λ x. IsWaiting (past ++ e ∷ []) (through_of x)) o.after (λ x a. waits_on past e (through_of x) a.0 (missed_spares e x (rw lets a.1))) g.left;
}

visit_goes_on : (past : List Event) (e : Event) (r : Record) (ticket : Wait) (txn : Option ℕ) (ts : Timestamp) (access : Access) (longest : ℕ) → e.call ≡ Visit ticket txn ts access longest →
    let o = step r e.pass (Visit ticket txn ts access longest) in e.reply ≡ o.reply → e.lets ≡ o.lets → AllWaiting past r → Advances past e o.after
unfolding IsDistinct
visit_goes_on past e r ticket txn ts access longest call reply lets w =
    let q : QueuedRequest = record { ticket = ticket; txn = txn; ts = ts; pass = e.pass } in
    let none : e.lets ≡ [] = lets ∙ lock_lets r.holder r.reservation (stop_reading r (number_of q)) q longest access in
    let P = λ (x : QueuedRequest). IsWaiting (past ++ e ∷ []) (through_of x) in
    record {
      waited = rw none tt;
      once = rw none tt;
      waiting = visit_waits P r q longest access
          (each_weaker (λ x. IsWaiting past (through_of x)) P r (λ x a. waits_on past e (through_of x) a (rw none tt)) w)
          (λ wait. record { before = past; told = e; since = []; joined = refl; tells = record { txn = txn; ts = ts; access = access; longest = longest; call = call; pass = refl; reply = reply ∙ wait }; spared = tt });
    }

step_goes_on : (past : List Event) (e : Event) (r : Record) (call : Call) → e.call ≡ call → e.reply ≡ (step r e.pass call).reply → e.lets ≡ (step r e.pass call).lets → IsLawful r → AllWaiting past r → Advances past e (step r e.pass call).after
step_goes_on past e r (Visit ticket txn ts access longest) call reply lets l w = visit_goes_on past e r ticket txn ts access longest call reply lets w
step_goes_on past e r (Acquire txn ts) call reply lets l w = goes_on past e _ lets (acquire_goes (λ x. IsWaiting past (through_of x)) r.readers r.distinguished (lawful_differ r l) r.holder r.reservation r.writers (record { txn = txn; ts = ts }) l.first.unheld_has_no_readers l.first.writers_rise (lawful_apart r l) w)
step_goes_on past e r (Update txn ts) call reply lets l w = goes_on past e _ lets (update_goes (λ x. IsWaiting past (through_of x)) r.readers r.distinguished (lawful_differ r l) r.holder r.reservation r.writers txn ts (lawful_apart r l) w)
step_goes_on past e r (Finish txn) call reply lets l w = goes_on past e _ lets (finish_goes (λ x. IsWaiting past (through_of x)) r.readers r.distinguished (lawful_differ r l) r.holder r.reservation r.writers txn l.first.writers_rise (lawful_apart r l) w)
step_goes_on past e r (Leave number) call reply lets l w = goes_on past e _ lets (leave_goes (λ x. IsWaiting past (through_of x)) r.readers r.distinguished (lawful_differ r l) r.holder r.reservation r.writers number l.first.writers_rise (lawful_apart r l) w)
step_goes_on past e r (Look number) call reply lets l w = goes_on past e _ lets (nobody_goes (λ x. IsWaiting past (through_of x)) r (look r number) w)

-- from any record at which each waiting request was told to wait
waiting_after : (done : List Event) (r : Record) (past rest : List Event) → IsLegalFrom r (past ++ rest) → IsLawful r → AllWaiting done r → AllWaiting (done ++ past) (record_after r past)
waiting_after done r [] rest legal l w = rw append-nil w
waiting_after done r (e ∷ past) rest legal l w =
    let a = step_goes_on done e r e.call refl legal.0 legal.1 l w in
    let after = waiting_after (done ++ e ∷ []) (step r e.pass e.call).after past rest legal.2 (step_keeps_lawful r e.pass e.call l) a.waiting in
    rw append_assoc at after

pub lets_end_waits : (past rest : List Event) (e : Event) → IsLegal (past ++ e ∷ rest) → AllByRecursion (IsWaiting past) e.lets × IsDistinct nat_eq (map (λ t. t.ticket.number) e.lets)
lets_end_waits past rest e legal =
    let r = record_after empty past in
    let l : IsLawful r = lawful past (e ∷ rest) legal in
    let here = rest_legal empty past (e ∷ rest) legal in
    let a = step_goes_on past e r e.call refl here.0 here.1 l (waiting_after [] empty past (e ∷ rest) legal empty_is_lawful (record { readers = tt; writers = tt })) in
    (a.waited, a.once)
