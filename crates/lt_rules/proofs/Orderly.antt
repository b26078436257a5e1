-- Each step keeps the writers in order, and each queued request at a lock where it may wait.
use Rattle.std.proofs.Common.{◌≡◌, ◌≢◌, ◌<◌, ◌≤◌, ℕ, Bool, true, false, not, cond, suc, drop, List, [], ◌∷◌, ◌++◌, filter, Option, Some, None, refl, sym, ap, subst, arith, nat_eq}
use Rattle.std.specs.List.{AllByRecursion, find}
use Rattle.std.specs.Option.{option_map}
use Rattle.std.specs.declared.cmp.Ordering.{Ordering}
use Rattle.std.specs.declared.cmp.Ordering.TheVariants.{Less, Equal, Greater}
use Rattle.std.specs.Ordering.{nat_cmp, match_ordering, MatchOrdering}
use Rattle.std.proofs.lemmas.Cmp.{ranked}
use Rattle.std.proofs.lemmas.Bool.Decides.{nat_tests}
use mathlib.Core.Bool.{true≢false}
use Rattle.lt_ids.specs.declared.timestamp.Timestamp.{Timestamp}
use Rattle.lt_ids.specs.declared.request.Access.{Access}
use Rattle.lt_ids.specs.declared.request.Access.TheVariants.{Read, Write}
use Rattle.lt_ids.specs.Ids.{is_below}
use Rattle.lt_rules.specs.declared.queued.Holder.{Holder}
use Rattle.lt_rules.specs.declared.queued.QueuedRequest.{QueuedRequest}
use Rattle.lt_rules.specs.declared.queued.QueuedWriter.{QueuedWriter}
use Rattle.lt_rules.specs.declared.call.Call.{Call}
use Rattle.lt_rules.specs.declared.call.Call.TheVariants.{Visit, Acquire, Update, Finish, Leave, Look}
use Rattle.lt_rules.specs.declared.call.Reply.{Reply}
use Rattle.lt_rules.specs.declared.call.Reply.TheVariants.{Freed, Left, Kept, Other, Absent}
use Rattle.lt_rules.specs.Rules.{Record, empty, number_of, writer_number, is_txn, has_txn, settle, unchanged, acquire_from, update_from, finish_from, leave, free, raise_to, take_lock, set_back, is_of, is_waiting, stop_reading, without_reader, without_writer, leading}
use Rattle.lt_rules.specs.Visit.{visit, visit_lock, is_queued, enqueue, waiting, pass, join_writers, wait_to_read, wait_to_write, displace}
use Rattle.lt_rules.specs.Lawful.{Rises}
use Rattle.lt_rules.proofs.Cases.{FitsLock, all_weaker, all_both}
use Rattle.lt_rules.specs.Step.{Event, step, IsLegal, IsLegalFrom, record_after}
use Rattle.lt_rules.proofs.Holders.{either, joined, displaced, is_other}

pub all_filter : {X : Type 0} (P : X → Type 0) (p : X → Bool) (xs : List X) → AllByRecursion P xs → AllByRecursion P (filter p xs)
all_filter P p [] a = tt
all_filter P p (x ∷ xs) a = elim (p x) as (λ b. AllByRecursion P (cond b (x ∷ filter p xs) (filter p xs))) [
  | true ↦ (a.0, all_filter P p xs a.1)
  | false ↦ all_filter P p xs a.1
]

-- each element that a filter keeps passes its test
pub all_pass : {X : Type 0} (p : X → Bool) (xs : List X) → AllByRecursion (λ x. p x ≡ true) (filter p xs)
all_pass p [] = tt
all_pass p (x ∷ xs) = elim (p x) as (λ b. p x ≡ b → AllByRecursion (λ x. p x ≡ true) (cond b (x ∷ filter p xs) (filter p xs))) [
  | true ↦ λ e. (e, all_pass p xs)
  | false ↦ λ e. all_pass p xs
] refl

rises_filter : (p : QueuedWriter → Bool) (ws : List QueuedWriter) → Rises ws → Rises (filter p ws)
rises_filter p [] r = tt
rises_filter p (w ∷ ws) r = elim (p w) as (λ b. Rises (cond b (w ∷ filter p ws) (filter p ws))) [
  | true ↦ (all_filter (λ v. writer_number w < writer_number v) p ws r.0, rises_filter p ws r.1)
  | false ↦ rises_filter p ws r.1
]

-- a property of the writers and of the new one holds of the whole queue
pub enqueue_all : (P : QueuedWriter → Type 0) (ws : List QueuedWriter) (q : QueuedRequest) → AllByRecursion P ws → P (waiting q) → AllByRecursion P (enqueue ws q)
enqueue_all P [] q a p = (p, tt)
enqueue_all P (w ∷ ws) q a p = elim (nat_cmp (number_of q) (writer_number w)) as (λ c. AllByRecursion P (match_ordering c (waiting q ∷ w ∷ ws) (waiting q ∷ ws) (w ∷ enqueue ws q))) [
  | Less ↦ (p, a)
  | Equal ↦ (p, a.1)
  | Greater ↦ (a.0, enqueue_all P ws q a.1 p)
]

above : (m n : ℕ) (ws : List QueuedWriter) → m ≤ n → AllByRecursion (λ v. n < writer_number v) ws → AllByRecursion (λ v. m < writer_number v) ws
above m n ws le a = all_weaker (λ v. n < writer_number v) (λ v. m < writer_number v) (λ v lt. omega arith) ws a

enqueue_rises : (ws : List QueuedWriter) (q : QueuedRequest) → Rises ws → Rises (enqueue ws q)
enqueue_rises [] q r = (tt, tt)
enqueue_rises (w ∷ ws) q r = elim (nat_cmp (number_of q) (writer_number w)) as (λ c. MatchOrdering c (number_of q < writer_number w) (number_of q ≡ writer_number w) (writer_number w < number_of q) → Rises (match_ordering c (waiting q ∷ w ∷ ws) (waiting q ∷ ws) (w ∷ enqueue ws q))) [
  | Less ↦ λ lt. ((lt, above (number_of q) (writer_number w) ws (omega arith) r.0), r)
  | Equal ↦ λ e. (above (number_of q) (writer_number w) ws (omega arith) r.0, r.1)
  | Greater ↦ λ lt. (enqueue_all (λ v. writer_number w < writer_number v) ws q r.0 lt, enqueue_rises ws q r.1)
] (ranked (number_of q) (writer_number w) _ refl)

pub record IsOrderly (r : Record) : Type 0 where
  pub fits : FitsLock r.holder r.reservation r.writers r.readers
  pub rises : Rises r.writers

-- if readers leave
pub fits_readers : (p : QueuedRequest → Bool) (holder : Option Holder) (s : Option QueuedRequest) (ws : List QueuedWriter) (rs : List QueuedRequest) → FitsLock holder s ws rs → FitsLock holder s ws (filter p rs)
fits_readers p None None ws rs f = (f.0, ap (filter p) f.1)
fits_readers p None (Some s) ws rs f = (f.0, ap (filter p) f.1)
fits_readers p (Some h) None ws rs f = (f.0, all_filter (λ q. (q.txn ≢ Some h.txn) × (is_below q.ts h.ts ≡ false)) p rs f.1)
fits_readers p (Some h) (Some s) ws rs f = f

-- if writers leave
fits_writers : (p : QueuedWriter → Bool) (holder : Option Holder) (s : Option QueuedRequest) (ws : List QueuedWriter) (rs : List QueuedRequest) → FitsLock holder s ws rs → FitsLock holder s (filter p ws) rs
fits_writers p None None ws rs f = (ap (filter p) f.0, f.1)
fits_writers p None (Some s) ws rs f = (all_filter (λ w. number_of s < writer_number w) p ws f.0, f.1)
fits_writers p (Some h) None ws rs f = (all_filter (λ w. w.request.txn ≢ Some h.txn) p ws f.0, f.1)
fits_writers p (Some h) (Some s) ws rs f = f

not_false : (b : Bool) → not b ≡ true → b ≡ false
not_false true e = absurd (true≢false (sym e))
not_false false e = refl

module _ (ws : List QueuedWriter) (rs : List QueuedRequest) (d : Option ℕ) (q : QueuedRequest) (longest : ℕ) where
  abbrev at : Option Holder → Option QueuedRequest → Record
  at holder s = record { holder = holder; reservation = s; writers = ws; readers = rs; distinguished = d }

  queue_held : (h : Holder) → IsOrderly (at (Some h) None) → q.txn ≢ Some h.txn → IsOrderly (wait_to_write (at (Some h) None) q).after
  queue_held h o other = record { fits = (enqueue_all (λ w. w.request.txn ≢ Some h.txn) ws q o.fits.0 other, o.fits.1); rises = enqueue_rises ws q o.rises }

  read_held : (h : Holder) → IsOrderly (at (Some h) None) → (own : Bool) → is_txn q.txn h.txn ≡ own → (below : Bool) → is_below q.ts h.ts ≡ below →
      IsOrderly (cond own (pass (at (Some h) None)) (cond below (pass (at (Some h) None)) (wait_to_read (at (Some h) None) q))).after
  read_held h o true own below b = o
  read_held h o false own true b = o
  read_held h o false own false b =
      let other : q.txn ≢ Some h.txn = is_other q.txn h.txn own in
      either (λ x. IsOrderly x.after) (is_queued ws (number_of q)) _ _
      (queue_held h o other)
      (record { fits = (o.fits.0, ((other, b), o.fits.1)); rises = o.rises })

  write_held : (h : Holder) → IsOrderly (at (Some h) None) → (own : Bool) → is_txn q.txn h.txn ≡ own →
      IsOrderly (cond own (pass (at (Some h) None)) (join_writers (at (Some h) None) q longest)).after
  write_held h o true own = o
  write_held h o false own = joined (λ x. IsOrderly x.after) (at (Some h) None) q longest o (queue_held h o (is_other q.txn h.txn own))

  write_reserved : (s : QueuedRequest) → IsOrderly (at None (Some s)) → (c : Ordering) → MatchOrdering c (number_of q < number_of s) (number_of q ≡ number_of s) (number_of s < number_of q) →
      IsOrderly (match_ordering c (displace q.txn (at None (Some s)) s q) (pass (at None (Some s))) (join_writers (at None (Some s)) q longest)).after
  write_reserved s o Less lt = displaced q.txn (λ x. IsOrderly x.after) (at None (Some s)) s q o (record { fits = ((lt, above (number_of q) (number_of s) ws (omega arith) o.fits.0), o.fits.1); rises = (o.fits.0, o.rises) })
  write_reserved s o Equal e = o
  write_reserved s o Greater lt = joined (λ x. IsOrderly x.after) (at None (Some s)) q longest o (record { fits = (enqueue_all (λ w. number_of s < writer_number w) ws q o.fits.0 lt, o.fits.1); rises = enqueue_rises ws q o.rises })

  lock_orderly : (holder : Option Holder) (s : Option QueuedRequest) (access : Access) → IsOrderly (at holder s) → IsOrderly (visit_lock holder s (at holder s) q longest access).after
  lock_orderly None None access o = o
  lock_orderly None (Some s) Read o = o
  lock_orderly None (Some s) Write o = write_reserved s o (nat_cmp (number_of q) (number_of s)) (ranked (number_of q) (number_of s) _ refl)
  lock_orderly (Some h) None Read o = read_held h o (is_txn q.txn h.txn) refl (is_below q.ts h.ts) refl
  lock_orderly (Some h) None Write o = write_held h o (is_txn q.txn h.txn) refl
  lock_orderly (Some h) (Some s) access o = absurd o.fits

visit_orderly : (r : Record) (q : QueuedRequest) (longest : ℕ) (access : Access) → IsOrderly r → IsOrderly (visit r q longest access).after
visit_orderly r q longest access o =
    let p = λ (x : QueuedRequest). not (nat_eq (number_of x) (number_of q)) in
    let stopped : IsOrderly (stop_reading r (number_of q)) = record { fits = fits_readers p r.holder r.reservation r.writers r.readers o.fits; rises = o.rises } in
    let after = lock_orderly r.writers (without_reader r.readers (number_of q)) r.distinguished q longest r.holder r.reservation access stopped in
    record { fits = after.fits; rises = after.rises }

module _ (ws : List QueuedWriter) (rs : List QueuedRequest) (d : Option ℕ) (txn : ℕ) (ts : Timestamp) where
  abbrev of : Option Holder → Option QueuedRequest → Record
  of holder s = record { holder = holder; reservation = s; writers = ws; readers = rs; distinguished = d }

  raise_orderly : (h : Holder) → IsOrderly (of (Some h) None) → IsOrderly (raise_to (of (Some h) None) h ts).after
  raise_orderly h o =
      let p = λ (q : QueuedRequest). not (is_below q.ts ts) in
      let others = all_filter (λ q. (q.txn ≢ Some h.txn) × (is_below q.ts h.ts ≡ false)) p rs o.fits.1 in
      let readers = all_weaker (λ q. ((q.txn ≢ Some h.txn) × (is_below q.ts h.ts ≡ false)) × (p q ≡ true)) (λ q. (q.txn ≢ Some h.txn) × (is_below q.ts ts ≡ false)) (λ q a. (a.0.0, grind (arith, nat_tests, a.1))) (filter p rs)
      (all_both (λ q. (q.txn ≢ Some h.txn) × (is_below q.ts h.ts ≡ false)) (λ q. p q ≡ true) (filter p rs) others (all_pass p rs)) in
      record { fits = (o.fits.0, readers); rises = o.rises }

  raised_orderly : (h : Holder) → IsOrderly (of (Some h) None) → (own below : Bool) → IsOrderly (cond own (cond below (raise_to (of (Some h) None) h ts) (unchanged (of (Some h) None) Kept)) (unchanged (of (Some h) None) Other)).after
  raised_orderly h o false below = o
  raised_orderly h o true false = o
  raised_orderly h o true true = raise_orderly h o

  take_orderly : (s : Option QueuedRequest) → IsOrderly (of None s) → Rises (set_back s ++ ws) → rs ≡ [] → IsOrderly (take_lock (of None s) (record { txn = txn; ts = ts })).after
  take_orderly s o rises none =
      let p = λ (w : QueuedWriter). not (is_of txn w) in
      record {
        fits = (
          all_weaker (λ w. p w ≡ true) (λ w. w.request.txn ≢ Some txn) (λ w a. is_other w.request.txn txn (not_false (is_txn w.request.txn txn) a)) (filter p (set_back s ++ ws)) (all_pass p (set_back s ++ ws)),
          subst (AllByRecursion (λ q. (q.txn ≢ Some txn) × (is_below q.ts ts ≡ false))) (sym none) tt,
        );
        rises = rises_filter p (set_back s ++ ws) rises;
      }

  acquire_orderly : (holder : Option Holder) (s : Option QueuedRequest) → IsOrderly (of holder s) → IsOrderly (acquire_from holder (of holder s) (record { txn = txn; ts = ts })).after
  acquire_orderly None None o = take_orderly None o o.rises o.fits.1
  acquire_orderly None (Some s) o = take_orderly (Some s) o (o.fits.0, o.rises) o.fits.1
  acquire_orderly (Some h) None o = raised_orderly h o (nat_eq h.txn txn) (is_below h.ts ts)
  acquire_orderly (Some h) (Some s) o = absurd o.fits

  update_orderly : (holder : Option Holder) (s : Option QueuedRequest) → IsOrderly (of holder s) → IsOrderly (update_from holder (of holder s) txn ts).after
  update_orderly None s o = o
  update_orderly (Some h) None o = raised_orderly h o (nat_eq h.txn txn) (is_below h.ts ts)
  update_orderly (Some h) (Some s) o = absurd o.fits

-- the first writer with a transaction gets the reservation, and those after it are ordered by number
front_orderly : (ws : List QueuedWriter) → Rises ws → FitsLock None (option_map (λ w. w.request) (find has_txn ws)) (drop (suc (leading ws)) ws) [] × Rises (drop (suc (leading ws)) ws)
front_orderly [] r = ((refl, refl), tt)
front_orderly (w ∷ ws) r = elim (has_txn w) as (λ b. FitsLock None (option_map (λ v. v.request) (cond b (Some w) (find has_txn ws))) (drop (suc (cond b 0 (suc (leading ws)))) (w ∷ ws)) [] × Rises (drop (suc (cond b 0 (suc (leading ws)))) (w ∷ ws))) [
  | true ↦ ((r.0, refl), r.1)
  | false ↦ front_orderly ws r.1
]

free_orderly : (ws : List QueuedWriter) (rs : List QueuedRequest) (d : Option ℕ) (s : Option QueuedRequest) (reply : Reply) → Rises ws → IsOrderly (free (record { holder = None; reservation = s; writers = ws; readers = rs; distinguished = d }) reply).after
free_orderly ws rs d s reply r = let f = front_orderly ws r in record { fits = f.0; rises = f.1 }

module _ (ws : List QueuedWriter) (rs : List QueuedRequest) (d : Option ℕ) where
  abbrev from : Option Holder → Option QueuedRequest → Record
  from holder s = record { holder = holder; reservation = s; writers = ws; readers = rs; distinguished = d }

  finish_orderly : (txn : ℕ) (holder : Option Holder) (s : Option QueuedRequest) → IsOrderly (from holder s) → IsOrderly (finish_from holder (from holder s) txn).after
  finish_orderly txn None s o = o
  finish_orderly txn (Some h) s o = either (λ x. IsOrderly x.after) (nat_eq h.txn txn) _ _ (free_orderly ws rs d s Freed o.rises) o

  left_orderly : (n : ℕ) (holder : Option Holder) (s : Option QueuedRequest) → IsOrderly (from holder s) → (waits : Bool) →
      IsOrderly (cond waits (record { after = settle (record (from holder s) { writers = without_writer ws n; readers = without_reader rs n }); reply = Left; lets = [] }) (unchanged (from holder s) Absent)).after
  left_orderly n holder s o false = o
  left_orderly n holder s o true =
      let p = λ (w : QueuedWriter). not (nat_eq (writer_number w) n) in
      let f = λ (q : QueuedRequest). not (nat_eq (number_of q) n) in
      record { fits = fits_readers f holder s (filter p ws) rs (fits_writers p holder s ws rs o.fits); rises = rises_filter p ws o.rises }

  leave_orderly : (n : ℕ) (holder : Option Holder) (s : Option QueuedRequest) → IsOrderly (from holder s) → IsOrderly (leave (from holder s) n).after
  leave_orderly n None None o = left_orderly n None None o (is_waiting (from None None) n)
  leave_orderly n None (Some s) o = either (λ x. IsOrderly x.after) (nat_eq (number_of s) n) _ _ (free_orderly ws rs d None Left o.rises) (left_orderly n None (Some s) o (is_waiting (from None (Some s)) n))
  leave_orderly n (Some h) None o = left_orderly n (Some h) None o (is_waiting (from (Some h) None) n)
  leave_orderly n (Some h) (Some s) o = absurd o.fits

pub step_orderly : (r : Record) (pass : ℕ) (call : Call) → IsOrderly r → IsOrderly (step r pass call).after
step_orderly r pass (Visit ticket txn ts access longest) o = visit_orderly r (record { ticket = ticket; txn = txn; ts = ts; pass = pass }) longest access o
step_orderly r pass (Acquire txn ts) o = acquire_orderly r.writers r.readers r.distinguished txn ts r.holder r.reservation o
step_orderly r pass (Update txn ts) o = update_orderly r.writers r.readers r.distinguished txn ts r.holder r.reservation o
step_orderly r pass (Finish txn) o = finish_orderly r.writers r.readers r.distinguished txn r.holder r.reservation o
step_orderly r pass (Leave number) o = leave_orderly r.writers r.readers r.distinguished number r.holder r.reservation o
step_orderly r pass (Look number) o = o

orderly_after : (r : Record) (past rest : List Event) → IsLegalFrom r (past ++ rest) → IsOrderly r → IsOrderly (record_after r past)
orderly_after r [] rest legal o = o
orderly_after r (e ∷ past) rest legal o = orderly_after (step r e.pass e.call).after past rest legal.2 (step_orderly r e.pass e.call o)

-- the record after every prefix of a legal history is orderly
pub history_orderly : (past rest : List Event) → IsLegal (past ++ rest) → IsOrderly (record_after empty past)
history_orderly past rest legal = orderly_after empty past rest legal (record { fits = (refl, refl); rises = tt })
