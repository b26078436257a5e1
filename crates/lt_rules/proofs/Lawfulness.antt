-- Each step keeps a record lawful.
use Rattle.std.proofs.Common.{◌≡◌, ◌<◌, ◌≤◌, ℕ, suc, take, drop, IfSome, Bool, true, false, not, cond, List, [], ◌∷◌, ◌++◌, map, filter, Option, Some, None, refl, sym, ap, subst, ◌∙◌, arith, nat_eq, ◌||◌}
use Rattle.std.specs.List.{AllByRecursion}
use mathlib.Core.Bool.{true≢false}
use Rattle.std.specs.Ordering.{nat_cmp}
use Rattle.std.proofs.lemmas.Bool.Decides.{nat_tests}
use Rattle.lt_ids.specs.declared.timestamp.Timestamp.{Timestamp}
use Rattle.lt_ids.specs.declared.request.Access.{Access}
use Rattle.lt_ids.specs.declared.request.Access.TheVariants.{Read, Write}
use Rattle.lt_ids.specs.Ids.{is_below}
use Rattle.lt_rules.specs.declared.queued.Holder.{Holder}
use Rattle.lt_rules.specs.declared.queued.QueuedRequest.{QueuedRequest}
use Rattle.lt_rules.specs.declared.queued.QueuedWriter.{QueuedWriter}
use Rattle.lt_rules.specs.declared.call.Call.{Call}
use Rattle.lt_rules.specs.declared.call.Call.TheVariants.{Visit, Acquire, Update, Finish, Leave, Look}
use Rattle.lt_rules.specs.declared.call.Reply.TheVariants.{MustWait, Freed, Other}
use Rattle.lt_rules.specs.Rules.{Record, empty, number_of, writer_number, is_txn, has_txn, through_of, Outcome, settle, unchanged, acquire_from, update_from, finish_from, leave, free, raise_to, take_lock, set_back, is_reserved_by, is_waiting, without_reader, without_writer, eligible, distinguished_of, active_requests, leading}
use Rattle.lt_rules.specs.Visit.{visit, visit_lock, is_queued, enqueue, pass, wait_to_write, join_writers}
use Rattle.lt_rules.specs.Step.{Event, step, IsLegal, IsLegalFrom, record_after}
use Rattle.std.specs.Prelude.{slice_get, Contains, option_to_list, ◌||◌}
use Rattle.std.proofs.lemmas.List.{length-map, get_or-map}
use Rattle.std.proofs.lemmas.List.Elements.{Contains-append_right}
use Rattle.lt_rules.specs.Laws.{IsLeast, IsGone}
use Rattle.std.specs.Option.{option_map}
use Rattle.std.specs.List.{list_any, find}
use Rattle.lt_rules.specs.Lawful.{Rises, IsLawful}
use Rattle.lt_rules.proofs.Cases.{FitsLock, Differ, AreApart, all_weaker, lawful_fits, lawful_differ, lawful_apart, lawful_owned, lawful_from, IsAwake, all_drop}
use Rattle.lt_rules.proofs.Between.{only_finish_frees}
use Rattle.lt_rules.proofs.Owners.{step_owned}
use Rattle.lt_rules.proofs.Holders.{either, one_of_three, joined, displaced, rest_legal}
use Rattle.lt_rules.proofs.Orderly.{IsOrderly, step_orderly, all_filter, enqueue_all, all_pass, fits_readers}

-- no two readers have the same number, and no reader has a writer's number
pub record StandOnce (r : Record) : Type 0 where
  pub differ : Differ r.readers
  pub apart : AreApart r.writers r.readers

differ_filter : (p : QueuedRequest → Bool) (qs : List QueuedRequest) → Differ qs → Differ (filter p qs)
differ_filter p [] d = tt
differ_filter p (q ∷ qs) d = elim (p q) as (λ b. Differ (cond b (q ∷ filter p qs) (filter p qs))) [
  | true ↦ (all_filter (λ x. nat_eq (number_of x) (number_of q) ≡ false) p qs d.0, differ_filter p qs d.1)
  | false ↦ differ_filter p qs d.1
]

apart_readers : (p : QueuedRequest → Bool) (ws : List QueuedWriter) (rs : List QueuedRequest) → AreApart ws rs → AreApart ws (filter p rs)
apart_readers p ws rs a = all_filter (λ q. AllByRecursion (λ w. nat_eq (writer_number w) (number_of q) ≡ false) ws) p rs a

apart_writers : (p : QueuedWriter → Bool) (ws : List QueuedWriter) (rs : List QueuedRequest) → AreApart ws rs → AreApart (filter p ws) rs
apart_writers p ws rs a = all_weaker (λ q. AllByRecursion (λ w. nat_eq (writer_number w) (number_of q) ≡ false) ws) (λ q. AllByRecursion (λ w. nat_eq (writer_number w) (number_of q) ≡ false) (filter p ws)) (λ q b. all_filter (λ w. nat_eq (writer_number w) (number_of q) ≡ false) p ws b) rs a

apart_enqueue : (ws : List QueuedWriter) (rs : List QueuedRequest) (q : QueuedRequest) → AllByRecursion (λ p. nat_eq (number_of p) (number_of q) ≡ false) rs → AreApart ws rs → AreApart (enqueue ws q) rs
apart_enqueue ws [] q n a = tt
apart_enqueue ws (r ∷ rs) q n a = (enqueue_all (λ w. nat_eq (writer_number w) (number_of r) ≡ false) ws q a.0 (let e = n.0 in grind (arith, nat_tests)), apart_enqueue ws rs q n.1 a.1)

none_queued : (ws : List QueuedWriter) (n : ℕ) → is_queued ws n ≡ false → AllByRecursion (λ w. nat_eq (writer_number w) n ≡ false) ws
none_queued [] n e = tt
none_queued (w ∷ ws) n e = elim (nat_eq (writer_number w) n) as (λ b. nat_eq (writer_number w) n ≡ b → (b || is_queued ws n) ≡ false → (nat_eq (writer_number w) n ≡ false) × AllByRecursion (λ w. nat_eq (writer_number w) n ≡ false) ws) [
  | true ↦ λ t f. absurd (true≢false f)
  | false ↦ λ t f. (t, none_queued ws n f)
] refl e

-- a request that stopped reading is not among the readers
stopped_none : (rs : List QueuedRequest) (n : ℕ) → AllByRecursion (λ q. nat_eq (number_of q) n ≡ false) (without_reader rs n)
stopped_none rs n = all_weaker (λ q. not (nat_eq (number_of q) n) ≡ true) (λ q. nat_eq (number_of q) n ≡ false) (λ q a. grind (arith, nat_tests)) (without_reader rs n) (all_pass (λ q. not (nat_eq (number_of q) n)) rs)

module _ (ws : List QueuedWriter) (rs : List QueuedRequest) (d : Option ℕ) (q : QueuedRequest) (longest : ℕ) (none : AllByRecursion (λ p. nat_eq (number_of p) (number_of q) ≡ false) rs) (differ : Differ rs) (apart : AreApart ws rs) where
  abbrev at : Option Holder → Option QueuedRequest → Record
  at holder s = record { holder = holder; reservation = s; writers = ws; readers = rs; distinguished = d }

  same_once : (holder : Option Holder) (s : Option QueuedRequest) → StandOnce (at holder s)
  same_once holder s = record { differ = differ; apart = apart }

  queue_once : (holder : Option Holder) (s : Option QueuedRequest) → StandOnce (wait_to_write (at holder s) q).after
  queue_once holder s = record { differ = differ; apart = apart_enqueue ws rs q none apart }

  join_once : (holder : Option Holder) (s : Option QueuedRequest) → StandOnce (join_writers (at holder s) q longest).after
  join_once holder s = joined (λ o. StandOnce o.after) (at holder s) q longest (same_once holder s) (queue_once holder s)

  read_once : (holder : Option Holder) (s : Option QueuedRequest) (queued : Bool) → is_queued ws (number_of q) ≡ queued → StandOnce (cond queued (wait_to_write (at holder s) q) (unchanged (record (at holder s) { readers = q ∷ rs }) MustWait)).after
  read_once holder s true e = queue_once holder s
  read_once holder s false e = record { differ = (none, differ); apart = (none_queued ws (number_of q) e, apart) }

  lock_once : (holder : Option Holder) (s : Option QueuedRequest) (access : Access) → FitsLock holder s ws rs → StandOnce (visit_lock holder s (at holder s) q longest access).after
  lock_once None None access f = same_once None None
  lock_once None (Some s) Read f = same_once None (Some s)
  lock_once None (Some s) Write f = one_of_three (λ o. StandOnce o.after) (nat_cmp (number_of q) (number_of s)) _ _ _
      (displaced q.txn (λ o. StandOnce o.after) (at None (Some s)) s q (same_once None (Some s)) (record { differ = differ; apart = subst (AreApart (set_back (Some s) ++ ws)) (sym f.1) tt })) (same_once None (Some s)) (join_once None (Some s))
  lock_once (Some h) s Read f = either (λ o. StandOnce o.after) (is_txn q.txn h.txn) _ _ (same_once (Some h) s)
      (either (λ o. StandOnce o.after) (is_below q.ts h.ts) _ _ (same_once (Some h) s) (read_once (Some h) s (is_queued ws (number_of q)) refl))
  lock_once (Some h) s Write f = either (λ o. StandOnce o.after) (is_txn q.txn h.txn) _ _ (same_once (Some h) s) (join_once (Some h) s)

once : (r : Record) → Differ r.readers → AreApart r.writers r.readers → StandOnce r
once r d a = record { differ = d; apart = a }

nobody_once : (r : Record) → r.readers ≡ [] → StandOnce r
nobody_once r e = record { differ = subst Differ (sym e) tt; apart = subst (AreApart r.writers) (sym e) tt }

filtered_once : (r s : Record) (p : QueuedWriter → Bool) (f : QueuedRequest → Bool) → StandOnce r → s.writers ≡ filter p r.writers → s.readers ≡ filter f r.readers → StandOnce s
filtered_once r s p f o ws rs = record {
  differ = rw rs (differ_filter f r.readers o.differ);
  apart = rw (ws, rs) (apart_readers f (filter p r.writers) r.readers (apart_writers p r.writers r.readers o.apart));
}

fewer_once : (r s : Record) (f : QueuedRequest → Bool) → StandOnce r → s.writers ≡ r.writers → s.readers ≡ filter f r.readers → StandOnce s
fewer_once r s f o ws rs = record {
  differ = rw rs (differ_filter f r.readers o.differ);
  apart = rw (ws, rs) (apart_readers f r.writers r.readers o.apart);
}

visit_once : (r : Record) (q : QueuedRequest) (longest : ℕ) (access : Access) → FitsLock r.holder r.reservation r.writers r.readers → StandOnce r → StandOnce (visit r q longest access).after
visit_once r q longest access fits o =
    let n = number_of q in
    let p = λ (x : QueuedRequest). not (nat_eq (number_of x) n) in
    let rs = without_reader r.readers n in
    let after = lock_once r.writers rs r.distinguished q longest (stopped_none r.readers n) (differ_filter p r.readers o.differ) (apart_readers p r.writers r.readers o.apart) r.holder r.reservation access (fits_readers p r.holder r.reservation r.writers r.readers fits) in
    record { differ = after.differ; apart = after.apart }

not_held : (s : Option QueuedRequest) (ws : List QueuedWriter) (rs : List QueuedRequest) → FitsLock None s ws rs → rs ≡ []
not_held None ws rs f = f.1
not_held (Some s) ws rs f = f.1

acquire_once : (holder : Option Holder) (r : Record) (h : Holder) → FitsLock holder r.reservation r.writers r.readers → StandOnce r → StandOnce (acquire_from holder r h).after
acquire_once None r h f o = nobody_once (take_lock r h).after (not_held r.reservation r.writers r.readers f)
acquire_once (Some k) r h f o =
    either (λ x. StandOnce x.after) (nat_eq k.txn h.txn) _ _
    (either (λ x. StandOnce x.after) (is_below k.ts h.ts) _ _ (fewer_once r (raise_to r k h.ts).after (λ q. not (is_below q.ts h.ts)) o refl refl) o) o

update_once : (holder : Option Holder) (r : Record) (txn : ℕ) (ts : Timestamp) → StandOnce r → StandOnce (update_from holder r txn ts).after
update_once None r txn ts o = o
update_once (Some k) r txn ts o =
    either (λ x. StandOnce x.after) (nat_eq k.txn txn) _ _
    (either (λ x. StandOnce x.after) (is_below k.ts ts) _ _ (fewer_once r (raise_to r k ts).after (λ q. not (is_below q.ts ts)) o refl refl) o) o

finish_once : (holder : Option Holder) (r : Record) (txn : ℕ) → StandOnce r → StandOnce (finish_from holder r txn).after
finish_once None r txn o = o
finish_once (Some k) r txn o = either (λ x. StandOnce x.after) (nat_eq k.txn txn) _ _ (record { differ = tt; apart = tt }) o

leave_once : (r : Record) (n : ℕ) → StandOnce r → StandOnce (leave r n).after
leave_once r n o =
    either (λ x. StandOnce x.after) (is_reserved_by r.reservation n) _ _ (record { differ = tt; apart = tt })
    (either (λ x. StandOnce x.after) (is_waiting r n) _ _
    (filtered_once r (record { holder = r.holder; reservation = r.reservation; writers = without_writer r.writers n; readers = without_reader r.readers n; distinguished = distinguished_of r.distinguished (eligible r.reservation (without_reader r.readers n) (without_writer r.writers n)) })
    (λ w. not (nat_eq (writer_number w) n)) (λ q. not (nat_eq (number_of q) n)) o refl refl) o)

step_once : (r : Record) (pass : ℕ) (call : Call) → IsOrderly r → StandOnce r → StandOnce (step r pass call).after
step_once r pass (Visit ticket txn ts access longest) l o = visit_once r (record { ticket = ticket; txn = txn; ts = ts; pass = pass }) longest access l.fits o
step_once r pass (Acquire txn ts) l o = acquire_once r.holder r (record { txn = txn; ts = ts }) l.fits o
step_once r pass (Update txn ts) l o = update_once r.holder r txn ts o
step_once r pass (Finish txn) l o = finish_once r.holder r txn o
step_once r pass (Leave number) l o = leave_once r number o
step_once r pass (Look number) l o = o

-- the elected distinguished waiter stays so when the record is settled again
first_stays : (es : List ℕ) → distinguished_of (slice_get es 0) es ≡ slice_get es 0
first_stays [] = refl
first_stays (n ∷ es) = let same : nat_eq n n ≡ true = grind (arith, nat_tests) in rw same refl

stays : (d : Option ℕ) (es : List ℕ) → distinguished_of (distinguished_of d es) es ≡ distinguished_of d es
stays None es = first_stays es
stays (Some n) es = elim (list_any (λ m. nat_eq m n) es) as (λ b. list_any (λ m. nat_eq m n) es ≡ b → distinguished_of (cond b (Some n) (slice_get es 0)) es ≡ cond b (Some n) (slice_get es 0)) [
  | true ↦ λ e. rw e refl
  | false ↦ λ e. first_stays es
] refl

settles : (r : Record) → settle (settle r) ≡ settle r
settles r = ap (λ d. record { holder = r.holder; reservation = r.reservation; writers = r.writers; readers = r.readers; distinguished = d }) (stays r.distinguished (eligible r.reservation r.readers r.writers))

abbrev Settled : Outcome → Type 0
Settled o = settle o.after ≡ o.after

step_settles : (r : Record) (pass : ℕ) (call : Call) → settle r ≡ r → Settled (step r pass call)
step_settles r pass (Visit ticket txn ts access longest) s = settles _
step_settles r pass (Acquire txn ts) s = acquire_settles r.holder
  where
    acquire_settles : (holder : Option Holder) → Settled (acquire_from holder r (record { txn = txn; ts = ts }))
    acquire_settles None = settles _
    acquire_settles (Some k) = either Settled (nat_eq k.txn txn) _ _ (either Settled (is_below k.ts ts) _ _ (settles _) s) s
step_settles r pass (Update txn ts) s = update_settles r.holder
  where
    update_settles : (holder : Option Holder) → Settled (update_from holder r txn ts)
    update_settles None = s
    update_settles (Some k) = either Settled (nat_eq k.txn txn) _ _ (either Settled (is_below k.ts ts) _ _ (settles _) s) s
step_settles r pass (Finish txn) s = finish_settles r.holder
  where
    finish_settles : (holder : Option Holder) → Settled (finish_from holder r txn)
    finish_settles None = s
    finish_settles (Some k) = either Settled (nat_eq k.txn txn) _ _ (settles _) s
step_settles r pass (Leave number) s = either Settled (is_reserved_by r.reservation number) _ _ (settles _) (either Settled (is_waiting r number) _ _ (settles _) s)
step_settles r pass (Look number) s = s

pub step_keeps_lawful : (r : Record) (pass : ℕ) (call : Call) → IsLawful r → IsLawful (step r pass call).after
step_keeps_lawful r pass call l =
    let orderly : IsOrderly r = record { fits = lawful_fits r l; rises = l.first.writers_rise } in
    let after = step_orderly r pass call orderly in
    let stand = step_once r pass call orderly (record { differ = lawful_differ r l; apart = lawful_apart r l }) in
    lawful_from (step r pass call).after after.fits after.rises stand.differ stand.apart (step_owned r pass call (lawful_owned r l)) (step_settles r pass call l.first.is_settled)

pub empty_is_lawful : IsLawful empty
empty_is_lawful = lawful_from empty (refl, refl) tt tt tt (record { reservation = tt; writers = tt }) refl

lawful_after : (r : Record) (past rest : List Event) → IsLegalFrom r (past ++ rest) → IsLawful r → IsLawful (record_after r past)
lawful_after r [] rest legal l = l
lawful_after r (e ∷ past) rest legal l = lawful_after (step r e.pass e.call).after past rest legal.2 (step_keeps_lawful r e.pass e.call l)

pub lawful : (past rest : List Event) → IsLegal (past ++ rest) → IsLawful (record_after empty past)
lawful past rest legal = lawful_after empty past rest legal empty_is_lawful

-- ---- after a release

-- a writer without a transaction before the others does not change the least of those that have one
least_more : (w : QueuedWriter) (ws : List QueuedWriter) (next : Option QueuedRequest) → has_txn w ≡ false → IsLeast ws next → IsLeast (w ∷ ws) next
least_more w ws None e l = (e, l)
least_more w ws (Some s) e l = (
  subst (λ b. Contains (map (λ v. v.request) (cond b (w ∷ filter has_txn ws) (filter has_txn ws))) s) (sym e) l.0,
  (λ has. absurd (true≢false (sym has ∙ e)), l.1),
)

least_here : (w : QueuedWriter) (ws : List QueuedWriter) → has_txn w ≡ true → AllByRecursion (λ v. writer_number w < writer_number v) ws → IsLeast (w ∷ ws) (Some w.request)
least_here w ws e above = (
  subst (λ b. Contains (map (λ v. v.request) (cond b (w ∷ filter has_txn ws) (filter has_txn ws))) w.request) (sym e) (0, omega arith, refl),
  (λ has. omega arith, all_weaker (λ v. writer_number w < writer_number v) (λ v. has_txn v ≡ true → writer_number w ≤ writer_number v) (λ v lt has. omega arith) ws above),
)

least : (ws : List QueuedWriter) → Rises ws → IsLeast ws (option_map (λ w. w.request) (find has_txn ws))
least [] r = tt
least (w ∷ ws) r = elim (has_txn w) as (λ b. has_txn w ≡ b → IsLeast (w ∷ ws) (option_map (λ v. v.request) (cond b (Some w) (find has_txn ws)))) [
  | true ↦ λ e. least_here w ws e r.0
  | false ↦ λ e. least_more w ws (option_map (λ v. v.request) (find has_txn ws)) e (least ws r.1)
] refl

-- the request is among those that left, and not among the writers that stayed
record WentOn (gone : List QueuedRequest) (kept : List QueuedWriter) (w : QueuedWriter) : Type 0 where
  among : Contains gone w.request
  away : is_queued kept (writer_number w) ≡ false

-- the same, if it is a writer without a transaction and before the next request
abbrev GoesOn : Option QueuedRequest → List QueuedRequest → List QueuedWriter → QueuedWriter → Type 0
GoesOn next gone kept w = has_txn w ≡ false → IfSome next (λ s. writer_number w < number_of s) → WentOn gone kept w

none_above : (n : ℕ) (ws : List QueuedWriter) → AllByRecursion (λ v. n < writer_number v) ws → is_queued ws n ≡ false
none_above n [] a = refl
none_above n (w ∷ ws) a = let here : nat_eq (writer_number w) n ≡ false = let lt : n < writer_number w = a.0 in grind (arith, nat_tests) in rw here (none_above n ws a.1)

one_more : (w : QueuedWriter) (ws kept : List QueuedWriter) (v : QueuedWriter) → w.active ≡ true → WentOn (active_requests ws) kept v → WentOn (active_requests (w ∷ ws)) kept v
one_more w ws kept v active g = record {
  among = subst (λ b. Contains (map (λ x. x.request) (cond b (w ∷ filter (λ x. x.active) ws) (filter (λ x. x.active) ws))) v.request) (sym active) (suc g.among.0, omega (arith, g.among.1), g.among.2);
  away = g.away;
}

first_goes : (w : QueuedWriter) (ws kept : List QueuedWriter) → w.active ≡ true → is_queued kept (writer_number w) ≡ false → WentOn (active_requests (w ∷ ws)) kept w
first_goes w ws kept active away = record {
  among = subst (λ b. Contains (map (λ x. x.request) (cond b (w ∷ filter (λ x. x.active) ws) (filter (λ x. x.active) ws))) w.request) (sym active) (0, omega arith, refl);
  away = away;
}

front_goes : (ws : List QueuedWriter) → Rises ws → AllByRecursion IsAwake ws →
    AllByRecursion (GoesOn (option_map (λ w. w.request) (find has_txn ws)) (active_requests (take (suc (leading ws)) ws)) (drop (suc (leading ws)) ws)) ws
front_goes [] r a = tt
front_goes (w ∷ ws) r a = elim (has_txn w) as (λ b. has_txn w ≡ b → AllByRecursion (GoesOn (option_map (λ v. v.request) (cond b (Some w) (find has_txn ws))) (active_requests (take (suc (cond b 0 (suc (leading ws)))) (w ∷ ws))) (drop (suc (cond b 0 (suc (leading ws)))) (w ∷ ws))) (w ∷ ws)) [
  | true ↦ λ e. (
    λ none. absurd (true≢false (sym e ∙ none)),
    all_weaker (λ v. writer_number w < writer_number v) (GoesOn (Some w.request) (active_requests (take 1 (w ∷ ws))) ws) (λ v lt none before. absurd (omega arith)) ws r.0,
  )
  | false ↦ λ e. let active : w.active ≡ true = a.0 e in (
    λ none before. first_goes w (take (suc (leading ws)) ws) (drop (suc (leading ws)) ws) active (none_above (writer_number w) (drop (suc (leading ws)) ws) (all_drop (λ v. writer_number w < writer_number v) (suc (leading ws)) ws r.0)),
    all_weaker
        (GoesOn (option_map (λ v. v.request) (find has_txn ws)) (active_requests (take (suc (leading ws)) ws)) (drop (suc (leading ws)) ws))
        (GoesOn (option_map (λ v. v.request) (find has_txn ws)) (active_requests (w ∷ take (suc (leading ws)) ws)) (drop (suc (leading ws)) ws))
        (λ v g none before. one_more w (take (suc (leading ws)) ws) (drop (suc (leading ws)) ws) v active (g none before)) ws (front_goes ws r.1 a.1),
  )
] refl

let_among : (qs : List QueuedRequest) (q : QueuedRequest) → Contains qs q → Contains (map through_of qs) (through_of q)
let_among qs q c = let long = length-map qs through_of in let inside = c.1 in (c.0, omega arith, get_or-map through_of qs c.0 q (through_of q) c.1 ∙ ap through_of c.2)

record_after-append : (r : Record) (past : List Event) (e : Event) → record_after r (past ++ e ∷ []) ≡ (step (record_after r past) e.pass e.call).after
record_after-append r [] e = refl
record_after-append r (x ∷ past) e = record_after-append (step r x.pass x.call).after past e

-- a finish that frees the lock releases it
freed_freely : (holder : Option Holder) (r : Record) (txn : ℕ) → (finish_from holder r txn).reply ≡ Freed → finish_from holder r txn ≡ free (record r { holder = None }) Freed
freed_freely None r txn e = cc
freed_freely (Some k) r txn e = elim (nat_eq k.txn txn) as (λ b. (cond b (free (record r { holder = None }) Freed) (unchanged r Other)).reply ≡ Freed → cond b (free (record r { holder = None }) Freed) (unchanged r Other) ≡ free (record r { holder = None }) Freed) [
  | true ↦ λ e. refl
  | false ↦ λ e. cc
] e

kept_numbers : (n : ℕ) (ws : List QueuedWriter) → list_any (λ m. nat_eq m n) (map number_of (map (λ w. w.request) ws ++ [])) ≡ is_queued ws n
kept_numbers n [] = refl
kept_numbers n (w ∷ ws) = ap (λ b. nat_eq (writer_number w) n || b) (kept_numbers n ws)

-- a number that is below the next request's and not among the kept writers is no longer at the key
none_left : (n : ℕ) (next : Option QueuedRequest) (kept : List QueuedWriter) → IfSome next (λ s. n < number_of s) → is_queued kept n ≡ false → list_any (λ m. nat_eq m n) (map number_of (option_to_list next) ++ map number_of (map (λ w. w.request) kept ++ [])) ≡ false
none_left n None kept below away = kept_numbers n kept ∙ away
none_left n (Some s) kept below away =
    let other : nat_eq (number_of s) n ≡ false = grind (arith, nat_tests) in
    rw other (kept_numbers n kept ∙ away)

-- the release of a lock has passed it to the least writer
abbrev NextIs : Record → Event → Record → Type 0
NextIs r e after = IsLeast r.writers after.reservation × AllByRecursion (λ w. has_txn w ≡ false → IfSome after.reservation (λ s. writer_number w < number_of s) → IsGone e after w) r.writers

free_next : (r : Record) (e : Event) → Rises r.writers → AllByRecursion IsAwake r.writers → e.lets ≡ (free (record r { holder = None }) Freed).lets → NextIs r e (free (record r { holder = None }) Freed).after
free_next r e rises awake lets =
    let next = option_map (λ w. w.request) (find has_txn r.writers) in
    let gone = active_requests (take (suc (leading r.writers)) r.writers) in
    let kept = drop (suc (leading r.writers)) r.writers in (
      least r.writers rises,
      all_weaker (GoesOn next gone kept) (λ w. has_txn w ≡ false → IfSome next (λ s. writer_number w < number_of s) → IsGone e (free (record r { holder = None }) Freed).after w)
          (λ w g none before. let went = g none before in record {
            let_through = subst (λ l. Contains l (through_of w.request)) (sym lets) (let_among (r.readers ++ gone) w.request (Contains-append_right r.readers gone w.request went.among));
            left = none_left (writer_number w) next kept before went.away;
          }) r.writers (front_goes r.writers rises awake),
    )

pub least_is_next : (past rest : List Event) (e : Event) → IsLegal (past ++ e ∷ rest) → e.reply ≡ Freed →
    let before = (record_after empty past).writers in
    let after = record_after empty (past ++ e ∷ []) in
    IsLeast before after.reservation × AllByRecursion (λ w. has_txn w ≡ false → IfSome after.reservation (λ s. writer_number w < number_of s) → IsGone e after w) before
least_is_next past rest e legal freed =
    let r = record_after empty past in
    let here = rest_legal empty past (e ∷ rest) legal in
    let finish = only_finish_frees r e.pass e.call (sym here.0 ∙ freed) in
    let txn = finish.0 in
    let call : e.call ≡ Finish txn = finish.1 in
    let reply : e.reply ≡ (finish_from r.holder r txn).reply = rw call at here.0 in
    let lets : e.lets ≡ (finish_from r.holder r txn).lets = rw call at here.1 in
    let free : finish_from r.holder r txn ≡ free (record r { holder = None }) Freed = freed_freely r.holder r txn (sym reply ∙ freed) in
    let l : IsLawful r = lawful past (e ∷ rest) legal in
    let after : record_after empty (past ++ e ∷ []) ≡ (finish_from r.holder r txn).after = record_after-append empty past e ∙ ap (λ c. (step r e.pass c).after) call in
    subst (NextIs r e) (sym (after ∙ ap (λ o. o.after) free)) (free_next r e l.first.writers_rise l.writers_without_txn_wait (lets ∙ ap (λ o. o.lets) free))
