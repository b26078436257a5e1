-- How many requests are at a key, before and after a step. Only a visit brings one more.
use Rattle.std.proofs.Common.{◌≡◌, ◌+◌, ◌<◌, ◌≤◌, ◌⊎◌, inl, inr, ℕ, true, false, cond, suc, not, List, [], ◌∷◌, ◌++◌, length, map, filter, drop, Option, Some, None, unwrap_or, refl, sym, ap, subst, ◌∙◌, arith, nat_eq}
use Rattle.std.specs.Prelude.{option_to_list}
use Rattle.std.specs.Option.{option_map}
use Rattle.std.specs.List.{find}
use Rattle.std.specs.FinMap as finmap
use Rattle.std.specs.FinMap.{get-empty}
use mathlib.Core.Bool.{true≢false}
use Rattle.std.specs.Ordering.{nat_cmp, match_ordering}
use Rattle.std.specs.declared.cmp.Ordering.TheVariants.{Less, Equal, Greater}
use Rattle.std.proofs.lemmas.List.{length-append, length-map}
use Rattle.lt_ids.specs.declared.timestamp.Timestamp.{Timestamp}
use Rattle.lt_ids.specs.declared.request.Access.{Access}
use Rattle.lt_ids.specs.declared.request.Access.TheVariants.{Read, Write}
use Rattle.lt_ids.specs.declared.ticket.Through.{Through}
use Rattle.lt_ids.specs.Ids.{is_below}
use Rattle.lt_rules.specs.declared.queued.Holder.{Holder}
use Rattle.lt_rules.specs.declared.queued.QueuedRequest.{QueuedRequest}
use Rattle.lt_rules.specs.declared.queued.QueuedWriter.{QueuedWriter}
use Rattle.lt_rules.specs.declared.call.Call.{Call}
use Rattle.lt_rules.specs.declared.call.Call.TheVariants.{Visit, Acquire, Update, Finish, Leave, Look}
use Rattle.lt_rules.specs.declared.call.Reply.{Reply}
use Rattle.lt_rules.specs.declared.call.Reply.TheVariants.{Freed, Left}
use Rattle.lt_rules.specs.Rules.{Record, empty, number_of, writer_number, has_txn, is_of, is_txn, Outcome, free, raise_to, take_lock, leading, set_back, acquire, acquire_from, update, update_from, finish, finish_from, leave, is_reserved_by, is_waiting, stop_reading, without_reader, without_writer, active_requests}
use Rattle.lt_rules.specs.Visit.{visit, visit_lock, enqueue, waiting, is_queued, wait_to_write, join_writers}
use Rattle.lt_rules.specs.Lawful.{waiters}
use Rattle.lt_rules.specs.Step.{step}
use Rattle.lt_rules.specs.Table.{Records, record_at, IsStep}
use Rattle.lt_rules.specs.Memory.{how_many, MayLack, HasRoom, Begins, gives_up}
use Rattle.lt_rules.proofs.Holders.{either, one_of_three, joined, displaced}
use Rattle.lt_rules.proofs.Maps.{order, same_or_apart}
use Rattle.lt_rules.proofs.FewLets.{how_many_wait, few_filtered, few_acquired, few_updated, few_finished, few_left}

-- how many requests hold this reservation
abbrev pub there : Option QueuedRequest → ℕ
there None = 0
there (Some q) = 1

-- the same count, part by part
abbrev pub size : Record → ℕ
size r = there r.reservation + (length r.writers + length r.readers)

there_is : (s : Option QueuedRequest) → length (map number_of (option_to_list s)) ≡ there s
there_is None = refl
there_is (Some q) = refl

pub how_many_is : (r : Record) → how_many r ≡ size r
how_many_is r =
    let all : how_many r ≡ length (map number_of (option_to_list r.reservation)) + length (map number_of (waiters r)) = length-append (map number_of (option_to_list r.reservation)) (map number_of (waiters r)) in
    let reserved : length (map number_of (option_to_list r.reservation)) ≡ there r.reservation = there_is r.reservation in
    let queued : length (map number_of (waiters r)) ≡ length (waiters r) = length-map (waiters r) number_of in
    let both : length (waiters r) ≡ length (map (λ w. w.request) r.writers) + length r.readers = length-append (map (λ w. w.request) r.writers) r.readers in
    let writers : length (map (λ w. w.request) r.writers) ≡ length r.writers = length-map r.writers (λ w. w.request) in
    omega (arith, all, reserved, queued, both, writers)

-- the outcome has at most this many requests
abbrev HasFew : ℕ → Outcome → Type 0
HasFew n o = size o.after ≤ n

next_fits : (ws : List QueuedWriter) → there (option_map (λ w. w.request) (find has_txn ws)) + length (drop (suc (leading ws)) ws) ≤ length ws
next_fits [] = omega arith
next_fits (w ∷ ws) = let rest = next_fits ws in elim (has_txn w) as (λ b. there (option_map (λ v. v.request) (cond b (Some w) (find has_txn ws))) + length (drop (suc (cond b 0 (suc (leading ws)))) (w ∷ ws)) ≤ suc (length ws)) [
  | true ↦ omega arith
  | false ↦ omega (arith, rest)
]

back_fits : (s : Option QueuedRequest) → length (set_back s) ≡ there s
back_fits None = refl
back_fits (Some q) = refl

freed : (n : ℕ) (r : Record) (reply : Reply) → length r.writers ≤ n → HasFew n (free r reply)
freed n r reply few = let next = next_fits r.writers in omega (arith, next, few)

raised : (n : ℕ) (r : Record) (h : Holder) (ts : Timestamp) → size r ≤ n → HasFew n (raise_to r h ts)
raised n r h ts few = let rest = few_filtered (λ q. not (is_below q.ts ts)) r.readers in omega (arith, rest, few)

taken : (n : ℕ) (r : Record) (h : Holder) → size r ≤ n → HasFew n (take_lock r h)
taken n r h few =
    let rest : length (filter (λ w. not (is_of h.txn w)) (set_back r.reservation ++ r.writers)) ≤ length (set_back r.reservation ++ r.writers) = few_filtered (λ w. not (is_of h.txn w)) (set_back r.reservation ++ r.writers) in
    let both : length (set_back r.reservation ++ r.writers) ≡ length (set_back r.reservation) + length r.writers = length-append (set_back r.reservation) r.writers in
    let back = back_fits r.reservation in
    omega (arith, rest, both, back, few)

acquired : (n : ℕ) (r : Record) (holder : Option Holder) (h : Holder) → size r ≤ n → HasFew n (acquire_from holder r h)
acquired n r None h few = taken n r h few
acquired n r (Some k) h few = either (HasFew n) (nat_eq k.txn h.txn) _ _ (either (HasFew n) (is_below k.ts h.ts) _ _ (raised n r k h.ts few) few) few

updated : (n : ℕ) (r : Record) (holder : Option Holder) (txn : ℕ) (ts : Timestamp) → size r ≤ n → HasFew n (update_from holder r txn ts)
updated n r None txn ts few = few
updated n r (Some k) txn ts few = either (HasFew n) (nat_eq k.txn txn) _ _ (either (HasFew n) (is_below k.ts ts) _ _ (raised n r k ts few) few) few

finished : (n : ℕ) (r : Record) (holder : Option Holder) (txn : ℕ) → size r ≤ n → HasFew n (finish_from holder r txn)
finished n r None txn few = few
finished n r (Some k) txn few = either (HasFew n) (nat_eq k.txn txn) _ _ (freed n (record r { holder = None }) Freed (omega (arith, few))) few

left : (n : ℕ) (r : Record) (number : ℕ) → size r ≤ n → HasFew n (leave r number)
left n r number few =
    either (HasFew n) (is_reserved_by r.reservation number) _ _ (freed n (record r { reservation = None }) Left (omega (arith, few)))
    (either (HasFew n) (is_waiting r number) _ _ (gone n r number few) few)
  where
    gone : (n : ℕ) (r : Record) (number : ℕ) → size r ≤ n → there r.reservation + (length (without_writer r.writers number) + length (without_reader r.readers number)) ≤ n
    gone n r number few =
        let writers = few_filtered (λ w. not (nat_eq (writer_number w) number)) r.writers in
        let readers = few_filtered (λ q. not (nat_eq (number_of q) number)) r.readers in
        omega (arith, writers, readers, few)

-- a request that stops reading
pub stopped : (r : Record) (number : ℕ) → size (stop_reading r number) ≤ size r
stopped r number = let readers = few_filtered (λ q. not (nat_eq (number_of q) number)) r.readers in omega (arith, readers)

pub stopped_many : (r : Record) (number : ℕ) → how_many (stop_reading r number) ≤ how_many r
stopped_many r number =
    let old = how_many_is r in
    let new = how_many_is (stop_reading r number) in
    let few = stopped r number in
    omega (arith, old, new, few)

enqueued : (ws : List QueuedWriter) (q : QueuedRequest) → length (enqueue ws q) ≤ suc (length ws)
enqueued [] q = omega arith
enqueued (w ∷ ws) q = let rest = enqueued ws q in elim (nat_cmp (number_of q) (writer_number w)) as (λ o. length (match_ordering o (waiting q ∷ w ∷ ws) (waiting q ∷ ws) (w ∷ enqueue ws q)) ≤ suc (suc (length ws))) [
  | Less ↦ omega arith
  | Equal ↦ omega arith
  | Greater ↦ omega (arith, rest)
]

queued : (n : ℕ) (r : Record) (q : QueuedRequest) → size r ≤ n → HasFew (suc n) (wait_to_write r q)
queued n r q few = let writers = enqueued r.writers q in omega (arith, writers, few)

same : (n : ℕ) (r : Record) → size r ≤ n → size r ≤ suc n
same n r few = omega (arith, few)

joins : (n : ℕ) (r : Record) (q : QueuedRequest) (longest : ℕ) → size r ≤ n → HasFew (suc n) (join_writers r q longest)
joins n r q longest few = joined (HasFew (suc n)) r q longest (same n r few) (queued n r q few)

visited : (n : ℕ) (holder : Option Holder) (s : Option QueuedRequest) (r : Record) (q : QueuedRequest) (longest : ℕ) (access : Access) → r.reservation ≡ s → size r ≤ n → HasFew (suc n) (visit_lock holder s r q longest access)
visited n None None r q longest access is few = same n r few
visited n None (Some s) r q longest Read is few = same n r few
visited n None (Some s) r q longest Write is few =
    one_of_three (HasFew (suc n)) (nat_cmp (number_of q) (number_of s)) _ _ _
    (displaced q.txn (HasFew (suc n)) r s q (same n r few) (let one : there r.reservation ≡ 1 = ap there is in omega (arith, one, few)))
    (same n r few)
    (joins n r q longest few)
visited n (Some h) s r q longest Read is few =
    either (HasFew (suc n)) (is_txn q.txn h.txn) _ _ (same n r few)
    (either (HasFew (suc n)) (is_below q.ts h.ts) _ _ (same n r few)
    (either (HasFew (suc n)) (is_queued r.writers (number_of q)) _ _ (queued n r q few) (omega (arith, few))))
visited n (Some h) s r q longest Write is few = either (HasFew (suc n)) (is_txn q.txn h.txn) _ _ (same n r few) (joins n r q longest few)

-- a visit brings at most one request more
pub visit_many : (r : Record) (q : QueuedRequest) (longest : ℕ) (access : Access) → how_many (visit r q longest access).after ≤ suc (how_many r)
visit_many r q longest access =
    let old = how_many_is r in
    let new = how_many_is (visit r q longest access).after in
    let few : size (visit_lock r.holder r.reservation (stop_reading r (number_of q)) q longest access).after ≤ suc (size r) = visited (size r) r.holder r.reservation (stop_reading r (number_of q)) q longest access refl (stopped r (number_of q)) in
    omega (arith, old, new, few)

module _ (r : Record) where
  fewer : (o : Outcome) → HasFew (size r) o → how_many o.after ≤ how_many r
  fewer o few =
      let old = how_many_is r in
      let new = how_many_is o.after in
      omega (arith, old, new, few)

  all_there : size r ≤ size r
  all_there = omega arith

  -- the other calls bring none
  pub acquire_many : (txn : ℕ) (ts : Timestamp) → how_many (acquire r txn ts).after ≤ how_many r
  acquire_many txn ts = fewer (acquire r txn ts) (acquired (size r) r r.holder (record { txn = txn; ts = ts }) all_there)

  pub update_many : (txn : ℕ) (ts : Timestamp) → how_many (update r txn ts).after ≤ how_many r
  update_many txn ts = fewer (update r txn ts) (updated (size r) r r.holder txn ts all_there)

  pub finish_many : (txn : ℕ) → how_many (finish r txn).after ≤ how_many r
  finish_many txn = fewer (finish r txn) (finished (size r) r r.holder txn all_there)

  pub leave_many : (number : ℕ) → how_many (leave r number).after ≤ how_many r
  leave_many number = fewer (leave r number) (left (size r) r number all_there)

-- who waits is at the key
waits_many : (r : Record) → how_many_wait r ≤ how_many r
waits_many r =
    let all = how_many_is r in
    let writers : length (active_requests r.writers) ≤ length r.writers = let few = few_filtered (λ w. w.active) r.writers in let same = length-map (filter (λ (w : QueuedWriter). w.active) r.writers) (λ w. w.request) in omega (arith, few, same) in
    omega (arith, all, writers)

enough : (r : Record) (lets room : ℕ) → lets ≤ how_many_wait r → how_many r ≤ room → room < lets → ⊥
enough r lets room few fits lacks = let waits = waits_many r in omega (arith, few, fits, lacks, waits)

either_of : {A B : Type 0} → A ⊎ B → (B → ⊥) → A
either_of (inl a) wrong = a
either_of (inr b) wrong = absurd (wrong b)

pub releases_need_no_memory : (r : Record) (call : Call) (room : ℕ) → how_many r ≤ room → MayLack r call room → Begins r call
releases_need_no_memory r (Visit ticket txn ts access longest) room fits lacks = tt
releases_need_no_memory r (Acquire txn ts) room fits lacks = either_of lacks (enough r (length (acquire r txn ts).lets) room (few_acquired r txn ts) fits)
releases_need_no_memory r (Update txn ts) room fits lacks = enough r (length (update r txn ts).lets) room (few_updated r txn ts) fits lacks
releases_need_no_memory r (Finish txn) room fits lacks = enough r (length (finish r txn).lets) room (few_finished r txn) fits lacks
releases_need_no_memory r (Leave number) room fits lacks = enough r (length (leave r number).lets) room (few_left r number) fits lacks
releases_need_no_memory r (Look number) room fits lacks = lacks

-- A list keeps room for the lets of every key, if it has room for those of the key at which the step was made.
pub room_stepped : (old new : Records) (k : List ℕ) (act : Record → Outcome) (reply : Reply) (lets : List Through) (room more : ℕ) → IsStep old k act reply lets new → room ≤ more → (how_many (record_at old k) ≤ room → how_many (act (record_at old k)).after ≤ more) → HasRoom old room → HasRoom new more
room_stepped old new k act reply lets room more step grown here has q = elim (same_or_apart q k) [
  | inl s ↦ subst (λ r. how_many r ≤ more) (sym (ap (record_at new) s.0 ∙ step.here)) (here (has k))
  | inr d ↦
      let same : record_at new q ≡ record_at old q = ap (λ o. unwrap_or o empty) (step.others q d.0) in
      let few = subst (λ r. how_many r ≤ room) (sym same) (has q) in
      omega (arith, few, grown)
]

-- a call that gives something up begins nothing
pub begins_nothing : (r : Record) (call : Call) → gives_up call ≡ true → Begins r call → ⊥
begins_nothing r (Visit ticket txn ts access longest) up begins = true≢false (sym up)
begins_nothing r (Acquire txn ts) up begins = true≢false (sym up)
begins_nothing r (Update txn ts) up begins = begins
begins_nothing r (Finish txn) up begins = begins
begins_nothing r (Leave number) up begins = begins
begins_nothing r (Look number) up begins = begins

-- a table without records has room for no lets at all
pub no_room_needed : (room : ℕ) → HasRoom finmap.empty room
no_room_needed room q = subst (λ r. how_many r ≤ room) (sym (ap (λ o. unwrap_or o empty) (get-empty order q))) (omega arith)
