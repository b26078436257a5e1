-- A release has at most as many lets as requests wait at the key.
use Rattle.std.proofs.Common.{◌≡◌, ◌+◌, ◌≤◌, ℕ, Bool, true, false, cond, zero, suc, List, [], ◌∷◌, ◌++◌, length, map, filter, take, Option, Some, None, arith, nat_eq}
use Rattle.std.proofs.lemmas.List.{length-append, length-map}
use Rattle.lt_ids.specs.declared.timestamp.Timestamp.{Timestamp}
use Rattle.lt_ids.specs.Ids.{is_below}
use Rattle.lt_rules.specs.declared.queued.Holder.{Holder}
use Rattle.lt_rules.specs.declared.queued.QueuedRequest.{QueuedRequest}
use Rattle.lt_rules.specs.declared.queued.QueuedWriter.{QueuedWriter}
use Rattle.lt_rules.specs.declared.call.Reply.TheVariants.{Freed, Left, Kept, Other, Absent}
use Rattle.lt_rules.specs.Rules.{Record, through_of, unchanged, free, raise, raise_to, take_lock, is_of, active_requests, leading, acquire, acquire_from, update, update_from, finish, finish_from, leave, is_reserved_by, is_waiting, without_writer, without_reader, settle}

-- how many requests wait at the key: the readers, and the active writers
abbrev pub how_many_wait : Record → ℕ
how_many_wait r = length r.readers + length (active_requests r.writers)

pub few_filtered : {X : Type 0} (p : X → Bool) (xs : List X) → length (filter p xs) ≤ length xs
few_filtered p [] = omega arith
few_filtered p (x ∷ xs) = let rest = few_filtered p xs in elim (p x) as (λ b. length (cond b (x ∷ filter p xs) (filter p xs)) ≤ suc (length xs)) [
  | true ↦ omega (arith, rest)
  | false ↦ omega (arith, rest)
]

few_taken : (n : ℕ) (ws : List QueuedWriter) → length (active_requests (take n ws)) ≤ length (active_requests ws)
few_taken zero ws = omega arith
few_taken (suc n) [] = omega arith
few_taken (suc n) (w ∷ ws) = let rest = few_taken n ws in elim w.active as (λ b. length (map (λ w. w.request) (cond b (w ∷ filter (λ w. w.active) (take n ws)) (filter (λ w. w.active) (take n ws)))) ≤ length (map (λ w. w.request) (cond b (w ∷ filter (λ w. w.active) ws) (filter (λ w. w.active) ws)))) [
  | true ↦ omega (arith, rest)
  | false ↦ rest
]

few_of : (p : QueuedWriter → Bool) (ws : List QueuedWriter) → length (active_requests (filter p ws)) ≤ length (active_requests ws)
few_of p [] = omega arith
few_of p (w ∷ ws) = let rest = few_of p ws in elim (p w) as (λ a. length (active_requests (cond a (w ∷ filter p ws) (filter p ws))) ≤ length (active_requests (w ∷ ws))) [
  | true ↦ elim w.active as (λ b. length (map (λ w. w.request) (cond b (w ∷ filter (λ w. w.active) (filter p ws)) (filter (λ w. w.active) (filter p ws)))) ≤ length (map (λ w. w.request) (cond b (w ∷ filter (λ w. w.active) ws) (filter (λ w. w.active) ws)))) [
    | true ↦ omega (arith, rest)
    | false ↦ rest
  ]
  | false ↦ elim w.active as (λ b. length (active_requests (filter p ws)) ≤ length (map (λ w. w.request) (cond b (w ∷ filter (λ w. w.active) ws) (filter (λ w. w.active) ws)))) [
    | true ↦ omega (arith, rest)
    | false ↦ rest
  ]
]

few_front : (readers : List QueuedRequest) (writers : List QueuedWriter) → length (map through_of (readers ++ active_requests (take (suc (leading writers)) writers))) ≤ length readers + length (active_requests writers)
few_front readers writers =
    let front : List QueuedRequest = active_requests (take (suc (leading writers)) writers) in
    let all : length (map through_of (readers ++ front)) ≡ length (readers ++ front) = length-map (readers ++ front) through_of in
    let sum : length (readers ++ front) ≡ length readers + length front = length-append readers front in
    let few : length front ≤ length (active_requests writers) = few_taken (suc (leading writers)) writers in
    omega (arith, all, sum, few)

few_raised : (r : Record) (h : Holder) (ts : Timestamp) → length (raise r h ts).lets ≤ how_many_wait r
few_raised r h ts =
    let below : List QueuedRequest = filter (λ q. is_below q.ts ts) r.readers in
    let all : length (map through_of below) ≡ length below = length-map below through_of in
    let few : length below ≤ length r.readers = few_filtered (λ q. is_below q.ts ts) r.readers in
    elim (is_below h.ts ts) as (λ b. length (cond b (raise_to r h ts) (unchanged r Kept)).lets ≤ how_many_wait r) [
      | true ↦ omega (arith, all, few)
      | false ↦ omega arith
    ]

few_taken_lock : (r : Record) (h : Holder) → length (take_lock r h).lets ≤ how_many_wait r
few_taken_lock r h =
    let own : List QueuedRequest = active_requests (filter (is_of h.txn) r.writers) in
    let all : length (map through_of own) ≡ length own = length-map own through_of in
    let few : length own ≤ length (active_requests r.writers) = few_of (is_of h.txn) r.writers in
    omega (arith, all, few)

pub few_acquired : (r : Record) (txn : ℕ) (ts : Timestamp) → length (acquire r txn ts).lets ≤ how_many_wait r
few_acquired r txn ts = go r.holder
  where
    go : (h : Option Holder) → length (acquire_from h r (record { txn = txn; ts = ts })).lets ≤ how_many_wait r
    go None = few_taken_lock r (record { txn = txn; ts = ts })
    go (Some h) = elim (nat_eq h.txn txn) as (λ b. length (cond b (raise r h ts) (unchanged r Other)).lets ≤ how_many_wait r) [
      | true ↦ few_raised r h ts
      | false ↦ omega arith
    ]

pub few_updated : (r : Record) (txn : ℕ) (ts : Timestamp) → length (update r txn ts).lets ≤ how_many_wait r
few_updated r txn ts = go r.holder
  where
    go : (h : Option Holder) → length (update_from h r txn ts).lets ≤ how_many_wait r
    go None = omega arith
    go (Some h) = elim (nat_eq h.txn txn) as (λ b. length (cond b (raise r h ts) (unchanged r Other)).lets ≤ how_many_wait r) [
      | true ↦ few_raised r h ts
      | false ↦ omega arith
    ]

pub few_finished : (r : Record) (txn : ℕ) → length (finish r txn).lets ≤ how_many_wait r
few_finished r txn = go r.holder
  where
    go : (h : Option Holder) → length (finish_from h r txn).lets ≤ how_many_wait r
    go None = omega arith
    go (Some h) = elim (nat_eq h.txn txn) as (λ b. length (cond b (free (record r { holder = None }) Freed) (unchanged r Other)).lets ≤ how_many_wait r) [
      | true ↦ few_front r.readers r.writers
      | false ↦ omega arith
    ]

pub few_left : (r : Record) (n : ℕ) → length (leave r n).lets ≤ how_many_wait r
few_left r n = elim (is_reserved_by r.reservation n) as (λ b. length (cond b (free (record r { reservation = None }) Left) (cond (is_waiting r n) (record {
  after = settle (record r { writers = without_writer r.writers n; readers = without_reader r.readers n });
  reply = Left;
  lets = [];
}) (unchanged r Absent))).lets ≤ how_many_wait r) [
  | true ↦ few_front r.readers r.writers
  | false ↦ elim (is_waiting r n) as (λ b. length (cond b (record {
    after = settle (record r { writers = without_writer r.writers n; readers = without_reader r.readers n });
    reply = Left;
    lets = [];
  }) (unchanged r Absent)).lets ≤ how_many_wait r) [
    | true ↦ omega arith
    | false ↦ omega arith
  ]
]
