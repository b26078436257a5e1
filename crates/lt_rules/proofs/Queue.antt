-- The position of a request among the writers, and the eligible waiters.
use Rattle.std.proofs.Common.{◌≡◌, ℕ, zero, suc, ◌+◌, ◌<◌, ◌≢◌, Bool, true, false, ◌&&◌, ◌||◌, cond, not, List, [], ◌∷◌, length, map, filter, get_or, set, Option, Some, None, slice_get, refl, sym, ap, ◌∙◌, arith, nat_eq, nat_lt}
use Rattle.std.specs.List.{insert, list_any, find, prefix_len}
use Rattle.std.specs.Option.{option_map}
use Rattle.std.proofs.lemmas.Bool.Decides.{nat_tests}
use Rattle.lt_rules.specs.declared.queued.QueuedRequest.{QueuedRequest}
use Rattle.lt_rules.specs.declared.queued.QueuedWriter.{QueuedWriter}
use Rattle.lt_rules.specs.Rules.{number_of, writer_number, has_txn, is_eligible, eligible, leading}
use Rattle.lt_rules.specs.Visit.{enqueue, position, waiting}

-- a count that proceeds past the first
passes : (b : Bool) (n i : ℕ) → suc i ≡ cond b (1 + n) 0 → (b ≡ true) × (i ≡ n)
passes true n i e = (refl, omega arith)
passes false n i e = absurd (omega arith)

-- a count that stops at the first
stops : (b : Bool) (n : ℕ) → 0 ≡ cond b (1 + n) 0 → b ≡ false
stops true n e = absurd (omega arith)
stops false n e = refl

-- if the writer at its position has its number, the request replaces it
pub enqueue_set : (ws : List QueuedWriter) (q : QueuedRequest) (w : QueuedWriter) (i : ℕ) → i ≡ position ws q → i < length ws → w ≡ get_or ws i w → writer_number w ≡ number_of q → set ws i (waiting q) ≡ enqueue ws q
enqueue_set [] q w i e lt at same = absurd (omega arith)
enqueue_set (x ∷ ws) q w zero e lt at same =
    let number : writer_number x ≡ number_of q = ap writer_number (sym at) ∙ same in
    grind (arith, nat_tests)
enqueue_set (x ∷ ws) q w (suc i) e lt at same =
    let p : (nat_lt (writer_number x) (number_of q) ≡ true) × (i ≡ position ws q) = passes _ _ i e in
    let rest : set ws i (waiting q) ≡ enqueue ws q = enqueue_set ws q w i p.1 (omega arith) at same in
    grind (arith, nat_tests)

-- otherwise, the request is inserted there
pub enqueue_insert : (ws : List QueuedWriter) (q : QueuedRequest) (i : ℕ) → i ≡ position ws q → (i < length ws → (w : QueuedWriter) × (w ≡ get_or ws i w) × (writer_number w ≢ number_of q)) → insert ws i (waiting q) ≡ enqueue ws q
enqueue_insert [] q i e other = rw e refl
enqueue_insert (x ∷ ws) q zero e other =
    let w = other (omega arith) in
    let no : writer_number x ≢ number_of q = λ same. w.2 (ap writer_number w.1 ∙ same) in
    let s : nat_lt (writer_number x) (number_of q) ≡ false = stops _ _ e in
    grind (arith, nat_tests)
enqueue_insert (x ∷ ws) q (suc i) e other =
    let p : (nat_lt (writer_number x) (number_of q) ≡ true) × (i ≡ position ws q) = passes _ _ i e in
    let rest : insert ws i (waiting q) ≡ enqueue ws q = enqueue_insert ws q i p.1 (λ lt. other (omega arith)) in
    grind (arith, nat_tests)

-- the first eligible waiter, if there is no reader
pub first_of_writers : (reservation : Option QueuedRequest) (writers : List QueuedWriter) → slice_get (eligible reservation [] writers) 0 ≡ option_map writer_number (find (is_eligible reservation) writers)
first_of_writers reservation [] = refl
first_of_writers reservation (w ∷ ws) =
    elim (is_eligible reservation w) as (λ b. slice_get (map writer_number (cond b (w ∷ filter (is_eligible reservation) ws) (filter (is_eligible reservation) ws))) 0 ≡ option_map writer_number (cond b (Some w) (find (is_eligible reservation) ws))) [
      | true ↦ refl
      | false ↦ first_of_writers reservation ws
    ]

any_of_writers : (reservation : Option QueuedRequest) (writers : List QueuedWriter) (n : ℕ) → list_any (λ m. nat_eq m n) (map writer_number (filter (is_eligible reservation) writers)) ≡ list_any (λ w. is_eligible reservation w && nat_eq (writer_number w) n) writers
any_of_writers reservation [] n = refl
any_of_writers reservation (w ∷ ws) n =
    elim (is_eligible reservation w) as (λ b. list_any (λ m. nat_eq m n) (map writer_number (cond b (w ∷ filter (is_eligible reservation) ws) (filter (is_eligible reservation) ws))) ≡ ((b && nat_eq (writer_number w) n) || list_any (λ v. is_eligible reservation v && nat_eq (writer_number v) n) ws)) [
      | true ↦ ap (λ b. nat_eq (writer_number w) n || b) (any_of_writers reservation ws n)
      | false ↦ any_of_writers reservation ws n
    ]

-- a number among the eligible is that of a reader or of an eligible writer
pub any_eligible : (reservation : Option QueuedRequest) (readers : List QueuedRequest) (writers : List QueuedWriter) (n : ℕ) → list_any (λ m. nat_eq m n) (eligible reservation readers writers) ≡ (list_any (λ q. nat_eq (number_of q) n) readers || list_any (λ w. is_eligible reservation w && nat_eq (writer_number w) n) writers)
any_eligible reservation [] writers n = any_of_writers reservation writers n
any_eligible reservation (q ∷ readers) writers n =
    elim (nat_eq (number_of q) n) as (λ b. (b || list_any (λ m. nat_eq m n) (eligible reservation readers writers)) ≡ ((b || list_any (λ q. nat_eq (number_of q) n) readers) || list_any (λ w. is_eligible reservation w && nat_eq (writer_number w) n) writers)) [
      | true ↦ refl
      | false ↦ any_eligible reservation readers writers n
    ]

-- if there is no reader, it is the first eligible writer
pub first_without_readers : (reservation : Option QueuedRequest) (readers : List QueuedRequest) (writers : List QueuedWriter) → slice_get readers 0 ≡ None → slice_get (eligible reservation readers writers) 0 ≡ option_map writer_number (find (is_eligible reservation) writers)
first_without_readers reservation [] writers none = first_of_writers reservation writers
first_without_readers reservation (q ∷ readers) writers none = cc

-- otherwise, it is the first reader
pub first_of_readers : (reservation : Option QueuedRequest) (readers : List QueuedRequest) (writers : List QueuedWriter) (q : QueuedRequest) → slice_get readers 0 ≡ Some q → slice_get (eligible reservation readers writers) 0 ≡ Some (number_of q)
first_of_readers reservation [] writers q some = cc
first_of_readers reservation (r ∷ readers) writers q some = let e : r ≡ q = cc in ap (λ x. Some (number_of x)) e

-- ---- the writers that leave when the lock comes free

pub leading_is_prefix : (ws : List QueuedWriter) → prefix_len (λ w. not (has_txn w)) ws ≡ leading ws
leading_is_prefix [] = refl
leading_is_prefix (w ∷ ws) = elim (has_txn w) as (λ b. cond (not b) (1 + prefix_len (λ w. not (has_txn w)) ws) 0 ≡ cond b 0 (suc (leading ws))) [
  | true ↦ refl
  | false ↦ omega (arith, leading_is_prefix ws)
]

-- if all writers are without a transaction, none of them is next
pub none_next : (ws : List QueuedWriter) → leading ws ≡ length ws → find has_txn ws ≡ None
none_next [] e = refl
none_next (w ∷ ws) e = elim (has_txn w) as (λ b. cond b 0 (suc (leading ws)) ≡ suc (length ws) → cond b (Some w) (find has_txn ws) ≡ None) [
  | true ↦ λ e. absurd (omega arith)
  | false ↦ λ e. none_next ws (omega arith)
] e

-- otherwise, the writer after them is next
pub next_behind : (ws : List QueuedWriter) (v : QueuedWriter) → leading ws < length ws → find has_txn ws ≡ Some (get_or ws (leading ws) v)
next_behind [] v lt = absurd (omega arith)
next_behind (w ∷ ws) v lt = elim (has_txn w) as (λ b. cond b 0 (suc (leading ws)) < suc (length ws) → cond b (Some w) (find has_txn ws) ≡ Some (get_or (w ∷ ws) (cond b 0 (suc (leading ws))) v)) [
  | true ↦ λ lt. refl
  | false ↦ λ lt. next_behind ws v (omega arith)
] lt
