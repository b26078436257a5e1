-- The three maps that a contract sees of `Links`, and the effect of each call on them.
use Rattle.std.specs.Prelude.{◌≡◌, ◌≢◌, ℕ, Bool, true, false, cond, nat_eq, List, [], ◌∷◌, ◌++◌, Option, Some, None, unwrap_or, is_some, refl}
use Rattle.std.specs.Ordering.{nat_cmp}
use Rattle.std.specs.Option.{option_map}
use Rattle.std.specs.FinMap as map
use Rattle.std.specs.FinMap.{FinMap}
use Rattle.lt_links.specs.declared.stand.Stand.{Stand}
use Rattle.lt_links.specs.declared.ids.Queue.{Queue}
use Rattle.lt_links.specs.declared.ids.QueueKind.{QueueKind}
use Rattle.lt_links.specs.declared.ids.QueueKind.TheVariants.{Writers, Readers, Reservation}
use Rattle.std.specs.Coded.{Coded, code_by, coded×, coded_ℕ, coded_list}
use Rattle.lt_links.specs.contracts.stand.Stand as stand_type
use Rattle.lt_links.specs.Ring.{has, Distinct, without, put_after}

-- the nodes of a record's queues, in order
pub record Lists : Type 0 where
  pub writers : List ℕ
  pub readers : List ℕ
  pub reservation : List ℕ

abbrev pub no_lists : Lists
no_lists = record { writers = []; readers = []; reservation = [] }

-- the queues of each record, the nodes of each number, and the queue entry of each node
pub record Maps : Type 0 where
  pub records : FinMap nat_cmp Lists
  pub numbers : FinMap nat_cmp (List ℕ)
  pub stands : FinMap nat_cmp Stand

abbrev pub no_maps : Maps
no_maps = record { records = map.empty; numbers = map.empty; stands = map.empty }

abbrev pub list_of : Lists → QueueKind → List ℕ
list_of l Writers = l.writers
list_of l Readers = l.readers
list_of l Reservation = l.reservation

-- the nodes of a queue
abbrev pub queue : Maps → Queue → List ℕ
queue m q = list_of (unwrap_or (map.get m.records q.id) no_lists) q.kind

-- the nodes of a number
abbrev pub owned : Maps → ℕ → List ℕ
owned m number = unwrap_or (map.get m.numbers number) []

-- the queue entry at a node
abbrev pub stand : Maps → ℕ → Option Stand
stand m n = map.get m.stands n

abbrev pub has_record : Maps → ℕ → Bool
has_record m id = is_some (map.get m.records id)

-- whether the number has a list
abbrev pub has_list : Maps → ℕ → Bool
has_list m k = is_some (map.get m.numbers k)

abbrev pub HasNode : Maps → ℕ → Type 0
HasNode m n = is_some (stand m n) ≡ true

-- the number of the queue entry at a node
abbrev pub number_at : Maps → ℕ → Option ℕ
number_at m n = option_map (λ (s : Stand). s.number) (stand m n)

-- the transaction of the queue entry at a node
abbrev pub txn_at : Maps → ℕ → Option (Option ℕ)
txn_at m n = option_map (λ (s : Stand). s.txn) (stand m n)

abbrev pub is_kind : QueueKind → QueueKind → Bool
is_kind Writers Writers = true
is_kind Readers Readers = true
is_kind Reservation Reservation = true
is_kind a b = false

abbrev pub is_queue : Queue → Queue → Bool
is_queue p q = cond (nat_eq p.id q.id) (is_kind p.kind q.kind) false

-- The contents of the maps, as one function each for queues, numbers, nodes and records.
pub record Are (m : Maps) (queues : Queue → List ℕ) (numbers : ℕ → List ℕ) (stands : ℕ → Option Stand) (records : ℕ → Bool) : Type 0 where
  pub queues_are : (q : Queue) → queue m q ≡ queues q
  pub numbers_are : (number : ℕ) → owned m number ≡ numbers number
  pub stands_are : (n : ℕ) → stand m n ≡ stands n
  pub records_are : (id : ℕ) → has_record m id ≡ records id

-- all three queues of a record are empty
abbrev pub IsEmpty : Maps → ℕ → Type 0
IsEmpty m id = (kind : QueueKind) → queue m (record { id = id; kind = kind }) ≡ []

-- one record is added, and nothing else changes
abbrev pub AddsRecord : Maps → Maps → ℕ → Type 0
AddsRecord old new id = Are new (queue old) (owned old) (stand old) (λ i. cond (nat_eq i id) true (has_record old i))

-- one record is dropped, and nothing else changes
abbrev pub DropsRecord : Maps → Maps → ℕ → Type 0
DropsRecord old new id = Are new (queue old) (owned old) (stand old) (λ i. cond (nat_eq i id) false (has_record old i))

-- the queue entries, with this one at node n
abbrev pub with_stand : Maps → ℕ → Stand → ℕ → Option Stand
with_stand m n s i = cond (nat_eq i n) (Some s) (stand m i)

-- the numbers' lists, with a node at the end of the list of one number
abbrev pub with_last : Maps → ℕ → ℕ → ℕ → List ℕ
with_last m number n k = cond (nat_eq k number) (owned m k ++ n ∷ []) (owned m k)

-- a new node comes into a queue, after a position of it, and to the end of its number's list
abbrev pub PutsAfter : Maps → Maps → Queue → Option ℕ → ℕ → Stand → Type 0
PutsAfter old new to at n s =
    Are new (λ q. cond (is_queue q to) (put_after at n (queue old q)) (queue old q)) (with_last old s.number n) (with_stand old n s) (has_record old)

-- a new node comes to the front of a queue, and to the end of its number's list
abbrev pub PushesFront : Maps → Maps → ℕ → Queue → Stand → Type 0
PushesFront old new n to s =
    Are new (λ q. cond (is_queue q to) (n ∷ queue old q) (queue old q)) (with_last old s.number n) (with_stand old n s) (has_record old)

-- a new node comes immediately after another in its queue, and to the end of its number's list
abbrev pub InsertsAfter : Maps → Maps → ℕ → ℕ → Stand → Type 0
InsertsAfter old new before n s =
    Are new (λ q. put_after (Some before) n (queue old q)) (with_last old s.number n) (with_stand old n s) (has_record old)

-- the node is removed
abbrev pub Removes : Maps → Maps → ℕ → Type 0
Removes old new n =
    Are new (λ q. without n (queue old q)) (λ number. without n (owned old number)) (λ i. cond (nat_eq i n) None (stand old i)) (has_record old)

-- the node moves to the front of a queue, and keeps its position in its number's list
abbrev pub MovesFront : Maps → Maps → ℕ → Queue → Type 0
MovesFront old new n to =
    Are new (λ q. cond (is_queue q to) (n ∷ without n (queue old q)) (without n (queue old q))) (owned old) (stand old) (has_record old)

-- the queue entry at the node is replaced
abbrev pub SetsStand : Maps → Maps → ℕ → Stand → Type 0
SetsStand old new n s = Are new (queue old) (owned old) (with_stand old n s) (has_record old)

-- codes by which a proof tells values apart
abbrev pub lists_code : Coded Lists
lists_code =
    code_by (List ℕ × (List ℕ × List ℕ)) (coded× (coded_list coded_ℕ) (coded× (coded_list coded_ℕ) (coded_list coded_ℕ)))
    (λ l. (l.writers, (l.readers, l.reservation))) (λ p. record { writers = p.0; readers = p.1.0; reservation = p.1.1 }) (λ _. refl)

abbrev pub maps_code : Coded Maps
maps_code =
    code_by (FinMap nat_cmp Lists × (FinMap nat_cmp (List ℕ) × FinMap nat_cmp Stand))
    (coded× (map.code coded_ℕ lists_code) (coded× (map.code coded_ℕ (coded_list coded_ℕ)) (map.code coded_ℕ stand_type.the_row.coded)))
    (λ m. (m.records, (m.numbers, m.stands))) (λ p. record { records = p.0; numbers = p.1.0; stands = p.1.1 }) (λ _. refl)

-- Each node is in one queue and in the list of its number, once in each, and no list of a number is empty.
pub record IsSound (m : Maps) : Type 0 where
  pub queues_distinct : (q : Queue) → Distinct (queue m q)
  pub one_queue : (p q : Queue) (n : ℕ) → has n (queue m p) ≡ true → has n (queue m q) ≡ true → p ≡ q
  pub queued_there : (q : Queue) (n : ℕ) → has n (queue m q) ≡ true → HasNode m n
  pub is_queued : (n : ℕ) → HasNode m n → (q : Queue) × (has n (queue m q) ≡ true) × (has_record m q.id ≡ true)
  pub numbers_distinct : (k : ℕ) → Distinct (owned m k)
  pub owned_number : (k n : ℕ) → has n (owned m k) ≡ true → (s : Stand) × (stand m n ≡ Some s) × (s.number ≡ k)
  pub is_owned : (n : ℕ) (s : Stand) → stand m n ≡ Some s → has n (owned m s.number) ≡ true
  pub no_empty_number : (k : ℕ) → has_list m k ≡ true → owned m k ≢ []
