-- The queue entry of a request at a key, the entries that leave a queue, and the effects of changes to a queue.
use Rattle.std.specs.Prelude.{◌≡◌, ◌≢◌, ◌<◌, ◌≤◌, ℕ, Bool, true, if◌then◌else◌, is_some, not, ◌&&◌, Option, Some, None, List, [], ◌∷◌, ◌++◌, map, filter}
use Rattle.std.specs.List.{AllByRecursion, find, last_or}
use Rattle.std.specs.Option.{option_map}
use Rattle.lt_ids.specs.declared.ticket.Through.{Through}
use Rattle.lt_ids.specs.Ids.{is_below}
use Rattle.lt_links.specs.declared.stand.Stand.{Stand}
use Rattle.lt_links.specs.declared.ids.Queue.{Queue}
use Rattle.lt_links.specs.declared.ids.QueueKind.{QueueKind}
use Rattle.lt_links.specs.Maps.{Maps, queue, stand, has_record, HasNode, IsSound}
use Rattle.lt_rules.specs.Rules.{is_txn, is_eligible, through_of}
use Rattle.lt_rules.specs.Visit.{enqueue}
use Rattle.lt_row.specs.Row.{stand_at, stands_at, line, queue_at, request_of, writer_of, IsNamed}
use Rattle.lt_row.specs.declared.find.Found.{Found}
use Rattle.lt_row.specs.declared.queue_walk.Selection.{Selection}
use Rattle.lt_row.specs.declared.queue_walk.Selection.TheVariants.{All, Below, Of}

-- The request with this number has its queue entry at this node of a queue.
pub record IsFound (m : Maps) (id number : ℕ) (node : ℕ) (kind : QueueKind) : Type 0 where
  pub before : List ℕ
  pub after : List ℕ
  pub cut : queue m (queue_at id kind) ≡ before ++ node ∷ after
  pub number_is : (stand_at m node).number ≡ number

-- No request with this number is queued at the key or holds its reservation.
abbrev pub IsMissing : Maps → ℕ → ℕ → Type 0
IsMissing m id number = (kind : QueueKind) → AllByRecursion (λ s. s.number ≢ number) (line m (queue_at id kind))

-- the queue entry of the request with this number at the key, if it has one
abbrev pub Finds : Maps → ℕ → ℕ → Option Found → Type 0
Finds m id number None = IsMissing m id number
Finds m id number (Some f) = IsFound m id number f.node f.kind

-- One queue now has this list of entries, and nothing else has changed.
pub record WritesQueue (old new : Maps) (to : Queue) (l : List Stand) : Type 0 where
  pub here : line new to ≡ l
  pub others : (q : Queue) → q ≢ to → line new q ≡ line old q
  pub records : (id : ℕ) → has_record new id ≡ has_record old id
  pub sound : IsSound new

-- whether the entry leaves the queue
abbrev pub leaves : Selection → Stand → Bool
leaves All s = true
leaves (Below ts) s = is_below s.ts ts
leaves (Of txn) s = is_txn s.txn txn

-- whether the entry leaves the queue and its request is let through, because it is waiting
abbrev pub goes_on : Selection → Stand → Bool
goes_on All s = true
goes_on (Below ts) s = is_below s.ts ts
goes_on (Of txn) s = is_txn s.txn txn && s.active

-- the lets of those among these entries that leave and are waiting
abbrev pub selected_lets : Selection → List Stand → List Through
selected_lets who l = map (λ s. through_of (request_of s)) (filter (goes_on who) l)

-- the entries that do not leave
abbrev pub without_selected : Selection → List Stand → List Stand
without_selected who l = filter (λ s. not (leaves who s)) l

-- the number of the first writer that is eligible as the distinguished waiter, under this reservation
abbrev pub first_eligible_number : Option Stand → List Stand → Option ℕ
first_eligible_number reserved l =
    option_map (λ s. s.number) (find (λ s. is_eligible (option_map request_of reserved) (writer_of s)) l)

-- the lets of those among these entries that are waiting
abbrev pub waiting_lets : List Stand → List Through
waiting_lets l = map (λ s. through_of (request_of s)) (filter (λ s. s.active) l)

-- the writers that leave when the lock comes free: those without a transaction before the first with one, and that
-- one
abbrev pub leading_writers : List Stand → List Stand
leading_writers [] = []
leading_writers (s ∷ l) = if is_some s.txn then s ∷ [] else s ∷ leading_writers l

-- the lets of those of them that are waiting
abbrev pub leading_lets : List Stand → List Through
leading_lets l = waiting_lets (leading_writers l)

-- the writers from the first one with a transaction
abbrev pub from_txn : List Stand → List Stand
from_txn [] = []
from_txn (s ∷ l) = if is_some s.txn then s ∷ l else from_txn l

-- An entry moves from one queue, which keeps these entries, to the front of another queue.
pub record MovesAcross (old new : Maps) (from to : Queue) (s : Stand) (left : List Stand) : Type 0 where
  pub left_is : line new from ≡ left
  pub here : line new to ≡ s ∷ line old to
  pub others : (q : Queue) → q ≢ from → q ≢ to → line new q ≡ line old q
  pub records : (id : ℕ) → has_record new id ≡ has_record old id
  pub sound : IsSound new

-- An entry moves to the front of a queue. The queue that it comes from keeps these entries.
pub record MovesToFront (old new : Maps) (from to : Queue) (s : Stand) (left : List Stand) : Type 0 where
  pub within : from ≡ to → WritesQueue old new to (s ∷ left)
  pub over : from ≢ to → MovesAcross old new from to s left

-- The position of a number in a queue: after this node, if there is one, which has a smaller number; and before
-- the remaining nodes, which have greater or equal numbers.
pub record IsPosition (m : Maps) (q : Queue) (number : ℕ) (at : Option ℕ) : Type 0 where
  pub before : List ℕ
  pub after : List ℕ
  pub cut : queue m q ≡ before ++ after
  pub at_is : at ≡ last_or None before
  pub smaller : (n : ℕ) → at ≡ Some n → (stand_at m n).number < number
  pub greater : AllByRecursion (λ s. number ≤ s.number) (stands_at m after)

-- The other queues have the same nodes as before, and each node that existed has the same entry as before.
pub record KeepsNodes (old new : Maps) (to : Queue) : Type 0 where
  pub queues : (q : Queue) → q ≢ to → queue new q ≡ queue old q
  pub stands : (n : ℕ) → HasNode old n → stand new n ≡ stand old n

-- A new request is inserted at its position among the writers.
pub record PutsWriter (old new : Maps) (to : Queue) (s : Stand) : Type 0 where
  pub after : List Stand
  pub writes : WritesQueue old new to after
  pub keeps : KeepsNodes old new to
  pub is_placed : map writer_of after ≡ enqueue (map writer_of (line old to)) (request_of s)
  pub named : AllByRecursion IsNamed (line old to) → AllByRecursion IsNamed after

-- The node's queue now has what this function makes of the entries before the node and of those behind it. Nothing
-- else has changed.
abbrev pub RewritesAt : Maps → Maps → ℕ → (List Stand → List Stand → List Stand) → Type 0
RewritesAt old new node entries =
    (q : Queue) (xs ys : List ℕ) → queue old q ≡ xs ++ node ∷ ys →
    WritesQueue old new q (entries (stands_at old xs) (stands_at old ys))

-- The node moves from its queue to the front of a queue.
abbrev pub MovesNode : Maps → Maps → ℕ → Queue → Type 0
MovesNode old new node to =
    (q : Queue) (xs ys : List ℕ) → queue old q ≡ xs ++ node ∷ ys →
    MovesToFront old new q to (stand_at old node) (stands_at old xs ++ stands_at old ys)
