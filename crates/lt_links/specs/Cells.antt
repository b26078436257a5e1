-- The neighbors that the nodes in the slab and the ends of the lists store, the stored lengths of the queues, and the
-- changes to them.
use Rattle.std.specs.Prelude.{◌≡◌, ◌≢◌, ◌⊎◌, ℕ, true, false, nat_eq, Option, Some, None, is_some, List, unwrap_or}
use Rattle.std.specs.HashMap as hash
use Rattle.std.specs.HashMap.{HashMap}
use Rattle.lt_links.specs.declared.hashing.KeyHashing.{KeyHashing}
use Rattle.slab.specs.Slab.{Slab, get}
use Rattle.lt_links.specs.declared.node.Joint.{Joint}
use Rattle.lt_links.specs.declared.node.Node.{Node}
use Rattle.lt_links.specs.declared.node.Head.{Head}
use Rattle.lt_links.specs.declared.node.Heads.{Heads}
use Rattle.lt_links.specs.declared.ids.Queue.{Queue}
use Rattle.lt_links.specs.declared.ids.QueueKind.{QueueKind}
use Rattle.lt_links.specs.declared.ids.QueueKind.TheVariants.{Writers, Readers, Reservation}
use Rattle.lt_links.specs.Ring.{Link, Joins, Family}

abbrev pub no_joint : Joint
no_joint = record { prev = None; next = None }

abbrev pub head_at : Heads → QueueKind → Joint
head_at h Writers = h.writers.ends
head_at h Readers = h.readers.ends
head_at h Reservation = h.reservation.ends

abbrev pub with_head : Heads → QueueKind → Joint → Heads
with_head h Writers j = record h { writers = record h.writers { ends = j } }
with_head h Readers j = record h { readers = record h.readers { ends = j } }
with_head h Reservation j = record h { reservation = record h.reservation { ends = j } }

abbrev pub head_of : Option Heads → QueueKind → Joint
head_of None kind = no_joint
head_of (Some h) kind = head_at h kind

-- the head of an empty queue
abbrev pub empty_head : Head
empty_head = record { ends = no_joint; len = 0 }

abbrev pub len_in : Heads → QueueKind → ℕ
len_in h Writers = h.writers.len
len_in h Readers = h.readers.len
len_in h Reservation = h.reservation.len

abbrev pub with_len : Heads → QueueKind → ℕ → Heads
with_len h Writers n = record h { writers = record h.writers { len = n } }
with_len h Readers n = record h { readers = record h.readers { len = n } }
with_len h Reservation n = record h { reservation = record h.reservation { len = n } }

abbrev pub len_of : Option Heads → QueueKind → ℕ
len_of None kind = 0
len_of (Some h) kind = len_in h kind

-- the stored length of a queue, or 0 if the record does not exist
abbrev pub len_at : Slab Heads → Queue → ℕ
len_at heads q = len_of (get heads q.id) q.kind

-- One stored length is replaced. Every other length, the ends of every queue and the records stay.
pub record SetsLen (heads heads' : Slab Heads) (q : Queue) (n : ℕ) : Type 0 where
  pub here : len_at heads' q ≡ n
  pub others : (p : Queue) → p ≢ q → len_at heads' p ≡ len_at heads p
  pub ends_kept : (p : Queue) → head_of (get heads' p.id) p.kind ≡ head_of (get heads p.id) p.kind
  pub heads_kept : (id : ℕ) → is_some (get heads' id) ≡ is_some (get heads id)

abbrev pub queue_joint : Option Node → Joint
queue_joint None = no_joint
queue_joint (Some d) = d.queued

-- a node without its neighbors in its queue
abbrev pub unqueued : Option Node → Option Node
unqueued None = None
unqueued (Some d) = Some (record d { queued = no_joint })

-- the neighbors of a node in its queue, or the ends of a queue
abbrev pub queued_at : Slab Node → Slab Heads → Queue → Option ℕ → Joint
queued_at nodes heads q None = head_of (get heads q.id) q.kind
queued_at nodes heads q (Some n) = queue_joint (get nodes n)

-- the position exists
abbrev pub HasQueued : Slab Node → Slab Heads → Queue → Option ℕ → Type 0
HasQueued nodes heads q None = is_some (get heads q.id) ≡ true
HasQueued nodes heads q (Some n) = is_some (get nodes n) ≡ true

-- for each list of a family, the neighbors of each position
abbrev pub Joints : Type 0 → Type 0
Joints K = K → Option ℕ → Joint

module _ {K : Type 0} where
  abbrev pub next_of : Joints K → K → Link
  next_of joints k a = (joints k a).next

  abbrev pub prev_of : Joints K → K → Link
  prev_of joints k a = (joints k a).prev

  -- one joint is replaced, and nothing else changes
  pub record Sets (old new : Joints K) (k : K) (at : Option ℕ) (j : Joint) : Type 0 where
    pub here : new k at ≡ j
    pub others : (i : K) (a : Option ℕ) → (a ≢ at) ⊎ ((a ≡ None) × (i ≢ k)) → new i a ≡ old i a

  -- two positions of a list become neighbors
  pub record JoinsIn (old new : Joints K) (k : K) (p s : Option ℕ) : Type 0 where
    pub here : Joins (next_of old k) (prev_of old k) (next_of new k) (prev_of new k) p s
    pub elsewhere : (i : K) → i ≢ k → (a : Option ℕ) → ((a ≢ p) × (a ≢ s)) ⊎ (a ≡ None) → new i a ≡ old i a

  -- the same changes, stated of the nodes and of the ends that a family keeps
  module _ {E : Type 0} (joints : Slab Node → E → Joints K) (Keeps : Slab Node → E → Slab Node → E → Type 0) (nodes : Slab Node) (ends : E) (nodes' : Slab Node) (ends' : E) where
    -- one joint is replaced
    pub record SetsJoint (k : K) (at : Option ℕ) (j : Joint) : Type 0 where
      pub sets : Sets (joints nodes ends) (joints nodes' ends') k at j
      pub keeps : Keeps nodes ends nodes' ends'

    -- one joint is replaced by what this function makes of it
    abbrev pub ChangesJoint : K → Option ℕ → (Joint → Joint) → Type 0
    ChangesJoint k at change = SetsJoint k at (change (joints nodes ends k at))

    -- two positions of a list become neighbors
    pub record JoinsPlaces (k : K) (p s : Option ℕ) : Type 0 where
      pub joins : JoinsIn (joints nodes ends) (joints nodes' ends') k p s
      pub keeps : Keeps nodes ends nodes' ends'

    -- a node comes into a list, between two positions
    pub record LinksNode (k : K) (at next : Option ℕ) (n : ℕ) : Type 0 where
      pub mid_nodes : Slab Node
      pub mid_ends : E
      pub first : JoinsIn (joints nodes ends) (joints mid_nodes mid_ends) k at (Some n)
      pub second : JoinsIn (joints mid_nodes mid_ends) (joints nodes' ends') k (Some n) next
      pub keeps : Keeps nodes ends nodes' ends'

  -- Every position that exists before a change still exists afterwards.
  abbrev pub KeepsPlaces : {E : Type 0} → (Slab Node → E → K → Option ℕ → Type 0) → (Slab Node → E → Slab Node → E → Type 0) → Type 0
  KeepsPlaces {E} HasPlace Keeps =
      (a b : Slab Node) (d e : E) (k : K) (at : Option ℕ) → Keeps a d b e → HasPlace a d k at → HasPlace b e k at

  abbrev pub IsFamily : Joints K → (ℕ → Option K) → (K → List ℕ) → Type 0
  IsFamily joints home lists = Family (next_of joints) (prev_of joints) home lists

-- only neighbors in queues have changed
pub record KeepsQueued (nodes : Slab Node) (heads : Slab Heads) (nodes' : Slab Node) (heads' : Slab Heads) : Type 0 where
  pub nodes_kept : (n : ℕ) → unqueued (get nodes' n) ≡ unqueued (get nodes n)
  pub heads_kept : (id : ℕ) → is_some (get heads' id) ≡ is_some (get heads id)
  pub lens_kept : (q : Queue) → len_at heads' q ≡ len_at heads q

abbrev pub JoinsQueued : Slab Node → Slab Heads → Slab Node → Slab Heads → Queue → Option ℕ → Option ℕ → Type 0
JoinsQueued = JoinsPlaces queued_at KeepsQueued

abbrev pub LinksQueued : Slab Node → Slab Heads → Slab Node → Slab Heads → Queue → Option ℕ → Option ℕ → ℕ → Type 0
LinksQueued = LinksNode queued_at KeepsQueued

abbrev pub owned_of : Option Node → Joint
owned_of None = no_joint
owned_of (Some d) = d.owned

-- a node without its neighbors in its number's list
abbrev pub unowned : Option Node → Option Node
unowned None = None
unowned (Some d) = Some (record d { owned = no_joint })

abbrev pub Owners : Type 0
Owners = HashMap ℕ Joint KeyHashing

abbrev pub ends_of : Owners → ℕ → Option Joint
ends_of owners number = hash.get nat_eq owners number

-- the neighbors of a node in its number's list, or the ends of such a list
abbrev pub owned_at : Slab Node → Owners → ℕ → Option ℕ → Joint
owned_at nodes owners number None = unwrap_or (ends_of owners number) no_joint
owned_at nodes owners number (Some n) = owned_of (get nodes n)

abbrev pub HasOwned : Slab Node → Owners → ℕ → Option ℕ → Type 0
HasOwned nodes owners number None = is_some (ends_of owners number) ≡ true
HasOwned nodes owners number (Some n) = is_some (get nodes n) ≡ true

-- only neighbors in the numbers' lists have changed
pub record KeepsOwned (nodes : Slab Node) (owners : Owners) (nodes' : Slab Node) (owners' : Owners) : Type 0 where
  pub nodes_kept : (n : ℕ) → unowned (get nodes' n) ≡ unowned (get nodes n)
  pub owners_kept : (number : ℕ) → is_some (ends_of owners' number) ≡ is_some (ends_of owners number)

-- the ends of a number's list with a node after the last one, if there is one
abbrev pub ends_with : ℕ → Option ℕ → Joint → Joint
ends_with n None ends = record { prev = Some n; next = Some n }
ends_with n (Some last) ends = record ends { prev = Some n }

-- A node becomes the last of a number's list, which is created if there is none. `last` is the previous last node.
pub record PushesOwner (owners owners' : Owners) (number : ℕ) (last : Option ℕ) (n : ℕ) : Type 0 where
  pub last_is : last ≡ (unwrap_or (ends_of owners number) no_joint).prev
  pub ends : ends_of owners' number ≡ Some (ends_with n last (unwrap_or (ends_of owners number) no_joint))
  pub others : (k : ℕ) → k ≢ number → ends_of owners' k ≡ ends_of owners k

-- a node and the previous last node, if there is one, become neighbors
pub record FollowsLast (nodes nodes' : Slab Node) (last : Option ℕ) (n : ℕ) : Type 0 where
  pub nodes_kept : (m : ℕ) → unowned (get nodes' m) ≡ unowned (get nodes m)
  pub next_here : (l : ℕ) → last ≡ Some l → (owned_of (get nodes' l)).next ≡ Some n
  pub next_else : (m : ℕ) → last ≢ Some m → (owned_of (get nodes' m)).next ≡ (owned_of (get nodes m)).next
  pub prev_here : (owned_of (get nodes' n)).prev ≡ last
  pub prev_else : (m : ℕ) → m ≢ n → (owned_of (get nodes' m)).prev ≡ (owned_of (get nodes m)).prev

-- The neighbors of a node in its number's list are joined. If the node has no neighbors, the number's list is
-- dropped.
pub record UnlinksOwned (nodes : Slab Node) (owners : Owners) (nodes' : Slab Node) (owners' : Owners) (number : ℕ) (p s : Option ℕ) : Type 0 where
  pub joins : JoinsIn (owned_at nodes owners) (owned_at nodes' owners') number p s
  pub nodes_kept : (n : ℕ) → unowned (get nodes' n) ≡ unowned (get nodes n)
  pub owners_kept : (k : ℕ) → ((k ≡ number) × (p ≡ None) × (s ≡ None) → ⊥) → is_some (ends_of owners' k) ≡ is_some (ends_of owners k)
  pub gone : p ≡ None → s ≡ None → is_some (ends_of owners' number) ≡ false
