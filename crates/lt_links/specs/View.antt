-- How the fields of `Links` are seen as three maps, and the invariant of the fields.
use Rattle.std.specs.Prelude.{◌≡◌, ◌≢◌, ℕ, zero, suc, true, List, [], ◌∷◌, length, map, Option, Some, None, is_some}
use Rattle.std.specs.FinMap.{from_entries}
use Rattle.slab.specs.Slab.{Slab, get, entries}
use Rattle.lt_links.specs.declared.node.Node.{Node}
use Rattle.lt_links.specs.declared.node.Heads.{Heads}
use Rattle.lt_links.specs.declared.stand.Stand.{Stand}
use Rattle.lt_links.specs.declared.ids.Queue.{Queue}
use Rattle.lt_links.specs.declared.ids.QueueKind.TheVariants.{Writers, Readers, Reservation}
use Rattle.lt_links.specs.Ring.{Link}
use Rattle.lt_links.specs.Cells.{Joints, next_of, queued_at, owned_at, len_at, Owners, ends_of, IsFamily}
use Rattle.lt_links.specs.Maps.{Maps, Lists}

abbrev follow : (Option ℕ → List ℕ) → Option ℕ → List ℕ
follow f None = []
follow f (Some n) = n ∷ f (Some n)

-- the list through which the links lead after a position, with at most as many numbers as the fuel
abbrev pub walk : Link → ℕ → Option ℕ → List ℕ
walk next zero p = []
walk next (suc fuel) p = follow (walk next fuel) (next p)

abbrev pub list_at : {K : Type 0} → Slab Node → Joints K → K → List ℕ
list_at nodes joints k = walk (next_of joints k) (length nodes.slots) None

abbrev pub lists_at : Slab Node → Slab Heads → ℕ → Lists
lists_at nodes heads id = record {
  writers = list_at nodes (queued_at nodes heads) (record { id = id; kind = Writers });
  readers = list_at nodes (queued_at nodes heads) (record { id = id; kind = Readers });
  reservation = list_at nodes (queued_at nodes heads) (record { id = id; kind = Reservation });
}

abbrev pub maps_of : Slab Node → Slab Heads → Owners → Maps
maps_of nodes heads owners = record {
  records = from_entries (map (λ e. (e.0, lists_at nodes heads e.0)) (entries heads));
  numbers = from_entries (map (λ e. (e.0, list_at nodes (owned_at nodes owners) e.0)) owners.entries);
  stands = from_entries (map (λ e. (e.0, e.1.stand)) (entries nodes));
}

abbrev pub queue_of : Option Node → Option Queue
queue_of None = None
queue_of (Some d) = Some d.queue

abbrev pub node_number : Option Node → Option ℕ
node_number None = None
node_number (Some d) = Some d.stand.number

abbrev pub stand_of : Option Node → Option Stand
stand_of None = None
stand_of (Some d) = Some d.stand

-- The links lead through these lists. Each node is in its queue's list and in its number's, and in no other. Each
-- queue with a node belongs to a record, and the map of numbers has exactly the numbers with a node.
pub record Links (nodes : Slab Node) (heads : Slab Heads) (owners : Owners) (queues : Queue → List ℕ) (numbers : ℕ → List ℕ) : Type 0 where
  pub queues_linked : IsFamily (queued_at nodes heads) (λ n. queue_of (get nodes n)) queues
  pub numbers_linked : IsFamily (owned_at nodes owners) (λ n. node_number (get nodes n)) numbers
  pub heads_there : (n : ℕ) (q : Queue) → queue_of (get nodes n) ≡ Some q → is_some (get heads q.id) ≡ true
  pub owners_there : (n number : ℕ) → node_number (get nodes n) ≡ Some number → is_some (ends_of owners number) ≡ true
  pub owners_needed : (number : ℕ) → is_some (ends_of owners number) ≡ true → numbers number ≢ []

-- There are lists through which the links lead, and the stored length of each queue is the length of its list.
pub record IsLinked (nodes : Slab Node) (heads : Slab Heads) (owners : Owners) : Type 0 where
  pub queues : Queue → List ℕ
  pub numbers : ℕ → List ℕ
  pub links : Links nodes heads owners queues numbers
  pub lens : (q : Queue) → len_at heads q ≡ length (queues q)
