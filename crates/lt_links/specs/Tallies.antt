-- How many nodes a transaction has: what the map of counts stores, and what a contract sees of it.
use Rattle.std.specs.Prelude.{◌≡◌, ◌≢◌, ◌-◌, ℕ, zero, suc, Bool, false, nat_eq, Option, Some, None, List, length, unwrap_or}
use Rattle.std.specs.HashMap as hash
use Rattle.std.specs.HashMap.{HashMap}
use Rattle.lt_links.specs.declared.hashing.KeyHashing.{KeyHashing}
use Rattle.lt_links.specs.declared.stand.Stand.{Stand}
use Rattle.lt_links.specs.Ring.{has, Distinct}
use Rattle.lt_links.specs.Maps.{Maps, stand}

-- for each transaction with a node, how many it has
abbrev pub Txns : Type 0
Txns = HashMap ℕ ℕ KeyHashing

abbrev pub stored_of : Txns → ℕ → Option ℕ
stored_of txns t = hash.get nat_eq txns t

abbrev pub count_of : Txns → ℕ → ℕ
count_of txns t = unwrap_or (stored_of txns t) 0

-- a count as it is stored: none for 0
abbrev pub as_stored : ℕ → Option ℕ
as_stored zero = None
as_stored (suc n) = Some (suc n)

-- one count is replaced
pub record SetsCount (old new : Txns) (t n : ℕ) : Type 0 where
  pub here : stored_of new t ≡ as_stored n
  pub others : (k : ℕ) → k ≢ t → stored_of new k ≡ stored_of old k

-- every count stays
abbrev pub KeepsCounts : Txns → Txns → Type 0
KeepsCounts old new = (t : ℕ) → stored_of new t ≡ stored_of old t

-- a node comes: the count of its transaction, if it has one, is greater by one
abbrev pub CountsIn : Txns → Txns → Option ℕ → Type 0
CountsIn old new None = new.entries ≡ old.entries
CountsIn old new (Some t) = SetsCount old new t (suc (count_of old t))

-- a node goes: the count of its transaction, if it has one, is less by one
abbrev pub CountsOut : Txns → Txns → Option ℕ → Type 0
CountsOut old new None = new.entries ≡ old.entries
CountsOut old new (Some t) = SetsCount old new t (count_of old t - 1)

-- A node of one transaction goes to another: it comes to that one first.
pub record Moves (old new : Txns) (before after : Option ℕ) : Type 0 where
  pub between : Txns
  pub comes : CountsIn old between after
  pub goes : CountsOut between new before

-- a node gets an entry of this transaction, which may be the one that it had
abbrev pub Retallies : Txns → Txns → Option ℕ → Option ℕ → Type 0
Retallies old new before after = (before ≡ after → new.entries ≡ old.entries) × (before ≢ after → Moves old new before after)

-- whether an entry is of this transaction
abbrev pub names_txn : Option ℕ → ℕ → Bool
names_txn None t = false
names_txn (Some own) t = nat_eq own t

-- whether a node has an entry of this transaction
abbrev pub is_node_of : Option Stand → ℕ → Bool
is_node_of None t = false
is_node_of (Some s) t = names_txn s.txn t

-- The transaction has this many nodes.
pub record HasTally (m : Maps) (t n : ℕ) : Type 0 where
  pub nodes : List ℕ
  pub distinct : Distinct nodes
  pub are : (i : ℕ) → has i nodes ≡ is_node_of (stand m i) t
  pub count : n ≡ length nodes

-- The map stores how many nodes each transaction has.
abbrev pub AreTallied : Maps → Txns → Type 0
AreTallied m txns = (t : ℕ) → (n : ℕ) × HasTally m t n × (stored_of txns t ≡ as_stored n)
