-- Who waits for whom, and what a cycle is.
use Rattle.std.specs.Prelude.{ℕ, ◌≡◌, Bool, true, nat_eq, List, [], ◌∷◌, ◌++◌, Contains, filter, length, slice_index, ◌<◌, ◌≤◌}
use Rattle.std.specs.List.{list_any, All}
use Rattle.example_graph.specs.declared.graph.WaitEdge.{WaitEdge}

abbrev pub edge_of : ℕ → ℕ → WaitEdge
edge_of a b = record { waiter = a; holder = b }

-- Transaction a waits for transaction b.
abbrev pub Waits : List WaitEdge → ℕ → ℕ → Type 0
Waits edges a b = Contains edges (edge_of a b)

-- Transaction a waits for the first of these, and each of these waits for the next one.
abbrev pub IsChain : List WaitEdge → ℕ → List ℕ → Type 0
IsChain edges a [] = Unit {0}
IsChain edges a (b ∷ bs) = Waits edges a b × IsChain edges b bs

-- Each of these transactions waits for the next one, and the last one waits for the first.
abbrev pub IsCycle : List WaitEdge → List ℕ → Type 0
IsCycle edges [] = ⊥
IsCycle edges (a ∷ bs) = IsChain edges a (bs ++ a ∷ [])

abbrev pub HasNoCycle : List WaitEdge → Type 0
HasNoCycle edges = (cycle : List ℕ) → IsCycle edges cycle → ⊥

-- whether the transaction waits for any other
abbrev pub waits : List WaitEdge → ℕ → Bool
waits edges txn = list_any (λ e. nat_eq e.waiter txn) edges

-- whether the transaction is among these
abbrev pub is_among : List ℕ → ℕ → Bool
is_among txns txn = list_any (λ t. nat_eq t txn) txns

-- The transaction is on the path, at this index.
pub record IsOnPathAt (path : List ℕ) (txn index : ℕ) : Type 0 where
  pub within : index < length path
  pub is : slice_index path index ≡ txn

-- the edges that lead to a transaction which waits
abbrev pub pruned : List WaitEdge → List WaitEdge
pruned edges = filter (λ e. waits edges e.holder) edges

-- The edges that are left are some of these, and no cycle is lost.
pub record KeepsCycles (edges left : List WaitEdge) : Type 0 where
  pub among : (e : WaitEdge) → Contains left e → Contains edges e
  pub kept : (cycle : List ℕ) → IsCycle edges cycle → IsCycle left cycle

-- Each edge leads to a transaction that waits.
pub record AllLeadOn (edges : List WaitEdge) : Type 0 where
  pub each : (a b : ℕ) → Waits edges a b → waits edges b ≡ true

-- The number is one of these, and none of these is greater.
pub record IsGreatest (txns : List ℕ) (txn : ℕ) : Type 0 where
  pub among : Contains txns txn
  pub most : All (λ t. t ≤ txn) txns

-- The transaction has the greatest number in a cycle.
pub record IsVictim (edges : List WaitEdge) (txn : ℕ) : Type 0 where
  pub cycle : List ℕ
  pub is_cycle : IsCycle edges cycle
  pub greatest : IsGreatest cycle txn
