-- What a run of the bank says of its transactions.
use Rattle.std.specs.Prelude.{ℕ, ◌≡◌, List, length}
use Rattle.std.specs.List.{AllByRecursion}
use mathlib.Core.List.{IsPrefix}
use Rattle.lt_words.specs.declared.event.Event.{Event}
use Rattle.lt_words.specs.History.{IsLegalHistory}
use Rattle.example_cells.specs.Committing.{LogState, all_commits, WentInOrder}

-- There are logs that have this many transactions together, and one legal history of all shards that has all that the logs
-- have seen. The transactions went one after the other.
pub record WentInOne (shards commits : ℕ) : Type 0 where
  pub logs : List LogState
  pub whole : List Event
  pub legal : IsLegalHistory shards whole
  pub seen : AllByRecursion (λ l. IsPrefix l.seen whole) logs
  pub counted : commits ≡ length (all_commits logs)
  pub in_order : WentInOrder logs
