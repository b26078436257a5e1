-- Other requests of a transaction.
use Rattle.std.specs.Prelude.{◌≡◌, ℕ, true, false, if◌then◌else◌, Option, List}
use Rattle.std.specs.List.{AllByRecursion}
use Rattle.lt_links.specs.declared.stand.Stand.{Stand}
use Rattle.lt_links.specs.Ring.{has}
use Rattle.lt_links.specs.Maps.{Maps, owned, stand}
use Rattle.lt_links.specs.Tallies.{is_node_of}
use Rattle.lt_rules.specs.Rules.{is_txn}

-- 1 for an entry of the transaction, and 0 for another
abbrev pub own_one : Option ℕ → ℕ → ℕ
own_one own txn = if is_txn own txn then 1 else 0

-- All entries of the transaction are entries of the request with this number.
abbrev pub HasOnly : Maps → ℕ → ℕ → Type 0
HasOnly m txn number = (n : ℕ) → is_node_of (stand m n) txn ≡ true → has n (owned m number) ≡ true

-- No entry is the transaction's.
abbrev pub HasNone : ℕ → List Stand → Type 0
HasNone txn l = AllByRecursion (λ s. is_txn s.txn txn ≡ false) l
