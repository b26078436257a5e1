-- Transactions that committed, and what it means that they went one after the other.
use Rattle.std.specs.Prelude.{ℕ, ◌≡◌, ◌≢◌, ◌<◌, List, [], ◌∷◌, ⊤}
use Rattle.std.specs.List.{AllByRecursion}
use mathlib.Core.List.{IsPrefix}
use Rattle.lt_words.specs.declared.event.Event.{Event}
use Rattle.lt_tenure.specs.Tenure.{Tenure, IsTwoPhase}

-- A transaction that committed: its name; the tenures of its locks; its lock point, such as what its pass had seen when
-- the commit began; and what its pass had seen when the commit was done.
pub record Committed : Type 0 where
  pub txn : ℕ
  pub tenures : List Tenure
  pub point : List Event
  pub seen : List Event

-- These transactions committed in the history h. Each locked in two phases, in what its pass had seen of h.
pub record AreCommittedIn (shards : ℕ) (h : List Event) (all : List Committed) : Type 0 where
  pub seen : AllByRecursion (λ c. IsPrefix c.seen h) all
  pub each : AllByRecursion (λ c. IsTwoPhase shards c.seen c.point c.txn c.tenures) all

-- The relation holds between each transaction and each that follows it in the list.
abbrev pub AreOrderedBy : (Committed → Committed → Type 0) → List Committed → Type 0
AreOrderedBy R [] = ⊤
AreOrderedBy R (a ∷ all) = AllByRecursion (R a) all × AreOrderedBy R all

-- The first transaction went before the second: it freed each key that they share before the second took it.
abbrev pub WentBefore : Committed → Committed → Type 0
WentBefore a b = AllByRecursion (λ t. AllByRecursion (λ u. t.key ≡ u.key → t.freed < u.taken) b.tenures) a.tenures

-- No step began a tenure of both at a key that they share. This follows if their names differ.
abbrev pub AreApart : Committed → Committed → Type 0
AreApart a b = AllByRecursion (λ t. AllByRecursion (λ u. t.key ≡ u.key → t.taken ≢ u.taken) b.tenures) a.tenures

-- The lock points rise along the list.
abbrev pub PointsRise : List Committed → Type 0
PointsRise = AreOrderedBy (λ a b. IsPrefix a.point b.point)

-- The transactions went one after the other, in the order of the list.
abbrev pub IsSerial : List Committed → Type 0
IsSerial = AreOrderedBy WentBefore
