-- Committed transactions go one after the other at every key that they share.
use Rattle.std.proofs.Common.{◌≡◌, ◌≢◌, ℕ, ◌<◌, List, [], ◌∷◌}
use Rattle.std.specs.List.{AllByRecursion}
use mathlib.Core.List.{IsPrefix}
use Rattle.lt_words.specs.declared.event.Event.{Event}
use Rattle.lt_words.specs.Laws.{PartsBegin, StepsStay}
use Rattle.lt_tenure.specs.Tenure.{IsHeldAt, IsTwoPhase}
use Rattle.lt_tenure.specs.Committed.{Committed, AreCommittedIn, AreOrderedBy, AreApart, WentBefore, PointsRise, IsSerial}
use Rattle.lt_tenure.proofs.Lists.{all_map, all_both}
use Rattle.lt_tenure.proofs.Serial.{tenures_are_serial, tenures_stay}

-- the transaction's tenures, in the whole history
abbrev pub IsStanding : ℕ → List Event → Committed → Type 0
IsStanding shards h c = AllByRecursion (IsHeldAt shards h c.point c.txn) c.tenures

standing : PartsBegin → StepsStay → (shards : ℕ) (h : List Event) (c : Committed) → IsPrefix c.seen h → IsTwoPhase shards c.seen c.point c.txn c.tenures → IsStanding shards h c
standing begin stay shards h c seen two = all_map (IsHeldAt shards c.seen c.point c.txn) (IsHeldAt shards h c.point c.txn) c.tenures
    (λ t held. tenures_stay begin stay shards c.seen h c.point c.txn t seen held) two.held

pub all_stand : PartsBegin → StepsStay → (shards : ℕ) (h : List Event) (all : List Committed) → AreCommittedIn shards h all → AllByRecursion (IsStanding shards h) all
all_stand begin stay shards h all committed =
    all_both (λ c. IsPrefix c.seen h) (λ c. IsTwoPhase shards c.seen c.point c.txn c.tenures) (IsStanding shards h) all
    (λ c seen two. standing begin stay shards h c seen two) committed.seen committed.each

is_before : PartsBegin → (shards : ℕ) (h : List Event) (a b : Committed) → AreApart a b → IsPrefix a.point b.point → IsStanding shards h a → IsStanding shards h b → WentBefore a b
is_before begin shards h a b apart order x y =
    all_both (IsHeldAt shards h a.point a.txn) (λ t. AllByRecursion (λ u. t.key ≡ u.key → t.taken ≢ u.taken) b.tenures)
    (λ t. AllByRecursion (λ u. t.key ≡ u.key → t.freed < u.taken) b.tenures) a.tenures
    (λ t held differ. all_both (IsHeldAt shards h b.point b.txn) (λ u. t.key ≡ u.key → t.taken ≢ u.taken) (λ u. t.key ≡ u.key → t.freed < u.taken) b.tenures
    (λ u held' differs same. tenures_are_serial begin shards h a.point b.point a.txn b.txn t u (differs same) same held held' order) y differ) x apart

pub serial : PartsBegin → (shards : ℕ) (h : List Event) (all : List Committed) → AllByRecursion (IsStanding shards h) all → AreOrderedBy AreApart all → PointsRise all → IsSerial all
serial begin shards h [] stand apart rise = tt
serial begin shards h (a ∷ all) stand apart rise = (
  all_both (λ b. AreApart a b × IsStanding shards h b) (λ b. IsPrefix a.point b.point) (WentBefore a) all
      (λ b x order. is_before begin shards h a b x.0 order stand.0 x.1)
      (all_both (AreApart a) (IsStanding shards h) (λ b. AreApart a b × IsStanding shards h b) all (λ b x y. (x, y)) apart.0 stand.1) rise.0,
  serial begin shards h all stand.1 apart.1 rise.1,
)

pub committed_are_serial : PartsBegin → StepsStay → (shards : ℕ) (h : List Event) (all : List Committed) → AreCommittedIn shards h all → AreOrderedBy AreApart all → PointsRise all → IsSerial all
committed_are_serial begin stay shards h all committed apart rise = serial begin shards h all (all_stand begin stay shards h all committed) apart rise
