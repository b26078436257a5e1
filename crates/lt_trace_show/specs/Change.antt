-- What may differ between two states of a key.
use Rattle.std.specs.Prelude.{ℕ, ◌≡◌, ◌≤◌, ◌<◌, ◌⊎◌, nat_eq, Option, Some, None, List, [], ◌∷◌, ◌++◌, Contains, map, length, get_or, IfSome}
use Rattle.std.specs.List.{find}
use Rattle.lt_rules.specs.declared.queued.QueuedRequest.{QueuedRequest}
use Rattle.lt_rules.specs.declared.queued.QueuedWriter.{QueuedWriter}
use Rattle.lt_rules.specs.Rules.{Record, number_of, writer_number}
use Rattle.lt_trace_show.specs.declared.timeline.Lane.{Lane}
use Rattle.lt_trace_show.specs.declared.timeline.Lane.TheVariants.{Request}
use Rattle.lt_trace_show.specs.declared.timeline.Phase.{Phase}
use Rattle.lt_trace_show.specs.Phases.{request_phase}
use Rattle.lt_trace_show.specs.Owners.{holder_lanes, writer_lane, request_lane, lanes_in}

-- the number of the request that has the reservation
abbrev pub reservation_numbers : Option QueuedRequest → List ℕ
reservation_numbers None = []
reservation_numbers (Some q) = number_of q ∷ []

-- No number is lost.
abbrev pub KeepsNumbers : List ℕ → List ℕ → Type 0
KeepsNumbers old new = (n : ℕ) → Contains old n → Contains new n

-- The numbers have each writer that differs.
pub record NamesWriters (before after : List QueuedWriter) (numbers : List ℕ) : Type 0 where
  pub others : (n : ℕ) → (Contains numbers n → ⊥) → find (λ w. nat_eq (writer_number w) n) after ≡ find (λ w. nat_eq (writer_number w) n) before
  pub named : (l : Lane) → Contains (map writer_lane after) l → Contains (map Request numbers) l ⊎ Contains (map writer_lane before) l

-- The numbers have each reader that differs.
pub record NamesReaders (before after : List QueuedRequest) (numbers : List ℕ) : Type 0 where
  pub others : (n : ℕ) → (Contains numbers n → ⊥) → find (λ q. nat_eq (number_of q) n) after ≡ find (λ q. nat_eq (number_of q) n) before
  pub named : (l : Lane) → Contains (map request_lane after) l → Contains (map Request numbers) l ⊎ Contains (map request_lane before) l

-- The numbers have whoever has a reservation.
pub record NamesReservation (before after : Option QueuedRequest) (numbers : List ℕ) : Type 0 where
  pub old : IfSome before (λ q. Contains numbers (number_of q))
  pub new : IfSome after (λ q. Contains numbers (number_of q))

-- The numbers have whoever differs.
pub record NamesAll (before after : Record) (numbers : List ℕ) : Type 0 where
  pub reservation : NamesReservation before.reservation after.reservation numbers
  pub writers : NamesWriters before.writers after.writers numbers
  pub readers : NamesReaders before.readers after.readers numbers

-- The numbers are in order.
abbrev pub NeverFall : List ℕ → Type 0
NeverFall numbers = (i j : ℕ) → i ≤ j → j < length numbers → get_or numbers i 0 ≤ get_or numbers j 0

-- These are numbers of requests and their phases in the later state. Each request that has another phase there, or is new
-- at the key, is among them.
pub record IsChange (before after : Record) (numbers : List ℕ) (phases : List Phase) : Type 0 where
  pub rises : NeverFall numbers
  pub given : phases ≡ map (λ n. request_phase n after) numbers
  pub others : (n : ℕ) → (Contains numbers n → ⊥) → request_phase n after ≡ request_phase n before
  pub named : (l : Lane) → Contains (lanes_in after) l → Contains (holder_lanes after.holder ++ map Request numbers) l ⊎ Contains (lanes_in before) l
