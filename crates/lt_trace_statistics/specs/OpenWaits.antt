-- How a map from the numbers of requests stands for the open waits at a key.
use Rattle.std.specs.Prelude.{ℕ, ◌≡◌, Bool, nat_eq, find, if◌then◌else◌, List, [], ◌∷◌, ◌++◌, Option, Some, None}
use Rattle.std.specs.BTreeMap.{BTreeMap, get}
use Rattle.std.specs.Ordering.{nat_cmp}
use Rattle.lt_ids.specs.Ids.{Wait, same_wait}
use Rattle.lt_checker.specs.declared.line.LineStep.{LineStep}
use Rattle.lt_trace_statistics.specs.declared.waits.OpenWait.{OpenWait}
use Rattle.lt_trace_statistics.specs.Findings.{mover_of, begun_waits}

abbrev pub Pending : Type 0
Pending = BTreeMap ℕ OpenWait

-- the wait that the map has for this number
abbrev pub wait_at : Pending → ℕ → Option OpenWait
wait_at m number = get nat_cmp m number

abbrev pub is_wait_of : ℕ → OpenWait → Bool
is_wait_of number w = nat_eq w.ticket.number number

-- the first of these waits that is of the request with this number
abbrev pub first_of : ℕ → List OpenWait → Option OpenWait
first_of number waits = find (is_wait_of number) waits

-- No two of these waits are of one request.
abbrev pub AreWaitsApart : List OpenWait → Type 0
AreWaitsApart [] = Unit {0}
AreWaitsApart (w ∷ waits) = (first_of w.ticket.number waits ≡ None) × AreWaitsApart waits

-- The map has these waits and no others, each by the number of its request.
pub record HasWaits (m : Pending) (waits : List OpenWait) : Type 0 where
  pub apart : AreWaitsApart waits
  pub found : (number : ℕ) → wait_at m number ≡ first_of number waits

-- The new map has the waits of the old one, changed so.
abbrev pub ChangesWaits : (List OpenWait → List OpenWait) → Pending → Pending → Type 0
ChangesWaits change old new = (waits : List OpenWait) → HasWaits old waits → HasWaits new (change waits)

-- None of these waits is of the request that visits or leaves.
abbrev pub HaveNoMover : Option ℕ → List OpenWait → Type 0
HaveNoMover None waits = Unit {0}
HaveNoMover (Some number) waits = first_of number waits ≡ None

-- The new map has the waits of the old one and the one that the step begins, if its request had none.
abbrev pub BeginsWait : LineStep → Pending → Pending → Type 0
BeginsWait step old new = (waits : List OpenWait) → HaveNoMover (mover_of step.call) waits → HasWaits old waits → HasWaits new (waits ++ begun_waits step.call step.reply step.index)

-- the index of the visit that began the wait, if it has this ticket
abbrev pub since_if : Wait → Option OpenWait → Option ℕ
since_if ticket None = None
since_if ticket (Some w) = if same_wait w.ticket ticket then Some w.since else None

-- the index of the visit that began the wait with this ticket, by the map
abbrev pub since_at : Pending → Wait → Option ℕ
since_at m ticket = since_if ticket (wait_at m ticket.number)
