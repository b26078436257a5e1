-- Who has a lane in a picture.
use Rattle.std.specs.Prelude.{ℕ, ◌≡◌, ◌<◌, Option, Some, None, List, [], ◌∷◌, ◌++◌, Contains, map, slice_get}
use Rattle.std.specs.List.{flat_map}
use Rattle.lt_ids.specs.Ids.{Wait}
use Rattle.lt_rules.specs.declared.queued.Holder.{Holder}
use Rattle.lt_rules.specs.declared.queued.QueuedRequest.{QueuedRequest}
use Rattle.lt_rules.specs.declared.queued.QueuedWriter.{QueuedWriter}
use Rattle.lt_rules.specs.Rules.{Record, number_of, writer_number}
use Rattle.lt_trace_show.specs.declared.drawn.DrawnStep.{DrawnStep}
use Rattle.lt_trace_show.specs.declared.step.ShownStep.{ShownStep}
use Rattle.lt_trace_show.specs.declared.timeline.Lane.{Lane}
use Rattle.lt_trace_show.specs.declared.timeline.Lane.TheVariants.{Txn, Request}
use Rattle.lt_trace_show.specs.Phases.{caller_of}

abbrev pub holder_lanes : Option Holder → List Lane
holder_lanes None = []
holder_lanes (Some h) = Txn h.txn ∷ []

abbrev pub reservation_lanes : Option QueuedRequest → List Lane
reservation_lanes None = []
reservation_lanes (Some q) = Request (number_of q) ∷ []

abbrev pub writer_lane : QueuedWriter → Lane
writer_lane w = Request (writer_number w)

abbrev pub request_lane : QueuedRequest → Lane
request_lane q = Request (number_of q)

abbrev pub ticket_lane : Wait → Lane
ticket_lane t = Request t.number

-- the lanes of all that hold the lock, have the reservation or are queued
abbrev pub lanes_in : Record → List Lane
lanes_in r = holder_lanes r.holder ++ (reservation_lanes r.reservation ++ (map writer_lane r.writers ++ map request_lane r.readers))

-- the lanes of the step's caller, of those whose waits it ends, and of all that are at the key after it
abbrev pub lanes_at : ShownStep → List Lane
lanes_at s = caller_of s.call ∷ map ticket_lane s.tickets.items ++ lanes_in s.state

-- the lanes of all that are at the key before the first step, that a step names, or that are there after it
abbrev pub everybody : Record → List ShownStep → List Lane
everybody before steps = lanes_in before ++ flat_map lanes_at steps

-- the lanes of the step's caller, of those whose waits it ends, and of those whose phases it may change
abbrev pub drawn_lanes : DrawnStep → List Lane
drawn_lanes d = caller_of d.call ∷ map ticket_lane d.tickets.items ++ (holder_lanes d.holder ++ map Request d.changed.items)

-- the lanes of all that are at the key before the first step, that a step names, or whose phases it may change
abbrev pub named_lanes : Record → List DrawnStep → List Lane
named_lanes before steps = lanes_in before ++ flat_map drawn_lanes steps

-- No lane is lost.
abbrev pub KeepsLanes : List Lane → List Lane → Type 0
KeepsLanes old new = (l : Lane) → Contains old l → Contains new l

-- The first `end` of these lanes are there.
abbrev pub HaveLanes : List Lane → List Lane → ℕ → Type 0
HaveLanes own lanes end = (k : ℕ) (l : Lane) → k < end → slice_get lanes k ≡ Some l → Contains own l

-- Each of these lanes is there.
abbrev pub HaveLanesOf : List Lane → List Lane → Type 0
HaveLanesOf own lanes = (l : Lane) → Contains lanes l → Contains own l
