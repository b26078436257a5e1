-- What the plain table's own functions promise to one another.
use Rattle.std.specs.Prelude.{ℕ, Bool, if◌then◌else◌, List, [], ◌∷◌, ◌++◌, map, suc, take}
use Rattle.std.specs.FinMap.{from_entries}
use Rattle.std.specs.BTreeMap.{BTreeMap}
use Rattle.lt_ids.specs.declared.ticket.Through.{Through}
use Rattle.lt_rules.specs.declared.queued.QueuedRequest.{QueuedRequest}
use Rattle.lt_rules.specs.declared.queued.QueuedWriter.{QueuedWriter}
use Rattle.lt_rules.specs.declared.call.Reply.{Reply}
use Rattle.lt_rules.specs.Rules.{Record, Outcome, IsOutcome, TakesNoMemory, number_of, through_of, active_requests, leading, stop_reading}
use Rattle.lt_rules.specs.Table.{Records, UpdatesKey}

-- the lets of a lock that comes free with these readers and writers
abbrev pub front_lets : List QueuedRequest → List QueuedWriter → List Through
front_lets readers writers = map through_of (readers ++ active_requests (take (suc (leading writers)) writers))

-- the let of a request, if it is let through
abbrev pub let_if : Bool → QueuedRequest → List Through
let_if goes q = if goes then through_of q ∷ [] else []

-- The request stops reading, and this case of a visit then gives the record and the reply, without lets.
abbrev pub VisitsBy : Record → Record → QueuedRequest → (Record → Outcome) → Reply → Type 0
VisitsBy old new q case = λ reply. IsOutcome (case (stop_reading old (number_of q))) new reply []

-- This case of a visit allocates nothing, once the request has stopped reading.
abbrev pub VisitUsesNoMemory : Record → QueuedRequest → (Record → Outcome) → Type 0
VisitUsesNoMemory old q case =
    TakesNoMemory (stop_reading old (number_of q)) (case (stop_reading old (number_of q)))

-- the records of a tree from keys to records
abbrev pub tree_records : BTreeMap (List ℕ) Record → Records
tree_records m = from_entries m.entries

-- The same as `UpdatesKey`, for the records of a tree.
abbrev pub UpdatesTree : BTreeMap (List ℕ) Record → BTreeMap (List ℕ) Record → List ℕ → (Record → Outcome) → List Through → Reply → Type 0
UpdatesTree old new key act lets = UpdatesKey tree_records old new key act lets
