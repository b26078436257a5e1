-- Where a request or a transaction stands in a state of the key, and after each step.
use Rattle.std.specs.Prelude.{ℕ, Bool, true, false, nat_eq, if◌then◌else◌, Option, Some, None, List, ◌∷◌, map}
use Rattle.std.specs.List.{find}
use Rattle.lt_rules.specs.declared.call.Call.{Call}
use Rattle.lt_rules.specs.declared.call.Call.TheVariants.{Visit, Acquire, Update, Finish, Leave, Look}
use Rattle.lt_rules.specs.declared.queued.Holder.{Holder}
use Rattle.lt_rules.specs.declared.queued.QueuedRequest.{QueuedRequest}
use Rattle.lt_rules.specs.declared.queued.QueuedWriter.{QueuedWriter}
use Rattle.lt_rules.specs.Rules.{Record, number_of, writer_number}
use Rattle.lt_trace_show.specs.declared.step.ShownStep.{ShownStep}
use Rattle.lt_trace_show.specs.declared.timeline.Lane.{Lane}
use Rattle.lt_trace_show.specs.declared.timeline.Lane.TheVariants.{Txn, Request}
use Rattle.lt_trace_show.specs.declared.timeline.Phase.{Phase}
use Rattle.lt_trace_show.specs.declared.timeline.Phase.TheVariants.{Out, Waits, Idle, Reserved, Holds}

-- the lane of the request or the transaction that makes the call
abbrev pub caller_of : Call → Lane
caller_of (Visit ticket txn ts access longest) = Request ticket.number
caller_of (Acquire txn ts) = Txn txn
caller_of (Update txn ts) = Txn txn
caller_of (Finish txn) = Txn txn
caller_of (Leave number) = Request number
caller_of (Look number) = Request number

-- whether the key's state does not mention it
abbrev pub is_out : Phase → Bool
is_out Out = true
is_out _ = false

-- the phase of the transaction with this number
abbrev pub holder_phase : ℕ → Option Holder → Phase
holder_phase number None = Out
holder_phase number (Some h) = if nat_eq h.txn number then Holds else Out

-- the phase of a writer
abbrev pub writer_phase : QueuedWriter → Phase
writer_phase w = if w.active then Waits w.request.ticket.wait else Idle

-- the phase of a reader
abbrev pub reader_phase : QueuedRequest → Phase
reader_phase q = Waits q.ticket.wait

-- the phase of a request that is among the writers, among the readers, or neither
abbrev pub found_phase : Option QueuedWriter → Option QueuedRequest → Phase
found_phase (Some w) _ = if w.active then Waits w.request.ticket.wait else Idle
found_phase None (Some q) = Waits q.ticket.wait
found_phase None None = Out

-- the phase of the request with this number, if it is queued
abbrev pub queued_phase : ℕ → List QueuedWriter → List QueuedRequest → Phase
queued_phase number writers readers =
    found_phase (find (λ w. nat_eq (writer_number w) number) writers) (find (λ q. nat_eq (number_of q) number) readers)

-- the phase of a request that has this number, if the lock is reserved for it, and otherwise this one
abbrev pub reserved_phase : ℕ → Option QueuedRequest → Phase → Phase
reserved_phase number None otherwise = otherwise
reserved_phase number (Some q) otherwise = if nat_eq (number_of q) number then Reserved else otherwise

-- the phase of the request with this number
abbrev pub request_phase : ℕ → Record → Phase
request_phase number r = reserved_phase number r.reservation (queued_phase number r.writers r.readers)

-- the lane's phase in a state of the key
abbrev pub phase_of : Lane → Record → Phase
phase_of (Txn number) r = holder_phase number r.holder
phase_of (Request number) r = request_phase number r

-- the number of the transaction or the request
abbrev pub number_of_lane : Lane → ℕ
number_of_lane (Txn number) = number
number_of_lane (Request number) = number

-- the lane's phases: in the state before the first step, and after each step
abbrev pub timeline_of : Lane → Record → List ShownStep → List Phase
timeline_of lane before steps = phase_of lane before ∷ map (λ s. phase_of lane s.state) steps
