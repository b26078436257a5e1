-- Which calls a table may fail for memory.
use Rattle.std.specs.Prelude.{ℕ, ◌≡◌, Option}
use Rattle.lt_rules.specs.declared.call.Call.{Call}
use Rattle.lt_rules.specs.declared.call.Reply.TheVariants.{MustWait}
use Rattle.lt_rules.specs.declared.queued.QueuedRequest.{QueuedRequest}
use Rattle.lt_ids.specs.declared.request.Access.TheVariants.{Write}
use Rattle.lt_rules.specs.Rules.{Record, TakesNoMemory}
use Rattle.lt_rules.specs.Step.{step}
use Rattle.lt_rules.specs.Visit.{visit}
use Rattle.lt_rules.specs.Memory.{MayLack}

-- A write of this transaction without a bound has to wait at this record.
abbrev pub WaitsToWrite : Record → Option ℕ → Type 0
WaitsToWrite r own = (q : QueuedRequest) → q.txn ≡ own → (visit r q 0 Write).reply ≡ MustWait

-- Memory may be refused to the call at this record, whatever room there is for lets, and the contract of a key table
-- does not say that the call needs none.
pub record MayFail (r : Record) (call : Call) : Type 0 where
  pub lacks : (room : ℕ) → MayLack r call room
  pub takes : (pass : ℕ) → TakesNoMemory r (step r pass call) → ⊥
