-- A table with one lock, for which nobody waits.
use Rattle.std.specs.Prelude.{◌≡◌, ℕ, Bool, ◌||◌, Option, Some, None, List, [], ◌∷◌, IsSome}
use Rattle.std.specs.FinMap as finmap
use Rattle.lt_ids.specs.declared.timestamp.Timestamp.{Timestamp}
use Rattle.lt_ids.specs.declared.request.Access.{Access}
use Rattle.lt_ids.specs.declared.request.Access.TheVariants.{Read, Write}
use Rattle.lt_ids.specs.declared.ticket.Through.{Through}
use Rattle.lt_ids.specs.Ids.{is_below}
use Rattle.lt_rules.specs.declared.queued.Holder.{Holder}
use Rattle.lt_rules.specs.declared.call.Reply.{Reply}
use Rattle.lt_rules.specs.Rules.{Record, Outcome, IsOutcome, TakesNoMemory, empty, is_txn, record_with}
use Rattle.lt_rules.specs.Table.{Records, AreSound, IsStep, record_at}
use Rattle.lt_rules.specs.declared.call.Call.{Call}
use Rattle.lt_rules.specs.declared.call.Call.TheVariants.{Visit}
use Rattle.lt_rules.specs.declared.call.Reply.TheVariants.{Freed, MustWait}
use Rattle.lt_rules.specs.Step.{step}
use Rattle.lt_rules.specs.Memory.{MayLack}
use Rattle.lt_lock.specs.declared.lone.LoneLock.{LoneLock}
use Rattle.lt_lock.specs.declared.lone.AtLone.{AtLone}
use Rattle.lt_lock.specs.declared.lone.AtLone.TheVariants.{Answers, Frees, NeedsRow}

-- the record of a key that this holder has locked, and for which nobody waits
abbrev pub held : Holder → Record
held h = record_with (Some h) None [] [] None

-- the records of a table: the lone lock alone, or these if there is none
abbrev pub with_lone : Option LoneLock → Records → Records
with_lone None records = records
with_lone (Some l) records = finmap.from_entries ((l.key, held l.holder) ∷ [])

-- A table that has a lone lock has no rows.
pub record IsWithLone (lone : Option LoneLock) (records : Records) : Type 0 where
  pub alone : IsSome lone → records ≡ finmap.empty
  pub sound : AreSound records

-- The act was applied to the record at the key, with these lets and this reply, and no other key's record changed.
abbrev pub StepsWithLone : Option LoneLock → Option LoneLock → Records → Records → List ℕ → (Record → Outcome) → List Through → Reply → Type 0
StepsWithLone lone after old new key act lets = λ reply.
    IsStep (with_lone lone old) key act reply lets (with_lone after new)

-- whether a visit by a request of this transaction passes a lock of this holder, for which nobody waits
abbrev pub passes_held : Holder → Option ℕ → Timestamp → Access → Bool
passes_held h txn ts Read = is_txn txn h.txn || is_below ts h.ts
passes_held h txn ts Write = is_txn txn h.txn

-- The call is a visit that has to wait at this record.
abbrev pub MustQueue : Record → Call → Type 0
MustQueue r (Visit ticket txn ts access longest) = (pass : ℕ) → (step r pass (Visit ticket txn ts access longest)).reply ≡ MustWait
MustQueue r _ = ⊥

-- what a call comes to at the key of a lone lock, which has one holder before and another after
abbrev pub IsAtLone : Holder → Holder → Call → AtLone → Type 0
IsAtLone old new call (Answers reply) = (pass : ℕ) → IsOutcome (step (held old) pass call) (held new) reply []
IsAtLone old new call Frees = (new ≡ old) × ((pass : ℕ) → IsOutcome (step (held old) pass call) empty Freed [])
IsAtLone old new call NeedsRow = (new ≡ old) × MustQueue (held old) call

-- The call was made at the key, with this reply and no lets, while there was no row.
abbrev pub StepsAlone : Option LoneLock → Option LoneLock → List ℕ → Call → Reply → Type 0
StepsAlone lone after key call reply =
    (pass : ℕ) → StepsWithLone lone after finmap.empty finmap.empty key (λ r. step r pass call) [] reply

-- If there is a lone lock, the call at the key needs a row: it is one that may need memory.
abbrev pub NeedsRows : Option LoneLock → List ℕ → Call → Type 0
NeedsRows lone key call =
    IsSome lone → ((pass : ℕ) → TakesNoMemory (record_at (with_lone lone finmap.empty) key) (step (record_at (with_lone lone finmap.empty) key) pass call) → ⊥)
    × ((room : ℕ) → MayLack (record_at (with_lone lone finmap.empty) key) call room)
