-- How steps come to C: a take of a shard's steps, and what C sees of each step.
use Rattle.std.specs.Prelude.{ℕ, Bool, true, false, ◌≡◌, ◌≢◌, ◌<◌, ◌⊎◌, ◌++◌, ◌∷◌, [], List, length, map, take, drop, min, nat_eq, nat_lt, slice_get, if◌then◌else◌, Option, Some, None, decimal, codes}
use Rattle.std.specs.Arc.{arc_value}
use Rattle.lt_ids.specs.declared.request.Access.{Access}
use Rattle.lt_ids.specs.declared.request.Access.TheVariants.{Read, Write}
use Rattle.lt_ids.specs.declared.ticket.Through.{Through}
use Rattle.lt_rules.specs.declared.call.Call.{Call}
use Rattle.lt_rules.specs.declared.call.Call.TheVariants.{Visit, Acquire, Update, Finish, Leave, Look}
use Rattle.lt_entry.specs.declared.entry.Entry.{Entry}
use Rattle.lt_words.specs.declared.keeping.Keeping.{Keeping}
use Rattle.lt_words.specs.declared.keeping.Keeping.TheVariants.{Whole, Streamed, Unrecorded}
use Rattle.lt_words.specs.Row.{SeesMore, MakesNoStep, TakesOut}
use Rattle.lt_walk.specs.Taken.{IsTaken}
use Rattle.lt_shard.specs.declared.holding.Rest.{Rest}
use Rattle.lt_handles.specs.declared.shapes.LtCall.{LtCall}
use Rattle.lt_handles.specs.declared.shapes.LtStep.{LtStep}
use Rattle.lt_handles.specs.declared.shapes.LtThrough.{LtThrough}
use Rattle.lt_handles.specs.declared.held_shared.HeldPass.{HeldPass}
use Rattle.lt_handles.specs.declared.content.Content.TheVariants.{Pass, Steps}
use Rattle.lt_handles.specs.Codes.{reply_code, reply_txn, txn_number}
use Rattle.lt_handles.specs.Content.{ContentState}
use Rattle.lt_handles.specs.Lists.{ListsFirst}
use Rattle.lt_handles.specs.Shapes.{raw_key_name, raw_let}

-- ---- a take

-- The pass took these steps out of the shard: they are all of the shard's steps from that index on in what the pass has then
-- seen. A table that streams gives each step out once. The pass made no step, and nothing else of the handle has changed.
pub record TakesSteps (shard : ℕ) (rest : Rest) (p p' : HeldPass) : Type 0 where
  pub taken : IsTaken shard p'.pass.seen rest.from rest.entries.items
  pub took : (arc_value p.table).of.keeping ≡ Streamed → TakesOut p.pass p'.pass shard rest.from (length rest.entries.items)
  pub unrecorded : (arc_value p.table).of.keeping ≢ Streamed → SeesMore p.pass p'.pass
  pub no_step : MakesNoStep p.pass p'.pass
  pub same_wants : p'.wants.items ≡ p.wants.items
  pub same_table : (arc_value p'.table) ≡ (arc_value p.table)

-- The pass made no step, and nothing else of the handle has changed.
pub record MakesNothing (p p' : HeldPass) : Type 0 where
  pub no_step : MakesNoStep p.pass p'.pass
  pub same_wants : p'.wants.items ≡ p.wants.items
  pub same_table : (arc_value p'.table) ≡ (arc_value p.table)

-- This holds of the pass behind the handle, before and after, and of the steps behind the other handle.
abbrev pub OnTake : (Rest → HeldPass → HeldPass → Type 0) → Option ContentState → Option ContentState → Option ContentState → Type 0
OnTake P (Some (Pass p)) (Some (Pass p')) (Some (Steps rest)) = P rest p p'
OnTake P _ _ _ = ⊥

-- why a table that keeps its steps so gives none out
abbrev pub whole_refusal : Keeping → Option ℕ
whole_refusal Whole = Some 75
whole_refusal Streamed = None
whole_refusal Unrecorded = None

-- why steps of the shard with this index are not taken through a pass: there is no such shard, or the table keeps its steps whole
abbrev pub take_refusal_of : HeldPass → ℕ → Option ℕ
take_refusal_of p shard = if nat_lt shard p.pass.of.shards then whole_refusal p.pass.of.keeping else Some 27

-- the same through a handle, which holds a pass
abbrev pub take_refusal : Option ContentState → ℕ → Option ℕ
take_refusal (Some (Pass p)) shard = take_refusal_of p shard
take_refusal _ shard = Some 1

-- The call answers this refusal. If it has no reason to refuse, it is done unless an allocation fails, another caller is in the
-- shard, or the shard was lost.
abbrev pub IsTakenUnless : Option ℕ → ℕ → Type 0
IsTakenUnless (Some code) result = result ≡ code
IsTakenUnless None result = result ≢ 0 → (result ≡ 2) ⊎ ((result ≡ 12) ⊎ (result ≡ 15))

-- ---- what C sees of a step

abbrev pub is_write : Access → Bool
is_write Write = true
is_write Read = false

abbrev pub no_call : LtCall
no_call = record { number = 0; txn = 0; wall = 0; logical = 0; wait = 0; longest = 0; kind = 0; writes = false }

-- a call: its kind, from 1, and what it asks for; 0 stands for what it does not name
abbrev pub raw_call : Call → LtCall
raw_call (Visit ticket txn ts access longest) = record { number = ticket.number; txn = txn_number txn; wall = ts.wall; logical = ts.logical; wait = ticket.wait; longest = longest; kind = 1; writes = is_write access }
raw_call (Acquire txn ts) = record no_call { txn = txn; wall = ts.wall; logical = ts.logical; kind = 2 }
raw_call (Update txn ts) = record no_call { txn = txn; wall = ts.wall; logical = ts.logical; kind = 3 }
raw_call (Finish txn) = record no_call { txn = txn; kind = 4 }
raw_call (Leave number) = record no_call { number = number; kind = 5 }
raw_call (Look number) = record no_call { number = number; kind = 6 }

abbrev pub raw_step : Entry → LtStep
raw_step e = record {
  key = raw_key_name e.key;
  call = raw_call e.call;
  pass = e.pass;
  reply = reply_code e.reply;
  reply_txn = reply_txn e.reply;
  lets = length e.lets;
}

-- This holds of the step with this index, from 0.
abbrev pub OnStep : (Entry → Type 0) → Rest → ℕ → Type 0
OnStep P rest index = (e : Entry) × (slice_get rest.entries.items index ≡ Some e) × P e

-- C sees the step, and as many of its lets as fit.
pub record ShowsStep (out : LtStep) (lets lets' : List LtThrough) (e : Entry) : Type 0 where
  pub shown : out ≡ raw_step e
  pub first_lets : ListsFirst raw_let e.lets lets lets' (length e.lets)

-- why the step with this index is not shown: the handle holds no steps, or none with this index
abbrev pub place_refusal : Option Rest → ℕ → Option ℕ
place_refusal None index = Some 1
place_refusal (Some rest) index = if nat_lt index (length rest.entries.items) then None else Some 31

-- This holds of the steps that a handle holds.
abbrev pub OnSteps : (Rest → Type 0) → Option Rest → Type 0
OnSteps P None = ⊥
OnSteps P (Some rest) = P rest

-- There are so many steps, and so many of their shard were made before them.
abbrev pub CountsSteps : ℕ → ℕ → Rest → Type 0
CountsSteps from count rest = (from ≡ rest.from) × (count ≡ length rest.entries.items)
