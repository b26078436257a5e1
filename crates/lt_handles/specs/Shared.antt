-- What a call does to what a caller in C has of a shared table.
use Rattle.std.specs.Prelude.{ℕ, Bool, true, false, ◌∷◌, ◌++◌, nat_eq, nat_lt, if◌then◌else◌, ◌≡◌, ◌≢◌, ◌<◌, ◌⊎◌, Option, Some, None, List, [], Result, Ok, Err, IfOk, length, replicate, slice_get, slice_set, ◌+◌}
use Rattle.std.specs.Arc.{arc_value}
use Rattle.std.specs.Option.{option_map}
use Rattle.lt_ids.specs.declared.request.Access.{Access}
use Rattle.lt_ids.specs.declared.request.Access.TheVariants.{Read, Write}
use Rattle.lt_ids.specs.declared.timestamp.Timestamp.{Timestamp}
use Rattle.lt_rules.specs.Rules.{Record}
use Rattle.lt_rules.specs.declared.call.Call.{Call}
use Rattle.lt_words.specs.History.{IsLegalHistory}
use Rattle.lt_ids.specs.declared.ticket.Through.{Through as Letting}
use Rattle.lt_words.specs.Row.{Opening, PassState, SeesMore, AreFresh, AreTelling, NoneLeft}
use Rattle.lt_words.specs.declared.keeping.Keeping.{Keeping}
use Rattle.lt_words.specs.declared.keeping.Keeping.TheVariants.{Whole, Streamed, Unrecorded}
use Rattle.lt_shard.specs.declared.answer.Answer.{Answer}
use Rattle.lt_walk.specs.declared.config.Config.{Config}
use Rattle.lt_walk.specs.declared.keys.EnterError.{EnterError}
use Rattle.lt_walk.specs.declared.scan_results.Scan.{Scan}
use Rattle.lt_walk.specs.declared.scan_results.Scan.TheVariants.{Waiting, TooLong}
use Rattle.lt_walk.specs.declared.scan_results.ScanError.{ScanError}
use Rattle.lt_walk.specs.declared.scan_results.ScanError.TheVariants as scan_errors
use Rattle.lt_walk.specs.declared.scan_results.Poll.{Poll}
use Rattle.lt_walk.specs.declared.scan_results.Poll.TheVariants.{Through}
use Rattle.lt_walk.specs.declared.walk_progress.Mode.TheVariants.{Let}
use Rattle.lt_walk.specs.Configs.{fault, IsOpened}
use Rattle.lt_walk.specs.Reported.{ReportsCall, ReportsLook, TellsScan, IsPoll, GuardStays, GoesOnOnlyIfLet, SeesLet, AllLeft, StoppedLeaving, PassStays}
use Rattle.lt_walk.specs.Entered.{IsEntered, IsRefused}
use Rattle.lt_walk.specs.Inspected.{seen_record}
use Rattle.lt_walk.specs.Laws.{IsTooLong}
use Rattle.lt_try.specs.declared.error.TryError.{TryError}
use Rattle.lt_try.specs.declared.error.TryError.TheVariants.{HistoryFull}
use Rattle.lt_try.specs.Refused.{RefusesForOthers}
use Rattle.lt_handles.specs.declared.shapes.LtConfig.{LtConfig}
use Rattle.lt_handles.specs.declared.shapes.LtThrough.{LtThrough}
use Rattle.lt_handles.specs.Shapes.{raw_let}
use Rattle.lt_handles.specs.declared.held_shared.HeldShared.{HeldShared}
use Rattle.lt_handles.specs.declared.held_shared.HeldPass.{HeldPass}
use Rattle.lt_handles.specs.declared.held_shared.HeldGuard.{HeldGuard}
use Rattle.lt_handles.specs.declared.content.Content.TheVariants.{Shared, Pass, Guard, Ending, Ended}
use Rattle.lt_handles.specs.Codes.{reply_code, reply_txn}
use Rattle.lt_handles.specs.Looks.{bytes_refusal}
use Rattle.lt_handles.specs.Content.{ContentState}
use Rattle.lt_handles.specs.SharedCodes.{prepare_code, try_code, enter_code, scan_code, scan_index, poll_code}

-- ---- opening

-- the numbers with which C opens a table
abbrev pub config_of : LtConfig → ℕ → Config
config_of c max_steps = record { shards = c.shards; passes = c.passes; max_steps = max_steps; max_requests = c.max_requests; max_waits = c.max_waits }

-- how a table that C opens with this word keeps its steps
abbrev pub keeping_of : ℕ → Option Keeping
keeping_of word = if nat_eq word 0 then Some Unrecorded else if nat_eq word 1 then Some Streamed else if nat_eq word 2 then Some Whole else None

-- why a table that is to keep its steps so, or in no way, is not opened with these numbers: the first that is out of its range
abbrev pub open_refusal : LtConfig → ℕ → Option Keeping → Option ℕ
open_refusal c max_steps None = Some 74
open_refusal c max_steps (Some keeping) = option_map prepare_code (fault (config_of c max_steps))

-- The table has this configuration and this book, and all of its passes are there and have seen nothing.
pub record IsNewShared (config : Config) (of : Opening) (held : HeldShared) : Type 0 where
  pub config_is : (arc_value held.table).config ≡ config
  pub of_is : (arc_value held.table).of ≡ of
  pub all : AreFresh of of.passes held.passes.items
  -- each keeps the lets of its steps, so that its caller is told them
  pub telling : AreTelling held.passes.items

-- A new table was opened with these numbers, and it keeps its steps so.
pub record IsOpenedSo (config : Config) (keeping : Keeping) (held : HeldShared) : Type 0 where
  pub of : Opening
  pub is_new : IsNewShared config of held
  pub opened : IsOpened config of
  pub keeps : of.keeping ≡ keeping

-- The same with the numbers of C, if there is such a way to keep steps.
abbrev pub IsOpenedAs : LtConfig → ℕ → Option Keeping → HeldShared → Type 0
IsOpenedAs c max_steps None held = ⊥
IsOpenedAs c max_steps (Some keeping) held = IsOpenedSo (config_of c max_steps) keeping held

abbrev pub OnShared : (HeldShared → Type 0) → Option HeldShared → Type 0
OnShared P None = ⊥
OnShared P (Some held) = P held

abbrev pub OnPass : (HeldPass → Type 0) → Option HeldPass → Type 0
OnPass P None = ⊥
OnPass P (Some held) = P held

-- The table gives its last pass out. Nobody has used the pass, it keeps the lets of its steps, and its next request asks for
-- nothing yet.
pub record GivesPass (before after : HeldShared) (given : HeldPass) : Type 0 where
  pub same : (arc_value after.table) ≡ (arc_value before.table)
  pub of_table : (arc_value given.table) ≡ (arc_value before.table)
  pub taken : before.passes.items ≡ after.passes.items ++ given.pass ∷ []
  pub telling : given.pass.wakes.untold ≡ replicate (given.pass.of.passes + 1) None
  pub wants_nothing : given.wants.items ≡ []

-- why a table gives no pass out: it has none left
abbrev pub none_left : HeldShared → Option ℕ
none_left held = if nat_eq (length held.passes.items) 0 then Some 14 else None

-- the same through a handle, which holds such a table
abbrev pub give_refusal : Option ContentState → Option ℕ
give_refusal (Some (Shared held)) = none_left held
give_refusal _ = Some 1

abbrev pub GivesPassFrom : Option ContentState → Option ContentState → Option ContentState → Type 0
GivesPassFrom (Some (Shared before)) (Some (Shared after)) (Some (Pass given)) = GivesPass before after given
GivesPassFrom _ _ _ = ⊥

-- whether the handle holds what a caller has of a shared table
abbrev pub is_of_shared : Option ContentState → Bool
is_of_shared (Some (Shared held)) = true
is_of_shared (Some (Pass held)) = true
is_of_shared (Some (Guard held)) = true
is_of_shared (Some (Ending held)) = true
is_of_shared (Some (Ended rests)) = true
is_of_shared _ = false

-- ---- a request

abbrev pub asked_access : Bool → Access
asked_access writes = if writes then Write else Read

-- The pass stays as it is, and its next request asks for one more access.
pub record WantsMore (key : List ℕ) (writes : Bool) (before after : HeldPass) : Type 0 where
  pub more : after.wants.items ≡ before.wants.items ++ (key, asked_access writes) ∷ []
  pub same : after.pass ≡ before.pass
  pub same_table : (arc_value after.table) ≡ (arc_value before.table)

-- The pass, its table, and the keys that it names are the same.
abbrev pub KeepsWants : HeldPass → HeldPass → Type 0
KeepsWants p p' = (p'.pass ≡ p.pass) × (p'.wants.items ≡ p.wants.items) × ((arc_value p'.table) ≡ (arc_value p.table))

-- What the handle holds is the same, but for the room that a pass has to name keys.
abbrev pub KeepsHandle : Option ContentState → Option ContentState → Type 0
KeepsHandle (Some (Pass p)) (Some (Pass p')) = KeepsWants p p'
KeepsHandle before after = after ≡ before

abbrev pub OnPasses : (HeldPass → HeldPass → Type 0) → Option HeldPass → Option HeldPass → Type 0
OnPasses P (Some before) (Some after) = P before after
OnPasses P _ _ = ⊥

abbrev pub OnGuards : (HeldGuard → HeldGuard → Type 0) → Option HeldGuard → Option HeldGuard → Type 0
OnGuards P (Some before) (Some after) = P before after
OnGuards P _ _ = ⊥

-- The handle held a pass. Either its request entered, and the handle holds the request; or it did not, and the handle holds
-- the pass.
abbrev pub Enters : Option ℕ → Timestamp → ℕ → ℕ → Option ContentState → Option ContentState → Type 0
Enters txn ts longest code (Some (Pass p)) (Some (Guard g)) =
    (code ≡ 0) × IsEntered p.pass p.wants.items txn ts longest (arc_value p.table).config.max_requests g.guard × ((arc_value g.table) ≡ (arc_value p.table))
Enters txn ts longest code (Some (Pass p)) (Some (Pass p')) =
    (e : EnterError) × (code ≡ enter_code e) × IsRefused e p.pass p.wants.items (arc_value p.table).config.max_requests p'.pass × ((arc_value p'.table) ≡ (arc_value p.table)) × (p'.wants.items ≡ p.wants.items)
Enters txn ts longest code _ _ = ⊥

-- What a scan tells: it has this code and this index. The steps that it made are reported; a request that waited went on
-- only if it was let through; and a queue that was too long was so.
pub record ScanTells (code index : ℕ) (before after : HeldGuard) : Type 0 where
  pub result : Result (Result Scan ScanError) TryError
  pub code_is : code ≡ scan_code result
  pub index_is : index ≡ scan_index result
  pub scan : TellsScan (arc_value before.table).config.max_waits before.guard after.guard result
  pub went_on : GoesOnOnlyIfLet before.guard after.guard result
  pub was_let : before.guard.walk.progress.mode ≡ Let → SeesLet after.guard.pass before.guard.walk
  pub waiting : (i : ℕ) → result ≡ Ok (Ok (Waiting i)) → i < length after.guard.walk.asked.keys
  pub too_long : (i : ℕ) → result ≡ Ok (Ok (TooLong i)) → IsTooLong before.guard after.guard i
  pub stays : GuardStays before.guard after.guard
  -- if the table stores no step, no shard is full
  pub never_full : (arc_value before.table).of.keeping ≡ Unrecorded → result ≢ Err HistoryFull
  pub inside_never_full : IfOk result (λ r. r ≢ Err scan_errors.HistoryFull)
  pub same_table : (arc_value after.table) ≡ (arc_value before.table)

-- What a poll tells: it is a poll, and if it found that the request was let through, the let was seen.
pub record PollTells (code : ℕ) (before after : HeldGuard) : Type 0 where
  pub result : Poll
  pub code_is : code ≡ poll_code result
  pub poll : IsPoll before.guard after.guard result
  pub through : result ≡ Through → SeesLet after.guard.pass after.guard.walk
  pub stays : GuardStays before.guard after.guard
  pub same_table : (arc_value after.table) ≡ (arc_value before.table)

-- If the handle held a request, it holds the request's pass, which names no key yet.
abbrev pub GivesBack : Option ContentState → Option ContentState → Type 0
GivesBack (Some (Guard g)) (Some (Pass p)) = (p.pass ≡ g.guard.pass) × (p.wants.items ≡ []) × ((arc_value p.table) ≡ (arc_value g.table))
GivesBack (Some (Guard g)) _ = ⊥
GivesBack before after = after ≡ before

-- The handle held a request. Either it has left, and the handle holds its pass; or its leave was refused, never for memory if the
-- table stores no step, and the handle holds the request at the key whose leave was refused.
abbrev pub LeaveTells : ℕ → Option ContentState → Option ContentState → Type 0
LeaveTells code (Some (Guard g)) (Some (Pass p)) =
    (code ≡ 0) × ((answers : List Answer) × AllLeft g.guard p.pass answers) × PassStays g.guard.pass p.pass × (p.wants.items ≡ []) × ((arc_value p.table) ≡ (arc_value g.table))
LeaveTells code (Some (Guard g)) (Some (Guard g')) =
    ((e : TryError) × (code ≡ try_code e) × RefusesForOthers (arc_value g.table).of.keeping e) × StoppedLeaving g.guard g'.guard × GuardStays g.guard g'.guard × ((arc_value g'.table) ≡ (arc_value g.table))
LeaveTells code _ _ = ⊥

-- ---- a step

-- The call answers this refusal. If it has no reason to refuse, it refuses only if an allocation fails, if another caller is
-- in the shard, if the shard has stored as many steps as it may, or if it was lost. No shard of a table that stores no step is full.
abbrev pub IsTriedUnless : Keeping → Option ℕ → ℕ → Type 0
IsTriedUnless keeping (Some code) result = result ≡ code
IsTriedUnless keeping None result =
    (result < 32 → (result ≡ 2) ⊎ ((result ≡ 12) ⊎ ((result ≡ 13) ⊎ (result ≡ 15)))) × (keeping ≡ Unrecorded → result ≢ 13)

-- The same of a call that only looks, and so meets no full shard.
abbrev pub IsSeenUnless : Option ℕ → ℕ → Type 0
IsSeenUnless refusal result = IsTriedUnless Unrecorded refusal result

-- how the table of a handle keeps its steps, if the handle holds a pass or a request
abbrev pub keeping_behind : Option ContentState → Keeping
keeping_behind (Some (Pass held)) = (arc_value held.table).of.keeping
keeping_behind (Some (Guard held)) = (arc_value held.table).of.keeping
keeping_behind _ = Unrecorded

-- why a step at the key with these bytes is refused through this handle: it holds no pass, and no request that has one, or
-- the bytes are no key
abbrev pub caller_refusal : Option ContentState → List ℕ → Option ℕ
caller_refusal (Some (Pass held)) key = bytes_refusal key
caller_refusal (Some (Guard held)) key = bytes_refusal key
caller_refusal _ key = Some 1

-- the same for a transaction, which is not 0
abbrev pub caller_txn_refusal : ℕ → Option ContentState → List ℕ → Option ℕ
caller_txn_refusal txn handle key = if nat_eq txn 0 then Some 8 else caller_refusal handle key

-- why a request does not look at the key with this index in its list
abbrev pub index_refusal : Option HeldGuard → ℕ → Option ℕ
index_refusal None index = Some 1
index_refusal (Some held) index = if nat_lt index (length held.guard.walk.asked.keys) then None else Some 31

-- The call at the key was made for the pass, with the reply of this code, and is reported in the one history.
abbrev pub MadeCall : List ℕ → Call → ℕ → PassState → PassState → Type 0
MadeCall key call code p p' = (a : Answer) × (code ≡ reply_code a.reply) × ReportsCall p p' key call a

-- The handle holds a pass, or a request that stays as it is, and this holds of the pass. The table is the same.
abbrev pub OnCaller : (PassState → PassState → Type 0) → Option ContentState → Option ContentState → Type 0
OnCaller P (Some (Pass p)) (Some (Pass p')) = P p.pass p'.pass × (p'.wants.items ≡ p.wants.items) × ((arc_value p'.table) ≡ (arc_value p.table))
OnCaller P (Some (Guard g)) (Some (Guard g')) = P g.guard.pass g'.guard.pass × (g'.guard.walk ≡ g.guard.walk) × ((arc_value g'.table) ≡ (arc_value g.table))
OnCaller P _ _ = ⊥

-- The look of the request at the key with this index in its list was made, with the reply of this code and this transaction.
pub record LookTells (index code txn : ℕ) (before after : HeldGuard) : Type 0 where
  pub answer : Answer
  pub code_is : code ≡ reply_code answer.reply
  pub txn_is : txn ≡ reply_txn answer.reply
  pub reports : ReportsLook before.guard after.guard index answer
  pub same : after.guard.walk ≡ before.guard.walk
  pub same_table : (arc_value after.table) ≡ (arc_value before.table)

-- The caller is told a let that was left of its pass's steps, which is then left no more; or none was left.
abbrev pub TellsLet : ℕ → LtThrough → PassState → PassState → Type 0
TellsLet code out p p' =
    ((code ≡ 0) × ((t : Letting) × (out ≡ raw_let t) × (slice_get p.wakes.untold t.pass ≡ Some (Some t.ticket))
    × (p' ≡ record p { wakes = record p.wakes { untold = slice_set p.wakes.untold t.pass None } })))
    ⊎ ((code ≡ 73) × NoneLeft p.wakes.untold × (p' ≡ p))

-- The pass has then seen steps of the key's shard after which the key has this record. Nothing else of the pass has changed.
abbrev pub SeesRecord : List ℕ → Record → PassState → PassState → Type 0
SeesRecord key state p p' = (state ≡ seen_record key p'.of.shards p'.seen) × SeesMore p p'

-- whether the handle holds a pass, or a request that has one
abbrev pub has_pass : Option ContentState → Bool
has_pass (Some (Pass held)) = true
has_pass (Some (Guard held)) = true
has_pass _ = false

-- the number of the pass that the handle holds, or whose request it holds, or 0
abbrev pub number_in : Option ContentState → ℕ
number_in (Some (Pass held)) = held.pass.number
number_in (Some (Guard held)) = held.guard.pass.number
number_in _ = 0

-- What the pass behind the handle has seen is legal.
abbrev pub SeesLegal : Option ContentState → Type 0
SeesLegal (Some (Pass p)) = IsLegalHistory p.pass.of.shards p.pass.seen
SeesLegal (Some (Guard g)) = IsLegalHistory g.guard.pass.of.shards g.guard.pass.seen
SeesLegal _ = Unit {0}
