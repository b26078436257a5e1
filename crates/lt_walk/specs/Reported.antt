-- What a call of the table tells of the steps that it made through a pass.
use Rattle.std.specs.Prelude.{ℕ, ◌≡◌, ◌≢◌, ◌+◌, nat_eq, if◌then◌else◌, ◌<◌, List, [], ◌∷◌, ◌++◌, Result, Ok, Err, Some, None, length, slice_get, slice_index_or}
use Rattle.std.specs.Option.{option_map}
use mathlib.Core.List.{IsPrefix}
use Rattle.lt_ids.specs.Ids.{Wait}
use Rattle.lt_ids.specs.declared.ticket.Through.{Through}
use Rattle.lt_entry.specs.declared.entry.Entry.{Entry}
use Rattle.lt_words.specs.History.{shard_of, IsStatus, LetIn, IsLetAmong}
use Rattle.lt_words.specs.Shown.{word_of}
use Rattle.lt_words.specs.Row.{PassState, SeesMore, Reports, OwesNoWakeUp, with_lets}
use Rattle.lt_rules.specs.declared.call.Call.{Call}
use Rattle.lt_rules.specs.declared.call.Call.TheVariants.{Look}
use Rattle.lt_shard.specs.declared.answer.Answer.{Answer}
use Rattle.lt_shard.specs.declared.answer.StepError.{StepError}
use Rattle.lt_walk.specs.declared.walk_progress.Mode.TheVariants.{Awaiting}
use Rattle.lt_walk.specs.declared.scan_results.Scan.{Scan}
use Rattle.lt_walk.specs.declared.scan_results.ScanError.{ScanError}
use Rattle.lt_walk.specs.declared.scan_results.ScanError.TheVariants.{StillWaiting}
use Rattle.lt_walk.specs.declared.scan_results.Poll.{Poll}
use Rattle.lt_walk.specs.Machine.{after_status, polled, of_step, WalkState, Step, IsWalkScan, IsLeaveFrom, IsLeft, IsRefusedLeave}

-- the shard of a step's key
abbrev pub shard_at : PassState → Step → ℕ
shard_at p x = shard_of x.key p.of.shards

-- The step was made and is reported: an entry with its key, its call and its reply is at the answer's index in its
-- key's shard. The entry names the pass, it comes after everything that the pass had seen, and the pass counts one
-- more step at the shard. No let is left that the pass noted for the waker, and no caller that it noted as asleep.
pub record Reported (old new : PassState) (x : Step) : Type 0 where
  pub entry : Entry
  pub key_is : entry.key ≡ x.key
  pub call_is : entry.call ≡ x.call
  pub reply_is : entry.reply ≡ x.answer.reply
  pub reports : Reports old new (shard_at old x) x.answer.at entry
  pub woken : OwesNoWakeUp new

-- The step of this call at this key was made, was answered so, and is reported.
abbrev pub ReportsCall : PassState → PassState → List ℕ → Call → Answer → Type 0
ReportsCall old new key call answer = Reported old new (record { key = key; call = call; answer = answer })

-- These steps were reported, one after the other.
abbrev pub AreReported : PassState → List Step → PassState → Type 0
AreReported p [] q = q ≡ p
AreReported p (x ∷ xs) q = (m : PassState) × Reported p m x × AreReported m xs q

-- the lets of these steps, in order
abbrev pub lets_reported : (old : PassState) (xs : List Step) (new : PassState) → AreReported old xs new → List Through
lets_reported old [] new r = []
lets_reported old (x ∷ xs) new r = r.1.entry.lets ++ lets_reported r.0 xs new r.2

-- Of a pass that keeps lets, exactly the lets of these steps are then left to be told beside those that were left before: the
-- latest one of each pass that they let through.
pub record LeavesLets (old new : PassState) (lets : List Through) : Type 0 where
  pub exact : new.wakes.untold ≡ with_lets old.wakes.untold lets
  pub each : (pass : ℕ) (ticket : Wait) → IsLetAmong lets pass ticket → pass < length old.wakes.untold → slice_index_or new.wakes.untold pass None ≢ None

-- No let of a reported step is lost on the way to the caller whose step it was.
abbrev pub LetsAreLeft : Type 0
LetsAreLeft = (old new : PassState) (xs : List Step) → (r : AreReported old xs new) → LeavesLets old new (lets_reported old xs new r)

-- how many of the steps are of shard s, if there are this many shards
abbrev pub steps_at : ℕ → ℕ → List Step → ℕ
steps_at shards s [] = 0
steps_at shards s (x ∷ xs) = if nat_eq (shard_of x.key shards) s then steps_at shards s xs + 1 else steps_at shards s xs

-- what contracts see of a guard: the pass that makes its calls, and its request on its way
pub record GuardState : Type 0 where
  pub pass : PassState
  pub walk : WalkState

-- the wait that the request is in, which its ticket names
abbrev pub current_wait : WalkState → Wait
current_wait s = record { number = s.asked.number; wait = s.progress.waits }

-- It is the same pass of the same table, and what it has seen only grew.
pub record IsSamePass (old new : PassState) : Type 0 where
  pub of : new.of ≡ old.of
  pub number : new.number ≡ old.number
  pub seen : IsPrefix old.seen new.seen

-- The look of the request at the key with this index in its list was made, was answered so, and is reported.
abbrev pub ReportsLook : GuardState → GuardState → ℕ → Answer → Type 0
ReportsLook old new index answer =
    (key : List ℕ) × (option_map (λ k. k.0) (slice_get old.walk.asked.keys index) ≡ Some key)
    × ReportsCall old.pass new.pass key (Look old.walk.asked.number) answer

-- The pass has seen a step that lets through the wait that the request is in.
abbrev pub SeesLet : PassState → WalkState → Type 0
SeesLet p w = LetIn p.seen p.number (current_wait w)

-- A request that waited proceeds only if it was let through.
abbrev pub ProceedsOnlyIfLet : GuardState → GuardState → Result Scan ScanError → Type 0
ProceedsOnlyIfLet old new result =
    old.walk.progress.mode ≡ Awaiting → result ≢ Err StillWaiting → SeesLet new.pass old.walk

-- The pass is the same, and its seen prefix only grew.
pub record PassStays (old new : PassState) : Type 0 where
  pub of : new.of ≡ old.of
  pub number : new.number ≡ old.number
  pub seen : IsPrefix old.seen new.seen
  pub shown : IsPrefix old.shown new.shown

-- The pass is the same, its seen prefix only grew, and the request asks for what it asked for before.
pub record GuardStays (old new : GuardState) : Type 0 where
  pub pass : PassStays old.pass new.pass
  pub asked : new.walk.asked ≡ old.walk.asked

-- A scan: the status word was read; then these steps were made and reported, in order; and the request moved on and
-- the scan ended as the machine says for that word and those answers.
pub record IsScan (max_waits : ℕ) (old new : GuardState) (result : Result Scan ScanError) : Type 0 where
  pub read : PassState
  pub word : ℕ
  pub reads : SeesMore old.pass read
  pub word_is : word ≡ word_of old.pass.number read.shown
  pub status : IsStatus read.seen old.pass.number word
  pub steps : List Step
  pub reported : AreReported read steps new.pass
  pub scan : IsWalkScan max_waits old.walk word steps result new.walk

-- A scan that was ended by a refused step: whichever error the step gave, it tells what a scan with the error of a
-- refused step tells. The guard stays at the key of the refused visit.
abbrev pub IsScanPartway : ℕ → GuardState → GuardState → Type 0
IsScanPartway max_waits old new = (e : StepError) → IsScan max_waits old new (Err (of_step e))

-- What a scan tells whose steps may be refused with other errors: it ended with this result, or a step was refused.
abbrev pub TellsScan : {E : Type 0} → ℕ → GuardState → GuardState → Result (Result Scan ScanError) E → Type 0
TellsScan max_waits old new (Ok result) = IsScan max_waits old new result
TellsScan max_waits old new (Err e) = IsScanPartway max_waits old new

-- A request that waited goes on only if it was let through, also to a step that is refused.
abbrev pub GoesOnOnlyIfLet : {E : Type 0} → GuardState → GuardState → Result (Result Scan ScanError) E → Type 0
GoesOnOnlyIfLet old new (Ok result) = ProceedsOnlyIfLet old new result
GoesOnOnlyIfLet old new (Err e) = old.walk.progress.mode ≡ Awaiting → SeesLet new.pass old.walk

-- A poll: the status word was read, and the request is then as the machine says for that word.
pub record IsPoll (old new : GuardState) (result : Poll) : Type 0 where
  pub word : ℕ
  pub reads : SeesMore old.pass new.pass
  pub word_is : word ≡ word_of old.pass.number new.pass.shown
  pub status : IsStatus new.pass.seen old.pass.number word
  pub walk : new.walk ≡ record old.walk { progress = after_status old.walk.asked.number old.walk.progress word }
  pub answer : result ≡ polled new.walk.progress

-- These leave steps were made and reported, in order.
pub record IsLeavingFrom (begun after : GuardState) : Type 0 where
  pub steps : List Step
  pub reported : AreReported begun.pass steps after.pass
  pub run : IsLeaveFrom begun.walk steps after.walk

-- A leave that is done: a leave step at each key that the request had not yet left was made and reported, in order.
pub record AllLeft (old : GuardState) (pass : PassState) (answers : List Answer) : Type 0 where
  pub steps : List Step
  pub reported : AreReported old.pass steps pass
  pub left : IsLeft old.walk steps answers

-- A leave that was refused: leave steps were made and reported, in order, up to the refused key, where the guard
-- stays.
pub record StoppedLeaving (old guard : GuardState) : Type 0 where
  pub steps : List Step
  pub reported : AreReported old.pass steps guard.pass
  pub stopped : IsRefusedLeave old.walk steps guard.walk

-- Of two steps that a pass reports of one shard, the later one has the greater index.
abbrev pub StepIndicesRise : Type 0
StepIndicesRise = (first second third last : PassState) (x y : Step) → Reported first second x → IsPrefix second.seen third.seen → Reported third last y →
    shard_at first x ≡ shard_at third y → x.answer.at < y.answer.at
