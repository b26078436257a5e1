-- What follows from what the calls of a table tell their callers.
use Rattle.std.specs.Prelude.{ℕ, [], ◌∷◌, ◌++◌, ◌&&◌, nat_eq, if◌then◌else◌, ◌≡◌, ◌≢◌, ◌+◌, ◌<◌, ◌≤◌, ◌⊎◌, Option, List, length, map, Result, Ok, Err, Some, IsOk, slice_get, slice_index, slice_index_or}
use Rattle.std.specs.Global.{Vec}
use mathlib.Core.List.{IsPrefix}
use Rattle.std.specs.List.{AllByRecursion}
use Rattle.lt_ids.specs.declared.request.Access.{Access}
use Rattle.lt_ids.specs.Ids.{Wait, value_of}
use Rattle.lt_ids.specs.declared.timestamp.Timestamp.{Timestamp}
use Rattle.lt_ids.specs.declared.request.Access.TheVariants.{Read}
use Rattle.lt_rules.specs.declared.call.Call.TheVariants.{Visit}
use Rattle.lt_rules.specs.declared.call.Reply.TheVariants.{Passed, MustWait, TooLong}
use Rattle.lt_rules.specs.Step.{Event as KeyEvent, Holds, IsBelowOthers}
use Rattle.lt_entry.specs.declared.entry.Entry.{Entry}
use Rattle.lt_words.specs.History.{part, shard_of, key_history, IsLegalHistory, IsLetAmong, LetIn}
use Rattle.lt_words.specs.Shown.{IsShown}
use Rattle.lt_words.specs.declared.event.Event.{Event}
use Rattle.lt_words.specs.Row.{Opening, PassState, SeesMore, MakesNoStep, TakesOut, fresh}
use Rattle.lt_shard.specs.declared.answer.Answer.{Answer}
use Rattle.lt_shard.specs.declared.answer.StepError.{StepError}
use Rattle.lt_walk.specs.declared.walk_progress.Mode.TheVariants.{Free, Awaiting}
use Rattle.lt_walk.specs.declared.walk_progress.Progress.{Progress}
use Rattle.lt_walk.specs.declared.scan_results.Scan.{Scan}
use Rattle.lt_walk.specs.declared.scan_results.Scan.TheVariants.{Proceed}
use Rattle.lt_walk.specs.declared.scan_results.ScanError.{ScanError}
use Rattle.lt_walk.specs.declared.scan_results.ScanError.TheVariants.{StillWaiting}
use Rattle.lt_walk.specs.declared.scan_results.Poll.{Poll}
use Rattle.lt_walk.specs.declared.scan_results.Poll.TheVariants.{Through}
use Rattle.lt_walk.specs.Machine.{Asked, after_status, polled, scan_start, restarted, visit_call, Step, answer_of, of_step, IsWalkScan}
use Rattle.lt_walk.specs.Keys.{IsKeyList}
use Rattle.lt_walk.specs.Reported.{shard_at, Reported, AreReported, steps_at, GuardState, GuardStays, IsScan, IsPoll, current_wait}
use Rattle.lt_walk.specs.Entered.{IsEntered}
use Rattle.lt_walk.specs.Closed.{IsClosed}

-- The accesses determine the key list.
abbrev pub OneKeyList : Type 0
OneKeyList = (given visited visited' : List (List ℕ × Access)) → IsKeyList given visited → IsKeyList given visited' → visited ≡ visited'

-- The step is at its index in the new part of what was seen, and it is this pass's own.
pub record Stands (old new : PassState) (x : Step) : Type 0 where
  pub entry : Entry
  pub key_is : entry.key ≡ x.key
  pub pass_is : entry.pass ≡ old.number
  pub call_is : entry.call ≡ x.call
  pub reply_is : entry.reply ≡ x.answer.reply
  pub at : slice_get (part (shard_at old x) new.seen) x.answer.at ≡ Some entry
  pub later : length (part (shard_at old x) old.seen) ≤ x.answer.at

-- Each of these steps is in the new part of what was seen. What was seen before is a prefix of what is seen now.
-- The pass's count at each shard is higher by the number of steps there.
pub record AllStand (old : PassState) (steps : List Step) (new : PassState) : Type 0 where
  pub seen : IsPrefix old.seen new.seen
  pub stand : AllByRecursion (Stands old new) steps
  pub counted : (s : ℕ) → slice_index new.counts s ≡ slice_index old.counts s + steps_at old.of.shards s steps

abbrev pub ReportedStand : Type 0
ReportedStand = (old new : PassState) (steps : List Step) → AreReported old steps new → AllStand old steps new

-- There is one answer for each key, in the list's order, and each is Passed.
pub record PassedEach (asked : Asked) (steps : List Step) (answers : List Answer) : Type 0 where
  pub keys : map (λ x. x.key) steps ≡ map (λ k. k.0) asked.keys
  pub answered : answers ≡ map answer_of steps
  pub passed : AllByRecursion (λ a. a.reply ≡ Passed) answers

-- A scan met a queue that is too long for its request: the visit of the key at this index was answered so, and it
-- is in what was then seen. The request is back at its list's start, with nothing to wait for and with the same
-- count of waits.
pub record IsTooLong (old new : GuardState) (index : ℕ) : Type 0 where
  pub step : Step
  pub access : Access
  pub at_key : slice_get old.walk.asked.keys index ≡ Some (step.key, access)
  pub call_is : step.call ≡ visit_call old.walk.asked old.walk.progress access
  pub reply_is : step.answer.reply ≡ TooLong
  pub stands : Stands old.pass new.pass step
  pub start : new.walk.progress ≡ restarted old.walk.progress

-- If what is then seen is legal, a scan from the list's start that answers Proceed has passed each key.
abbrev pub ProceedHasPassedEach : Type 0
ProceedHasPassedEach = (max_waits : ℕ) (old new : GuardState) (shards : ℕ) → IsLegalHistory shards new.pass.seen → old.walk.progress.index ≡ 0 → old.walk.progress.mode ≡ Free →
    (scan : IsScan max_waits old new (Ok Proceed)) → PassedEach old.walk.asked scan.steps new.walk.answers

-- ---- scans that were refused partway

-- Between two scans of a request its pass may see more and make other steps. The request stays where it is.
pub record StaysInPlace (old new : GuardState) : Type 0 where
  pub stays : GuardStays old new
  pub place : new.walk.progress ≡ old.walk.progress

-- what a scan made that was refused partway: its steps, and the answers that it left
pub record Partway : Type 0 where
  pub steps : List Step
  pub answers : List Answer

-- These scans of a request were refused partway, because its history was full or memory ran out. Each began at the key where
-- the one before had stopped.
abbrev pub RefusedPartway : ℕ → GuardState → List Partway → GuardState → Type 0
RefusedPartway max_waits old [] new = StaysInPlace old new
RefusedPartway max_waits old (x ∷ xs) new =
    (begun : GuardState) × (ended : GuardState) × StaysInPlace old begun
    × (e : StepError) × (scan : IsScan max_waits begun ended (Err (of_step e))) × (x.steps ≡ scan.steps) × (x.answers ≡ ended.walk.answers)
    × RefusedPartway max_waits ended xs new

-- the steps of all of them, in order
abbrev pub steps_partway : List Partway → List Step
steps_partway [] = []
steps_partway (x ∷ xs) = x.steps ++ steps_partway xs

-- the answers of all of them, in order
abbrev pub answers_partway : List Partway → List Answer
answers_partway [] = []
answers_partway (x ∷ xs) = x.answers ++ answers_partway xs

-- If what is then seen is legal, any number of scans that were refused partway, the first of which began at the list's
-- start, and one more that answers Proceed, have passed each key of the request: in order, and each once.
abbrev pub ResumedHasPassedEach : Type 0
ResumedHasPassedEach = (max_waits : ℕ) (old mid new : GuardState) (partway : List Partway) (shards : ℕ) → IsLegalHistory shards new.pass.seen → old.walk.progress.index ≡ 0 → old.walk.progress.mode ≡ Free →
    RefusedPartway max_waits old partway mid → (scan : IsScan max_waits mid new (Ok Proceed)) → PassedEach old.walk.asked (steps_partway partway ++ scan.steps) (answers_partway partway ++ new.walk.answers)

-- They are as one scan, whatever the last one answers, and whichever status word that one scan reads. Premise: the first
-- began with no wait.
abbrev pub ResumedIsOneScan : Type 0
ResumedIsOneScan = (max_waits : ℕ) (old mid new : GuardState) (partway : List Partway) (result : Result Scan ScanError) → old.walk.progress.mode ≡ Free → RefusedPartway max_waits old partway mid → (scan : IsScan max_waits mid new result) →
    (word : ℕ) → IsWalkScan max_waits old.walk word (steps_partway partway ++ scan.steps) result (record new.walk { answers = answers_partway partway ++ new.walk.answers })

-- How a caller comes to that premise: before its first scan nothing was refused; the request stays in place between two
-- scans; and one more scan is refused partway.
abbrev pub RefusedPartwayGoesOn : Type 0
RefusedPartwayGoesOn = (max_waits : ℕ) (old mid new : GuardState) (partway : List Partway) →
    RefusedPartway max_waits old [] old
    × (RefusedPartway max_waits old partway mid → StaysInPlace mid new → RefusedPartway max_waits old partway new)
    × ((e : StepError) → RefusedPartway max_waits old partway mid → (scan : IsScan max_waits mid new (Err (of_step e))) → RefusedPartway max_waits old (partway ++ record { steps = scan.steps; answers = new.walk.answers } ∷ []) new)

-- ---- lets

-- After a poll that answered Through, a scan begins whatever status word it reads.
abbrev pub ThroughGoesOn : Type 0
ThroughGoesOn = (number : ℕ) (p : Progress) (word word' : ℕ) → polled (after_status number p word) ≡ Through → IsOk (scan_start (after_status number (after_status number p word) word'))

-- A later ticket of this pass was let through.
abbrev pub LaterLet : List Event → ℕ → Wait → Type 0
LaterLet h pass t = (later : Wait) × (value_of t < value_of later) × LetIn h pass later

-- If a request waits, and its pass had seen that the very wait that it is in was shown to it, its next poll answers
-- Through, unless a later ticket of its pass was let through.
abbrev pub ShownIsThrough : Type 0
ShownIsThrough = (old new : GuardState) (result : Poll) → IsPoll old new result → old.walk.progress.mode ≡ Awaiting → IsShown old.pass.shown old.pass.number (current_wait old.walk) →
    (result ≡ Through) ⊎ LaterLet new.pass.seen old.pass.number (current_wait old.walk)

-- In the same situation its next scan is not refused with StillWaiting.
abbrev pub ShownGoesOn : Type 0
ShownGoesOn = (max_waits : ℕ) (old new : GuardState) (result : Result Scan ScanError) → IsScan max_waits old new result → old.walk.progress.mode ≡ Awaiting → IsShown old.pass.shown old.pass.number (current_wait old.walk) →
    (result ≢ Err StillWaiting) ⊎ LaterLet new.pass.seen old.pass.number (current_wait old.walk)

-- No wake-up is lost: if any reported step lets through the very wait that a request is in, and the request's pass
-- has seen what was shown to the pass that made the step, the request's next poll answers Through, unless a later
-- ticket of its pass was let through.
abbrev pub NoWakeUpIsLost : Type 0
NoWakeUpIsLost = (before after : PassState) (x : Step) (old new : GuardState) (result : Poll) → (step : Reported before after x) → IsLetAmong step.entry.lets old.pass.number (current_wait old.walk) →
    IsPrefix after.shown old.pass.shown → old.walk.progress.mode ≡ Awaiting → IsPoll old new result →
    (result ≡ Through) ⊎ LaterLet new.pass.seen old.pass.number (current_wait old.walk)

-- Two guards have different numbers if they entered by different passes, or if the second entered after its pass
-- had seen what the first one's pass had seen. Premise: what each of the two passes has seen is a prefix of one
-- legal history.
abbrev pub NumbersOfGuardsDiffer : Type 0
NumbersOfGuardsDiffer = (shards : ℕ) (whole : List Event) (old old' : PassState) (given given' : List (List ℕ × Access)) (txn txn' : Option ℕ) (ts ts' : Timestamp) (longest longest' max max' : ℕ) (guard guard' : GuardState) →
    IsLegalHistory shards whole → IsPrefix guard.pass.seen whole → IsPrefix guard'.pass.seen whole →
    IsEntered old given txn ts longest max guard → IsEntered old' given' txn' ts' longest' max' guard' →
    (old.number ≢ old'.number) ⊎ IsPrefix guard.pass.seen old'.seen → guard.walk.asked.number ≢ guard'.walk.asked.number

-- A step that was reported to a pass that is handed back at the close is at its index in the shard's final history.
abbrev pub ReportedStandAtClose : Type 0
ReportedStandAtClose = (of : Opening) (ps : List PassState) (shards : List (Vec Entry)) (draws k : ℕ) (p old new : PassState) (x : Step) (d : Vec Entry) →
    IsClosed of ps shards draws → k < length ps → p ≡ slice_index_or ps k p → (step : Reported old new x) → IsPrefix new.seen p.seen → shard_at old x < of.shards →
    slice_get (slice_index_or shards (shard_at old x) d).items x.answer.at ≡ Some step.entry

-- ---- the main theorem, for what a close gives

-- After any prefix of a key's history, at most one transaction holds the lock.
abbrev pub OneHolderAtClose : Type 0
OneHolderAtClose = (of : Opening) (ps : List PassState) (shards : List (Vec Entry)) (draws s : ℕ) (d : Vec Entry) (key : List ℕ) (past rest : List KeyEvent) (T U : ℕ) → IsClosed of ps shards draws → s < of.shards →
    key_history key (slice_index_or shards s d).items ≡ past ++ rest → Holds past T → Holds past U → T ≡ U

-- A read passes exactly when each other holder's stamp is above the read's timestamp; otherwise it has to wait.
abbrev pub ReadsPassAtClose : Type 0
ReadsPassAtClose = (of : Opening) (ps : List PassState) (shards : List (Vec Entry)) (draws s : ℕ) (d : Vec Entry) (key : List ℕ) (past rest : List KeyEvent) (e : KeyEvent) (ticket : Wait) (txn : Option ℕ) (ts : Timestamp) (longest : ℕ) → IsClosed of ps shards draws → s < of.shards →
    key_history key (slice_index_or shards s d).items ≡ past ++ e ∷ rest → e.call ≡ Visit ticket txn ts Read longest →
    ((e.reply ≡ Passed) × IsBelowOthers past txn ts) ⊎ ((e.reply ≡ MustWait) × (IsBelowOthers past txn ts → ⊥))

-- What a pass did: its calls reported these steps, one after the other, and in between it made none.
abbrev pub Lived : PassState → List Step → PassState → Type 0
Lived p [] q = MakesNoStep p q
Lived p (x ∷ xs) q = (m : PassState) × (n : PassState) × MakesNoStep p m × Reported m n x × Lived n xs q

-- A pass makes no step when it only sees more, nor when it takes stored steps out.
abbrev pub NoStepIsMade : Type 0
NoStepIsMade = (p q : PassState) → (SeesMore p q → MakesNoStep p q) × ((shard from many : ℕ) → TakesOut p q shard from many → MakesNoStep p q)

-- Each call extends what a pass did: it makes no step, or it reports steps.
abbrev pub LivesGoOn : Type 0
LivesGoOn = (p q r : PassState) (xs ys : List Step) → Lived p xs q → (MakesNoStep q r → Lived p xs r) × (AreReported q ys r → Lived p (xs ++ ys) r)

-- These passes, with different numbers, made these steps since they were handed out.
abbrev pub AreLives : Opening → List (List Step) → List PassState → Type 0
AreLives of [] [] = Unit {0}
AreLives of [] (p ∷ ps) = ⊥
AreLives of (xs ∷ lives) [] = ⊥
AreLives of (xs ∷ lives) (p ∷ ps) = Lived (fresh of p.number) xs p × AllByRecursion (λ q. p.number ≢ q.number) ps × AreLives of lives ps

-- how many of the steps are at this index of shard s, if there are this many shards
abbrev pub at_index : ℕ → ℕ → ℕ → List Step → ℕ
at_index shards s at [] = 0
at_index shards s at (x ∷ xs) = if nat_eq (shard_of x.key shards) s && nat_eq x.answer.at at then at_index shards s at xs + 1 else at_index shards s at xs

abbrev pub at_index_of : ℕ → ℕ → ℕ → List (List Step) → ℕ
at_index_of shards s at [] = 0
at_index_of shards s at (xs ∷ lives) = at_index shards s at xs + at_index_of shards s at lives

-- Of all steps that the passes reported since they were handed out, exactly one is at each index of each final
-- history.
abbrev pub EachStepIsReportedOnce : Type 0
EachStepIsReportedOnce = (of : Opening) (ps : List PassState) (shards : List (Vec Entry)) (draws : ℕ) (lives : List (List Step)) (s at : ℕ) (d : Vec Entry) →
    IsClosed of ps shards draws → AreLives of lives ps → s < of.shards → at < length (slice_index_or shards s d).items →
    at_index_of of.shards s at lives ≡ 1
