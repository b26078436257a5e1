-- The machine of a request's guard: where it is in the key list, what each event makes of that, which steps a scan
-- or a leave makes, in order, and how it ends.
use Rattle.std.specs.Prelude.{ℕ, ◌+◌, Bool, true, false, ◌&&◌, nat_eq, nat_lt, if◌then◌else◌, List, length, Option, None, slice_get, Result, Ok, Err, ◌≡◌, Some, [], ◌∷◌, ◌++◌, map, IsSome}
use Rattle.std.specs.Option.{option_map}
use Rattle.lt_ids.specs.Ids.{value_of}
use Rattle.lt_ids.specs.declared.timestamp.Timestamp.{Timestamp}
use Rattle.lt_ids.specs.declared.request.Access.{Access}
use Rattle.lt_rules.specs.declared.call.Call.{Call}
use Rattle.lt_rules.specs.declared.call.Call.TheVariants.{Visit, Leave}
use Rattle.lt_rules.specs.declared.call.Reply.{Reply}
use Rattle.lt_rules.specs.declared.call.Reply.TheVariants as replies
use Rattle.lt_walk.specs.declared.walk_progress.Mode.{Mode}
use Rattle.lt_walk.specs.declared.walk_progress.Mode.TheVariants.{Free, Awaiting, Let, Stopped, Leaving}
use Rattle.lt_walk.specs.declared.walk_progress.Progress.{Progress}
use Rattle.lt_walk.specs.declared.walk_progress.ScanEnd.{ScanEnd}
use Rattle.lt_walk.specs.declared.scan_results.Scan.TheVariants.{Proceed, Rescan, Waiting, TooLong}
use Rattle.lt_walk.specs.declared.scan_results.ScanError.{ScanError}
use Rattle.lt_walk.specs.declared.scan_results.ScanError.TheVariants as refused
use Rattle.lt_walk.specs.declared.scan_results.Poll.{Poll}
use Rattle.lt_walk.specs.declared.scan_results.Poll.TheVariants as polls
use Rattle.lt_shard.specs.declared.answer.Answer.{Answer}
use Rattle.lt_walk.specs.declared.scan_results.Scan.{Scan}
use Rattle.lt_shard.specs.declared.answer.StepError.{StepError}
use Rattle.lt_shard.specs.declared.answer.StepError.TheVariants as steps

-- what a request asked for, which never changes: its keys in the order in which they are visited, its number, its
-- transaction, its timestamp and its bound
pub record Asked : Type 0 where
  pub keys : List (List ℕ × Access)
  pub number : ℕ
  pub txn : Option ℕ
  pub ts : Timestamp
  pub longest : ℕ

-- A request that waits is let through by the status word that names its very wait.
abbrev pub mode_after_status : Mode → Bool → Mode
mode_after_status Awaiting true = Let
mode_after_status mode _ = mode

-- the progress after the status word was read
abbrev pub after_status : ℕ → Progress → ℕ → Progress
after_status number p word = record p { mode = mode_after_status p.mode (nat_eq word (value_of (record { number = number; wait = p.waits }))) }

abbrev pub polled_in : Mode → Poll
polled_in Let = polls.Through
polled_in Awaiting = polls.Waiting
polled_in _ = polls.Idle

-- what a poll answers
abbrev pub polled : Progress → Poll
polled p = polled_in p.mode

-- the progress back at the list's start, with nothing to wait for
abbrev pub restarted : Progress → Progress
restarted p = record p { index = 0; waited = false; mode = Free }

abbrev pub scan_start_in : Mode → Progress → Result Progress ScanError
scan_start_in Leaving p = Err refused.Leaving
scan_start_in Awaiting p = Err refused.StillWaiting
scan_start_in Let p = Ok (record p { index = p.index + 1; mode = Free })
scan_start_in Stopped p = Ok (restarted p)
scan_start_in Free p = Ok p

-- where a scan begins, or why it is refused
abbrev pub scan_start : Progress → Result Progress ScanError
scan_start p = scan_start_in p.mode p

abbrev pub is_free : Mode → Bool
is_free Free = true
is_free _ = false

abbrev pub is_awaiting : Mode → Bool
is_awaiting Awaiting = true
is_awaiting _ = false

abbrev pub is_stopped : Mode → Bool
is_stopped Stopped = true
is_stopped _ = false

-- Whether a visit comes next: the request is free, a key is left, and the request may begin another wait.
abbrev pub may_visit : ℕ → ℕ → Progress → Bool
may_visit keys max_waits p = is_free p.mode && nat_lt p.index keys && nat_lt p.waits max_waits

-- the progress at the next key
abbrev pub passed : Progress → Progress
passed p = record p { index = p.index + 1 }

-- the progress after a visit: the request has to wait, met a queue that is too long for it, or passed to the next
-- key
abbrev pub met_as : Progress → Bool → Bool → Progress
met_as p must_wait too_long =
    if must_wait then record p { waits = p.waits + 1; waited = true; mode = Awaiting }
    else if too_long then record p { mode = Stopped }
    else passed p

abbrev pub is_wait : Reply → Bool
is_wait replies.MustWait = true
is_wait _ = false

abbrev pub is_long : Reply → Bool
is_long replies.TooLong = true
is_long _ = false

-- the progress after a visit with this reply
abbrev pub met : Progress → Reply → Progress
met p reply = met_as p (is_wait reply) (is_long reply)

-- How a scan ends when no visit comes next: the request waits, a queue was too long for it, its waits are used up,
-- or the list is at its end.
abbrev pub scan_end : ℕ → Progress → ScanEnd
scan_end keys p =
    if is_awaiting p.mode then record { after = p; result = Ok (Waiting p.index) }
    else if is_stopped p.mode then record { after = restarted p; result = Ok (TooLong p.index) }
    else if nat_lt p.index keys then record { after = p; result = Err refused.WaitsOut }
    else record { after = restarted p; result = Ok (if p.waited then Rescan else Proceed) }

abbrev pub leave_start_in : Mode → Progress → Progress
leave_start_in Leaving p = p
leave_start_in _ p = record p { index = 0; mode = Leaving }

-- where a leave begins or continues
abbrev pub leave_start : Progress → Progress
leave_start p = leave_start_in p.mode p

-- the visit of a key, with the number of the wait that it would begin
abbrev pub visit_call : Asked → Progress → Access → Call
visit_call asked p access = Visit (record { number = asked.number; wait = p.waits + 1 }) asked.txn asked.ts access asked.longest

-- the visit that comes next in a scan, if any: its key and the call
abbrev pub next_visit : Asked → ℕ → Progress → Option (List ℕ × Call)
next_visit asked max_waits p =
    if may_visit (length asked.keys) max_waits p
    then option_map (λ k. (k.0, visit_call asked p k.1)) (slice_get asked.keys p.index)
    else None

-- the leave step that comes next, if any: its key and the call
abbrev pub next_leave : Asked → Progress → Option (List ℕ × Call)
next_leave asked p = option_map (λ k. (k.0, Leave asked.number)) (slice_get asked.keys p.index)

-- a request on its way: what it asked for, how far it is, and the answers of its latest scan or leave
pub record WalkState : Type 0 where
  pub asked : Asked
  pub progress : Progress
  pub answers : List Answer

-- what a request with these keys asks for
abbrev pub asked_for : List (List ℕ × Access) → ℕ → Option ℕ → Timestamp → ℕ → Asked
asked_for keys number txn ts longest = record { keys = keys; number = number; txn = txn; ts = ts; longest = longest }

-- the request on its way with these parts
abbrev pub walk_state : Asked → Progress → List Answer → WalkState
walk_state asked progress answers = record { asked = asked; progress = progress; answers = answers }

-- where a scan begins once the status word was read, or why it is refused
abbrev pub scan_start_after : WalkState → ℕ → Result Progress ScanError
scan_start_after w word = scan_start (after_status w.asked.number w.progress word)

-- the visit of the key that the request is at, if a key is left
abbrev pub visit_here : WalkState → Option Call
visit_here w = option_map (λ k. visit_call w.asked w.progress k.1) (slice_get w.asked.keys w.progress.index)

-- the request with this progress
abbrev pub walk_moved : WalkState → Progress → WalkState
walk_moved w p = record w { progress = p }

-- the request with this progress and one more answer
abbrev pub walk_answered : WalkState → Progress → Answer → WalkState
walk_answered w p answer = record w { progress = p; answers = w.answers ++ answer ∷ [] }

-- a key step that was made and reported
pub record Step : Type 0 where
  pub key : List ℕ
  pub call : Call
  pub answer : Answer

abbrev pub answer_of : Step → Answer
answer_of x = x.answer

-- These visits lead from p to q, and each is the one that comes next.
abbrev pub Visits : Asked → ℕ → Progress → List Step → Progress → Type 0
Visits asked max_waits p [] q = q ≡ p
Visits asked max_waits p (x ∷ xs) q =
    (next_visit asked max_waits p ≡ Some (x.key, x.call)) × Visits asked max_waits (met p x.answer.reply) xs q

-- the error of a scan that is ended by this refused step
abbrev pub of_step : StepError → ScanError
of_step steps.HistoryFull = refused.HistoryFull
of_step steps.Memory = refused.Memory

-- The scan was ended by a refused step.
abbrev pub IsRefusedStep : Result Scan ScanError → Type 0
IsRefusedStep result = (e : StepError) × (result ≡ Err (of_step e))

-- How a scan ends at p: by a refused step if a visit comes next, and otherwise as the machine says.
abbrev pub Ends : Option (List ℕ × Call) → ScanEnd → Progress → Result Scan ScanError → Progress → Type 0
Ends None end p result after = (result ≡ end.result) × (after ≡ end.after)
Ends (Some _) end p result after = IsRefusedStep result × (after ≡ p)

-- A scan that begins at p makes these visits and ends with this result.
pub record IsScanFrom (asked : Asked) (max_waits : ℕ) (p : Progress) (steps : List Step) (result : Result Scan ScanError) (after : WalkState) : Type 0 where
  pub last : Progress
  pub visits : Visits asked max_waits p steps last
  pub ends : Ends (next_visit asked max_waits last) (scan_end (length asked.keys) last) last result after.progress
  pub answers : after.answers ≡ map answer_of steps
  pub stays : after.asked ≡ asked

-- A scan that is refused at once changes nothing. Any other scan runs from where it begins.
abbrev pub IsScanBegun : Result Progress ScanError → ℕ → WalkState → List Step → Result Scan ScanError → WalkState → Type 0
IsScanBegun (Err e) max_waits old steps result after = (steps ≡ []) × (result ≡ Err e) × (after ≡ old)
IsScanBegun (Ok p) max_waits old steps result after = IsScanFrom old.asked max_waits p steps result after

-- A scan: the status word was read, these steps were made, and the scan ended with this result.
abbrev pub IsWalkScan : ℕ → WalkState → ℕ → List Step → Result Scan ScanError → WalkState → Type 0
IsWalkScan max_waits old word steps result after =
    IsScanBegun (scan_start (after_status old.asked.number old.progress word)) max_waits old steps result after

-- These leave steps lead from p to q, and each is the one that comes next.
abbrev pub Leaves : Asked → Progress → List Step → Progress → Type 0
Leaves asked p [] q = q ≡ p
Leaves asked p (x ∷ xs) q = (next_leave asked p ≡ Some (x.key, x.call)) × Leaves asked (passed p) xs q

-- the answers that a leave begins or continues with
abbrev pub leave_answers_in : Mode → List Answer → List Answer
leave_answers_in Leaving answers = answers
leave_answers_in _ answers = []

abbrev pub leave_answers : WalkState → List Answer
leave_answers s = leave_answers_in s.progress.mode s.answers

-- A request that is leaving made these steps: it has their answers and has moved past their keys.
pub record IsLeaveFrom (begun : WalkState) (steps : List Step) (after : WalkState) : Type 0 where
  pub leaves : Leaves begun.asked begun.progress steps after.progress
  pub answers : after.answers ≡ begun.answers ++ map answer_of steps
  pub stays : after.asked ≡ begun.asked

-- a request as its leave begins or continues
abbrev pub leaving : WalkState → WalkState
leaving s = record s { progress = leave_start s.progress; answers = leave_answers s }

-- The request has left each key, and has an answer for each.
pub record IsLeft (old : WalkState) (steps : List Step) (answers : List Answer) : Type 0 where
  pub last : WalkState
  pub run : IsLeaveFrom (leaving old) steps last
  pub at_end : next_leave last.asked last.progress ≡ None
  pub answered : answers ≡ last.answers

-- The request comes back at the key whose leave step was refused.
pub record IsRefusedLeave (old : WalkState) (steps : List Step) (new : WalkState) : Type 0 where
  pub run : IsLeaveFrom (leaving old) steps new
  pub refused : IsSome (next_leave new.asked new.progress)
