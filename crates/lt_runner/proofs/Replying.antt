-- Answers that are replies, and lets.
use Rattle.std.proofs.Common.{◌≡◌, ◌≢◌, ℕ, List, [], ◌∷◌, Option, Some, None, Result, Ok, Err, refl}
use Rattle.std.specs.Prelude.{slice_get}
use Rattle.lt_ids.specs.Ids.{Wait}
use Rattle.lt_ids.specs.declared.request.Access.{Access}
use Rattle.lt_rules.specs.declared.call.Call.{Call}
use Rattle.lt_rules.specs.declared.call.Call.TheVariants as calls
use Rattle.lt_rules.specs.declared.call.Reply.{Reply}
use Rattle.lt_walk.specs.Machine.{Step, after_status, polled, polled_in, WalkState}
use Rattle.lt_walk.specs.declared.walk_progress.Mode.{Mode}
use Rattle.lt_walk.specs.declared.walk_progress.Mode.TheVariants as modes
use Rattle.lt_walk.specs.declared.scan_results.Scan.{Scan}
use Rattle.lt_walk.specs.declared.scan_results.Scan.TheVariants as scans
use Rattle.lt_walk.specs.declared.scan_results.ScanError.{ScanError}
use Rattle.lt_walk.specs.declared.scan_results.ScanError.TheVariants as refused
use Rattle.lt_walk.specs.declared.scan_results.Poll.{Poll}
use Rattle.lt_walk.specs.declared.scan_results.Poll.TheVariants as polls
use Rattle.lt_walk.specs.Reported.{current_wait}
use Rattle.lt_script.specs.declared.command.Action.{Action}
use Rattle.lt_script.specs.declared.command.Action.TheVariants as acts
use Rattle.lt_runner.specs.declared.answer.LineAnswer.{LineAnswer}
use Rattle.lt_runner.specs.declared.answer.LineAnswer.TheVariants as answers
use Rattle.lt_runner.specs.Machine.{let_in_mode, IsOneStep, IsLookAt, IsToldAt, IsScanAnswer, poll_answer, index_of}
use Rattle.lt_runner.specs.Laws.{IsCallOf, HasStep, LetHasTicket, ReplyHasStep}

let_mode : (turns : Option ℕ) (m : Mode) (t : Wait) → answers.Let ≡ poll_answer turns (polled_in m) → let_in_mode m t ≡ t ∷ []
let_mode turns modes.Let t e = refl
let_mode None modes.Awaiting t e = cc
let_mode (Some n) modes.Awaiting t e = cc
let_mode turns modes.Free t e = cc
let_mode turns modes.Stopped t e = cc
let_mode turns modes.Leaving t e = cc

pub let_ticket : LetHasTicket
let_ticket rules s word steps after h = let_mode rules.turns (after_status s.asked.number s.progress word).mode (current_wait s) h.0

no_poll : (turns : Option ℕ) (found : Poll) (r : Reply) → answers.Replied r ≡ poll_answer turns found → ⊥
no_poll turns polls.Through r e = cc
no_poll None polls.Waiting r e = cc
no_poll (Some n) polls.Waiting r e = cc
no_poll turns polls.Idle r e = cc

no_key : (told : List ℕ → LineAnswer) (k : Option (List ℕ × Access)) (r : Reply) → ((key : List ℕ) → answers.Replied r ≢ told key) → IsToldAt told k (answers.Replied r) → ⊥
no_key told None r never h = h
no_key told (Some k) r never h = never k.0 h

no_scan : (keys : List (List ℕ × Access)) (result : Result Scan ScanError) (r : Reply) → IsScanAnswer keys result (answers.Replied r) → ⊥
no_scan keys (Ok scans.Proceed) r h = cc
no_scan keys (Ok scans.Rescan) r h = cc
no_scan keys (Ok (scans.Waiting index)) r h = no_key (λ key. answers.WaitingAt key) (slice_get keys index) r (λ key e. cc) h
no_scan keys (Ok (scans.TooLong index)) r h = no_key (λ key. answers.TooLongAt key) (slice_get keys index) r (λ key e. cc) h
no_scan keys (Err refused.Leaving) r h = cc
no_scan keys (Err refused.StillWaiting) r h = cc
no_scan keys (Err refused.WaitsOut) r h = cc
no_scan keys (Err refused.HistoryFull) r h = cc
no_scan keys (Err refused.Memory) r h = h

same_reply : (a b : Reply) → answers.Replied a ≡ answers.Replied b → b ≡ a
same_reply a b e = cc

step_of : (action : Action) (before : Option WalkState) (key : List ℕ) (call : Call) (r : Reply) (steps : List Step) → ((e : Step) → e.key ≡ key → e.call ≡ call → IsCallOf action before e) → IsOneStep key call (answers.Replied r) steps → HasStep action before r steps
step_of action before key call r steps f h = record { step = h.step; alone = h.alone; call = f h.step h.key_is h.call_is; reply_is = same_reply r h.step.answer.reply h.told }

look_step : (index : Option ℕ) (s : WalkState) (key : List ℕ) (r : Reply) (steps : List Step) → IsLookAt index s.asked.number key (answers.Replied r) steps → HasStep (acts.Look key) (Some s) r steps
look_step None s key r steps h = absurd (let e = h.0 in cc e)
look_step (Some i) s key r steps h = step_of (acts.Look key) (Some s) key (calls.Look s.asked.number) r steps (λ e k c. (k, c)) h

none : (r : Reply) → answers.Replied r ≡ answers.NoRequest → ⊥
none r e = cc

pub reply_step : ReplyHasStep
reply_step rules (acts.Open txn ts accesses longest) None word r steps after h = absurd h.1
reply_step rules (acts.Open txn ts accesses longest) (Some s) word r steps after h = absurd (let e = h.0 in cc e)
reply_step rules acts.Scan None word r steps after h = absurd (none r h.0)
reply_step rules acts.Scan (Some s) word r steps after h = absurd (no_scan s.asked.keys h.result r h.told)
reply_step rules acts.Await None word r steps after h = absurd (none r h.0)
reply_step rules acts.Await (Some s) word r steps after h = absurd (no_poll rules.turns (polled (after_status s.asked.number s.progress word)) r h.0)
reply_step rules (acts.Look key) None word r steps after h = absurd (none r h.0)
reply_step rules (acts.Look key) (Some s) word r steps after h = look_step (index_of s.asked.keys key) s key r steps h.0
reply_step rules (acts.Acquire txn ts key) before word r steps after h = step_of (acts.Acquire txn ts key) before key (calls.Acquire txn ts) r steps (λ e k c. (k, c)) h.0
reply_step rules (acts.Update txn ts key) before word r steps after h = step_of (acts.Update txn ts key) before key (calls.Update txn ts) r steps (λ e k c. (k, c)) h.0
reply_step rules (acts.Finish txn key) before word r steps after h = step_of (acts.Finish txn key) before key (calls.Finish txn) r steps (λ e k c. (k, c)) h.0
reply_step rules acts.Leave None word r steps after h = absurd (none r h.0)
reply_step rules acts.Leave (Some s) word r steps after h = absurd h
