-- The request of a pass has the number of the pass's latest `request` answer.
use Rattle.std.proofs.Common.{◌≡◌, ℕ, List, [], ◌∷◌, Option, Some, None, Result, Ok, Err, refl, sym, ap, subst, ◌∙◌}
use Rattle.std.specs.Prelude.{slice_get}
use Rattle.lt_ids.specs.declared.timestamp.Timestamp.{Timestamp}
use Rattle.lt_ids.specs.declared.request.Access.{Access}
use Rattle.lt_rules.specs.declared.call.Call.{Call}
use Rattle.lt_walk.specs.Machine.{Step, Asked, after_status, scan_start, polled, WalkState, IsScanBegun}
use Rattle.lt_walk.specs.declared.walk_progress.Progress.{Progress}
use Rattle.lt_walk.specs.declared.scan_results.Scan.{Scan}
use Rattle.lt_walk.specs.declared.scan_results.Scan.TheVariants as scans
use Rattle.lt_walk.specs.declared.scan_results.ScanError.{ScanError}
use Rattle.lt_walk.specs.declared.scan_results.ScanError.TheVariants as refused
use Rattle.lt_walk.specs.declared.scan_results.Poll.{Poll}
use Rattle.lt_walk.specs.declared.scan_results.Poll.TheVariants as polls
use Rattle.lt_script.specs.declared.command.Action.{Action}
use Rattle.lt_script.specs.declared.command.Action.TheVariants as acts
use Rattle.lt_runner.specs.declared.answer.LineAnswer.{LineAnswer}
use Rattle.lt_runner.specs.declared.answer.LineAnswer.TheVariants as answers
use Rattle.lt_runner.specs.declared.answer.Refusal.{Refusal}
use Rattle.lt_runner.specs.declared.answer.Refusal.TheVariants as refusals
use Rattle.lt_runner.specs.Machine.{Rules, ExecutedLine, Runs, IsLineDone, IsNone, IsEntering, IsToldAt, IsScanAnswer, poll_answer, IsReplyAnswered, IsLookAt, IsLeaveOf}
use Rattle.lt_runner.specs.Laws.{latest_number, HasNumber, HaveLatest, NumbersAreLatest}

-- The answer names no new number, and the request is unchanged.
keeps : (o : Option ℕ) (answer : LineAnswer) (before after : Option WalkState) → latest_number o answer ≡ o → after ≡ before → HasNumber o before → HasNumber (latest_number o answer) after
keeps o answer before after l a h = rw (l, a) h

none_next : (o : Option ℕ) (answer : LineAnswer) (steps : List Step) (after : Option WalkState) → IsNone answer steps after → HasNumber (latest_number o answer) after
none_next o answer steps after h = rw h.2 tt

enters : (o : Option ℕ) (txn : Option ℕ) (ts : Timestamp) (accesses : List (List ℕ × Access)) (longest : ℕ) (answer : LineAnswer) (after : Option WalkState) → IsEntering txn ts accesses longest answer after → HasNumber (latest_number o answer) after
enters o txn ts accesses longest (answers.Request n) after h = rw h.state refl
enters o txn ts accesses longest (answers.Refused r) after h = rw h.1 tt
enters o txn ts accesses longest answers.Busy after h = absurd h
enters o txn ts accesses longest answers.Proceed after h = absurd h
enters o txn ts accesses longest answers.Rescan after h = absurd h
enters o txn ts accesses longest (answers.WaitingAt k) after h = absurd h
enters o txn ts accesses longest (answers.TooLongAt k) after h = absurd h
enters o txn ts accesses longest answers.Let after h = absurd h
enters o txn ts accesses longest answers.Waiting after h = absurd h
enters o txn ts accesses longest answers.Idle after h = absurd h
enters o txn ts accesses longest answers.Turns after h = absurd h
enters o txn ts accesses longest (answers.Replied r) after h = absurd h
enters o txn ts accesses longest answers.Stranger after h = absurd h
enters o txn ts accesses longest answers.Done after h = absurd h
enters o txn ts accesses longest answers.NoRequest after h = absurd h

pub scan_asked : (r : Result Progress ScanError) (max_waits : ℕ) (s : WalkState) (steps : List Step) (result : Result Scan ScanError) (after : WalkState) → IsScanBegun r max_waits s steps result after → after.asked ≡ s.asked
scan_asked (Err e) max_waits s steps result after h = ap (λ (x : WalkState). x.asked) h.2
scan_asked (Ok p) max_waits s steps result after h = h.stays

key_next : (told : List ℕ → LineAnswer) (o : Option ℕ) (k : Option (List ℕ × Access)) (answer : LineAnswer) → ((key : List ℕ) → latest_number o (told key) ≡ o) → IsToldAt told k answer → latest_number o answer ≡ o
key_next told o None answer same h = absurd h
key_next told o (Some k) answer same h = ap (latest_number o) h ∙ same k.0

scan_next : (o : Option ℕ) (keys : List (List ℕ × Access)) (result : Result Scan ScanError) (answer : LineAnswer) → IsScanAnswer keys result answer → latest_number o answer ≡ o
scan_next o keys (Ok scans.Proceed) answer h = rw h refl
scan_next o keys (Ok scans.Rescan) answer h = rw h refl
scan_next o keys (Ok (scans.Waiting index)) answer h = key_next (λ key. answers.WaitingAt key) o (slice_get keys index) answer (λ key. refl) h
scan_next o keys (Ok (scans.TooLong index)) answer h = key_next (λ key. answers.TooLongAt key) o (slice_get keys index) answer (λ key. refl) h
scan_next o keys (Err refused.Leaving) answer h = rw h refl
scan_next o keys (Err refused.StillWaiting) answer h = rw h refl
scan_next o keys (Err refused.WaitsOut) answer h = rw h refl
scan_next o keys (Err refused.HistoryFull) answer h = rw h refl
scan_next o keys (Err refused.Memory) answer h = absurd h

same_asked : (o : Option ℕ) (s t : WalkState) (answer : LineAnswer) (after : Option WalkState) → latest_number o answer ≡ o → after ≡ Some t → t.asked ≡ s.asked → HasNumber o (Some s) → HasNumber (latest_number o answer) after
same_asked o s t answer after l a e h = rw (l, a) (h ∙ ap (λ (x : Asked). Some x.number) (sym e))

poll_next : (o turns : Option ℕ) (found : Poll) → latest_number o (poll_answer turns found) ≡ o
poll_next o turns polls.Through = refl
poll_next o None polls.Waiting = refl
poll_next o (Some n) polls.Waiting = refl
poll_next o turns polls.Idle = refl

replied_next : (o : Option ℕ) (key : List ℕ) (call : Call) (answer : LineAnswer) (steps : List Step) → IsReplyAnswered key call answer steps → latest_number o answer ≡ o
replied_next o key call (answers.Request n) steps h = cc (h.told)
replied_next o key call (answers.Refused r) steps h = refl
replied_next o key call answers.Busy steps h = refl
replied_next o key call answers.Proceed steps h = refl
replied_next o key call answers.Rescan steps h = refl
replied_next o key call (answers.WaitingAt k) steps h = refl
replied_next o key call (answers.TooLongAt k) steps h = refl
replied_next o key call answers.Let steps h = refl
replied_next o key call answers.Waiting steps h = refl
replied_next o key call answers.Idle steps h = refl
replied_next o key call answers.Turns steps h = refl
replied_next o key call (answers.Replied r) steps h = refl
replied_next o key call answers.Stranger steps h = refl
replied_next o key call answers.Done steps h = refl
replied_next o key call answers.NoRequest steps h = refl

look_next : (o : Option ℕ) (index : Option ℕ) (number : ℕ) (key : List ℕ) (answer : LineAnswer) (steps : List Step) → IsLookAt index number key answer steps → latest_number o answer ≡ o
look_next o None number key answer steps h = rw h.0 refl
look_next o (Some i) number key answer steps h = replied_next o key _ answer steps h

leave_refused : (o : Option ℕ) (s : WalkState) (r : Refusal) (steps : List Step) (after : Option WalkState) → IsLeaveOf s (answers.Refused r) steps after → HasNumber o (Some s) → HasNumber o after
leave_refused o s refusals.HistoryFull steps after h n = rw h.goes_on (n ∙ ap (λ (x : Asked). Some x.number) (sym h.refused.run.stays))
leave_refused o s refusals.NoKeys steps after h n = absurd h
leave_refused o s refusals.TooManyKeys steps after h n = absurd h
leave_refused o s refusals.NumbersOut steps after h n = absurd h
leave_refused o s refusals.Leaving steps after h n = absurd h
leave_refused o s refusals.StillWaiting steps after h n = absurd h
leave_refused o s refusals.WaitsOut steps after h n = absurd h

leaves : (o : Option ℕ) (s : WalkState) (answer : LineAnswer) (steps : List Step) (after : Option WalkState) → IsLeaveOf s answer steps after → HasNumber o (Some s) → HasNumber (latest_number o answer) after
leaves o s answers.Done steps after h n = rw h.1 tt
leaves o s (answers.Refused r) steps after h n = leave_refused o s r steps after h n
leaves o s (answers.Request k) steps after h n = absurd h
leaves o s answers.Busy steps after h n = absurd h
leaves o s answers.Proceed steps after h n = absurd h
leaves o s answers.Rescan steps after h n = absurd h
leaves o s (answers.WaitingAt k) steps after h n = absurd h
leaves o s (answers.TooLongAt k) steps after h n = absurd h
leaves o s answers.Let steps after h n = absurd h
leaves o s answers.Waiting steps after h n = absurd h
leaves o s answers.Idle steps after h n = absurd h
leaves o s answers.Turns steps after h n = absurd h
leaves o s (answers.Replied r) steps after h n = absurd h
leaves o s answers.Stranger steps after h n = absurd h
leaves o s answers.NoRequest steps after h n = absurd h

next : (rules : Rules) (o : Option ℕ) (action : Action) (before : Option WalkState) (word : ℕ) (answer : LineAnswer) (steps : List Step) (after : Option WalkState) → IsLineDone rules action before word answer steps after → HasNumber o before → HasNumber (latest_number o answer) after
next rules o (acts.Open txn ts accesses longest) None word answer steps after h n = enters o txn ts accesses longest answer after h.1
next rules o (acts.Open txn ts accesses longest) (Some s) word answer steps after h n = rw (h.0, h.2) n
next rules o acts.Scan None word answer steps after h n = none_next o answer steps after h
next rules o acts.Scan (Some s) word answer steps after h n = same_asked o s h.state answer after (scan_next o s.asked.keys h.result answer h.told) h.goes_on (scan_asked (scan_start (after_status s.asked.number s.progress word)) rules.max_waits s steps h.result h.state h.scan) n
next rules o acts.Await None word answer steps after h n = none_next o answer steps after h
next rules o acts.Await (Some s) word answer steps after h n = rw (h.0, h.2, poll_next o rules.turns (polled (after_status s.asked.number s.progress word))) n
next rules o (acts.Look key) None word answer steps after h n = none_next o answer steps after h
next rules o (acts.Look key) (Some s) word answer steps after h n = keeps o answer (Some s) after (look_next o _ s.asked.number key answer steps h.0) h.1 n
next rules o (acts.Acquire txn ts key) before word answer steps after h n = keeps o answer before after (replied_next o key _ answer steps h.0) h.1 n
next rules o (acts.Update txn ts key) before word answer steps after h n = keeps o answer before after (replied_next o key _ answer steps h.0) h.1 n
next rules o (acts.Finish txn key) before word answer steps after h n = keeps o answer before after (replied_next o key _ answer steps h.0) h.1 n
next rules o acts.Leave None word answer steps after h n = none_next o answer steps after h
next rules o acts.Leave (Some s) word answer steps after h n = leaves o s answer steps after h n

have_latest : (rules : Rules) (o : Option ℕ) (before : Option WalkState) (ds : List ExecutedLine) (after : Option WalkState) → HasNumber o before → Runs rules before ds after → HaveLatest o ds
have_latest rules o before [] after n r = tt
have_latest rules o before (d ∷ ds) after n r = (subst (HasNumber o) (sym r.0) n, have_latest rules (latest_number o d.answer) d.after ds after (next rules o d.line.action before d.word d.answer d.steps d.after r.1 n) r.2)

pub numbers_latest : NumbersAreLatest
numbers_latest rules ds after r = have_latest rules None None ds after tt r
