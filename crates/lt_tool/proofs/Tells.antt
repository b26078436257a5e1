-- What the answers of an output and its histories say of one another.
use Rattle.std.proofs.Common.{◌≡◌, ◌≢◌, ℕ, suc, ◌+◌, ◌<◌, List, [], ◌∷◌, ◌++◌, length, map, Option, Some, None, Result, Ok, Err, inl, inr, refl, sym, ap, subst, ◌∙◌}
use Rattle.std.specs.Prelude.{slice_get, ◌⊎◌}
use Rattle.std.specs.Global.{Vec}
use Rattle.std.specs.List.{flat_map, AllByRecursion}
use Rattle.std.proofs.lemmas.List.{map-append}
use Rattle.lt_ids.specs.declared.request.Access.{Access}
use Rattle.lt_rules.specs.declared.call.Reply.{Reply}
use Rattle.lt_rules.specs.declared.call.Reply.TheVariants.{MustWait, TooLong}
use Rattle.lt_entry.specs.declared.entry.Entry.{Entry}
use Rattle.lt_walk.specs.Machine.{Step, WalkState, after_status, polled}
use Rattle.lt_walk.specs.declared.scan_results.Scan.{Scan}
use Rattle.lt_walk.specs.declared.scan_results.Scan.TheVariants as scans
use Rattle.lt_walk.specs.declared.scan_results.ScanError.{ScanError}
use Rattle.lt_walk.specs.declared.scan_results.ScanError.TheVariants as refused
use Rattle.lt_walk.specs.declared.scan_results.Poll.{Poll}
use Rattle.lt_walk.specs.declared.scan_results.Poll.TheVariants as polls
use Rattle.lt_walk.specs.Reported.{current_wait}
use Rattle.lt_script.specs.declared.command.Action.{Action}
use Rattle.lt_script.specs.declared.command.Action.TheVariants as acts
use Rattle.lt_script.specs.declared.command.Command.{Command}
use Rattle.lockrun_words.specs.declared.options.Options.{Options}
use Rattle.lt_runner.specs.declared.answer.AnswerLine.{AnswerLine}
use Rattle.lt_runner.specs.declared.answer.LineAnswer.{LineAnswer}
use Rattle.lt_runner.specs.declared.answer.LineAnswer.TheVariants as answers
use Rattle.lt_runner.specs.declared.outcome.Finish.{Finish}
use Rattle.lt_runner.specs.declared.outcome.Finish.TheVariants.{Done, TurnsOut}
use Rattle.lt_runner.specs.Machine.{Rules, ExecutedLine, Runs, IsLineDone, IsToldAt, IsScanAnswer, IsLookAt, poll_answer, index_of, lets_of, lets_of_executed, numbers_of}
use Rattle.lt_runner.specs.Laws.{latest_number, HasNumber, HaveLatest, IsCallOf}
use Rattle.lt_runner.specs.Standing.{made_by, made_from, IsInFinalHistory, IsLetThere, TicketsAreLet, Apart, NumbersDiffer, run_numbers}
use Rattle.lt_runner.specs.Gates.{GateAnswers, MayRefuseNext, MayRun, NeverRefuses}
use Rattle.lt_runner.specs.Worked.{is_turns, line_of_executed, steps_of_executed, answer_line, pass_lines, HasEnded, EndsInTurns}
use Rattle.lt_runner.specs.Worked as worked
use Rattle.lt_runner.specs.Turns.{IsAmong}
use Rattle.lt_runner.specs.Closing.{finish_all, join}
use Rattle.lt_runner.specs.Ran.{AreAnswered, all_entries}
use Rattle.lt_runner.proofs.Latest.{numbers_latest}
use Rattle.lt_runner.proofs.Replying.{reply_step, let_ticket}
use Rattle.lt_runner.proofs.Waiting.{waiting_visit, long_visit}
use Rattle.lt_tool.specs.Output.{IsOutput, rules_of_options}
use Rattle.lt_tool.specs.Laws.{Answered, command_of, answered_line, AreAnswerPrefixes, StandsInHistories, IsAsked, LineHasStep, LineEndsInVisit, WasLet, AnswerTells, AllTell, EachTells, indices_of, numbers_in, IndicesRise, NoAnswerIsTurns, LastIsTurns, IsStopped, SomeStopped, SomeTurns, TellsAll, OutputTells}
use Rattle.lt_tool.proofs.Places.{finals_of, index, made_index, joined_at, step_there, all_within, all_differ, all_rise, made_indices, all_left, all_right, apart_left, apart_right, all_counted, before}

-- ---- which lines have such an answer

no_key : (told : List ℕ → LineAnswer) (k : Option (List ℕ × Access)) (a : LineAnswer) → ((key : List ℕ) → a ≢ told key) → IsToldAt told k a → ⊥
no_key told None a never h = h
no_key told (Some k) a never h = never k.0 h

waiting_poll : (turns : Option ℕ) (found : Poll) (key : List ℕ) → answers.WaitingAt key ≢ poll_answer turns found
waiting_poll turns polls.Through key e = cc
waiting_poll None polls.Waiting key e = cc
waiting_poll (Some n) polls.Waiting key e = cc
waiting_poll turns polls.Idle key e = cc

long_poll : (turns : Option ℕ) (found : Poll) (key : List ℕ) → answers.TooLongAt key ≢ poll_answer turns found
long_poll turns polls.Through key e = cc
long_poll None polls.Waiting key e = cc
long_poll (Some n) polls.Waiting key e = cc
long_poll turns polls.Idle key e = cc

let_scan : (keys : List (List ℕ × Access)) (result : Result Scan ScanError) → IsScanAnswer keys result answers.Let → ⊥
let_scan keys (Ok scans.Proceed) h = cc
let_scan keys (Ok scans.Rescan) h = cc
let_scan keys (Ok (scans.Waiting i)) h = no_key (λ key. answers.WaitingAt key) (slice_get keys i) answers.Let (λ key e. cc) h
let_scan keys (Ok (scans.TooLong i)) h = no_key (λ key. answers.TooLongAt key) (slice_get keys i) answers.Let (λ key e. cc) h
let_scan keys (Err refused.Leaving) h = cc
let_scan keys (Err refused.StillWaiting) h = cc
let_scan keys (Err refused.WaitsOut) h = cc
let_scan keys (Err refused.HistoryFull) h = cc
let_scan keys (Err refused.Memory) h = h

waiting_look : (o : Option ℕ) (number : ℕ) (at key : List ℕ) (steps : List Step) → IsLookAt o number at (answers.WaitingAt key) steps → ⊥
waiting_look None number at key steps h = let e = h.0 in cc e
waiting_look (Some i) number at key steps h = let e = h.told in cc e

long_look : (o : Option ℕ) (number : ℕ) (at key : List ℕ) (steps : List Step) → IsLookAt o number at (answers.TooLongAt key) steps → ⊥
long_look None number at key steps h = let e = h.0 in cc e
long_look (Some i) number at key steps h = let e = h.told in cc e

let_look : (o : Option ℕ) (number : ℕ) (at : List ℕ) (steps : List Step) → IsLookAt o number at answers.Let steps → ⊥
let_look None number at steps h = let e = h.0 in cc e
let_look (Some i) number at steps h = let e = h.told in cc e

-- A line of a pass that has a request.
record IsLine (kind action : Action) (before : Option WalkState) : Type 0 where
  state : WalkState
  action_is : action ≡ kind
  before_is : before ≡ Some state

waiting_line : (rules : Rules) (action : Action) (before : Option WalkState) (word : ℕ) (key : List ℕ) (steps : List Step) (after : Option WalkState) → IsLineDone rules action before word (answers.WaitingAt key) steps after → IsLine acts.Scan action before
waiting_line rules (acts.Open txn ts accesses longest) None word key steps after h = absurd h.1
waiting_line rules (acts.Open txn ts accesses longest) (Some s) word key steps after h = absurd (let e = h.0 in cc e)
waiting_line rules acts.Scan None word key steps after h = absurd (let e = h.0 in cc e)
waiting_line rules acts.Scan (Some s) word key steps after h = record { state = s; action_is = refl; before_is = refl }
waiting_line rules acts.Await None word key steps after h = absurd (let e = h.0 in cc e)
waiting_line rules acts.Await (Some s) word key steps after h = absurd (waiting_poll rules.turns (polled (after_status s.asked.number s.progress word)) key h.0)
waiting_line rules (acts.Look at) None word key steps after h = absurd (let e = h.0 in cc e)
waiting_line rules (acts.Look at) (Some s) word key steps after h = absurd (waiting_look (index_of s.asked.keys at) s.asked.number at key steps h.0)
waiting_line rules (acts.Acquire txn ts at) before word key steps after h = absurd (let e = h.0.told in cc e)
waiting_line rules (acts.Update txn ts at) before word key steps after h = absurd (let e = h.0.told in cc e)
waiting_line rules (acts.Finish txn at) before word key steps after h = absurd (let e = h.0.told in cc e)
waiting_line rules acts.Leave None word key steps after h = absurd (let e = h.0 in cc e)
waiting_line rules acts.Leave (Some s) word key steps after h = absurd h

long_line : (rules : Rules) (action : Action) (before : Option WalkState) (word : ℕ) (key : List ℕ) (steps : List Step) (after : Option WalkState) → IsLineDone rules action before word (answers.TooLongAt key) steps after → IsLine acts.Scan action before
long_line rules (acts.Open txn ts accesses longest) None word key steps after h = absurd h.1
long_line rules (acts.Open txn ts accesses longest) (Some s) word key steps after h = absurd (let e = h.0 in cc e)
long_line rules acts.Scan None word key steps after h = absurd (let e = h.0 in cc e)
long_line rules acts.Scan (Some s) word key steps after h = record { state = s; action_is = refl; before_is = refl }
long_line rules acts.Await None word key steps after h = absurd (let e = h.0 in cc e)
long_line rules acts.Await (Some s) word key steps after h = absurd (long_poll rules.turns (polled (after_status s.asked.number s.progress word)) key h.0)
long_line rules (acts.Look at) None word key steps after h = absurd (let e = h.0 in cc e)
long_line rules (acts.Look at) (Some s) word key steps after h = absurd (long_look (index_of s.asked.keys at) s.asked.number at key steps h.0)
long_line rules (acts.Acquire txn ts at) before word key steps after h = absurd (let e = h.0.told in cc e)
long_line rules (acts.Update txn ts at) before word key steps after h = absurd (let e = h.0.told in cc e)
long_line rules (acts.Finish txn at) before word key steps after h = absurd (let e = h.0.told in cc e)
long_line rules acts.Leave None word key steps after h = absurd (let e = h.0 in cc e)
long_line rules acts.Leave (Some s) word key steps after h = absurd h

let_line : (rules : Rules) (action : Action) (before : Option WalkState) (word : ℕ) (steps : List Step) (after : Option WalkState) → IsLineDone rules action before word answers.Let steps after → IsLine acts.Await action before
let_line rules (acts.Open txn ts accesses longest) None word steps after h = absurd h.1
let_line rules (acts.Open txn ts accesses longest) (Some s) word steps after h = absurd (let e = h.0 in cc e)
let_line rules acts.Scan None word steps after h = absurd (let e = h.0 in cc e)
let_line rules acts.Scan (Some s) word steps after h = absurd (let_scan s.asked.keys h.result h.told)
let_line rules acts.Await None word steps after h = absurd (let e = h.0 in cc e)
let_line rules acts.Await (Some s) word steps after h = record { state = s; action_is = refl; before_is = refl }
let_line rules (acts.Look at) None word steps after h = absurd (let e = h.0 in cc e)
let_line rules (acts.Look at) (Some s) word steps after h = absurd (let_look (index_of s.asked.keys at) s.asked.number at steps h.0)
let_line rules (acts.Acquire txn ts at) before word steps after h = absurd (let e = h.0.told in cc e)
let_line rules (acts.Update txn ts at) before word steps after h = absurd (let e = h.0.told in cc e)
let_line rules (acts.Finish txn at) before word steps after h = absurd (let e = h.0.told in cc e)
let_line rules acts.Leave None word steps after h = absurd (let e = h.0 in cc e)
let_line rules acts.Leave (Some s) word steps after h = absurd h

asked_at : (action : Action) (before : Option WalkState) (number : Option ℕ) (x : Step) → HasNumber number before → IsCallOf action before x → IsAsked action number x.key x.call
asked_at (acts.Open txn ts accesses longest) before number x n c = absurd c
asked_at acts.Scan before number x n c = absurd c
asked_at acts.Await before number x n c = absurd c
asked_at (acts.Look at) None number x n c = absurd c
asked_at (acts.Look at) (Some s) number x n c = (s.asked.number, n, c.0, c.1)
asked_at (acts.Acquire txn ts at) before number x n c = c
asked_at (acts.Update txn ts at) before number x n c = c
asked_at (acts.Finish txn at) before number x n c = c
asked_at acts.Leave before number x n c = absurd c

-- ---- one line

last_of : {A B : Type 0} (P : B → Type 0) (f : A → B) (xs : List A) (x : A) → AllByRecursion P (map f (xs ++ x ∷ [])) → P (f x)
last_of P f [] x h = h.0
last_of P f (y ∷ xs) x h = last_of P f xs x h.1

module _ (shards : ℕ) (hs : List (Vec Entry)) where
  abbrev done_of : ExecutedLine → Answered
  done_of d = record { command = d.line; answer = d.answer; indices = map (index shards hs) d.steps }

  stands_at : (n : ℕ) (x : Step) (key : List ℕ) (reply : Reply) → IsInFinalHistory shards (finals_of hs) (made_by n x) → x.key ≡ key → x.answer.reply ≡ reply → StandsInHistories (all_entries hs) n (index shards hs x) key x.call reply
  stands_at n x key reply f k r = record {
    entry = f.entry;
    there = step_there shards hs (made_by n x) f;
    pass_is = f.pass_is;
    key_is = f.key_is ∙ k;
    call_is = f.call_is;
    reply_is = f.reply_is ∙ r;
  }

  abbrev AllFinal : ℕ → List Step → Type 0
  AllFinal n xs = AllByRecursion (IsInFinalHistory shards (finals_of hs)) (map (made_by n) xs)

  tell_reply : (rules : Rules) (n : ℕ) (number : Option ℕ) (d : ExecutedLine) (reply : Reply) → d.answer ≡ answers.Replied reply → HasNumber number d.before → IsLineDone rules d.line.action d.before d.word (answers.Replied reply) d.steps d.after → AllFinal n d.steps → LineHasStep (all_entries hs) n number (done_of d) reply
  tell_reply rules n number d reply is has h f =
      let s = reply_step rules d.line.action d.before d.word reply d.steps d.after h in
      let one : AllFinal n (s.step ∷ []) = subst (AllFinal n) s.alone f in
      record {
        at = index shards hs s.step;
        alone = ap (map (index shards hs)) s.alone;
        key = s.step.key;
        call = s.step.call;
        asked = asked_at d.line.action d.before number s.step has s.call;
        stands = stands_at n s.step s.step.key reply one.0 refl s.reply_is;
      }

  tell_waiting : (rules : Rules) (n : ℕ) (number : Option ℕ) (d : ExecutedLine) (key : List ℕ) → HasNumber number d.before → IsLineDone rules d.line.action d.before d.word (answers.WaitingAt key) d.steps d.after → AllFinal n d.steps → LineEndsInVisit (all_entries hs) n number (done_of d) key MustWait
  tell_waiting rules n number d key has h f =
      let l = waiting_line rules d.line.action d.before d.word key d.steps d.after h in
      let scan : IsLineDone rules acts.Scan (Some l.state) d.word (answers.WaitingAt key) d.steps d.after = subst (λ (b : Option WalkState). IsLineDone rules acts.Scan b d.word (answers.WaitingAt key) d.steps d.after) l.before_is (subst (λ (a : Action). IsLineDone rules a d.before d.word (answers.WaitingAt key) d.steps d.after) l.action_is h) in
      let v = waiting_visit rules l.state d.word key d.steps d.after scan in
      let all : AllFinal n (v.prefix ++ v.last ∷ []) = subst (AllFinal n) v.all f in
      record {
        prefix = map (index shards hs) v.prefix;
        at = index shards hs v.last;
        all = ap (map (index shards hs)) v.all ∙ map-append (index shards hs) v.prefix (v.last ∷ []);
        request = l.state.asked.number;
        number_is = subst (HasNumber number) l.before_is has;
        call = v.last.call;
        visit = v.visit;
        stands = stands_at n v.last key MustWait (last_of (IsInFinalHistory shards (finals_of hs)) (made_by n) v.prefix v.last all) v.key_is v.replied;
      }

  tell_long : (rules : Rules) (n : ℕ) (number : Option ℕ) (d : ExecutedLine) (key : List ℕ) → HasNumber number d.before → IsLineDone rules d.line.action d.before d.word (answers.TooLongAt key) d.steps d.after → AllFinal n d.steps → LineEndsInVisit (all_entries hs) n number (done_of d) key TooLong
  tell_long rules n number d key has h f =
      let l = long_line rules d.line.action d.before d.word key d.steps d.after h in
      let scan : IsLineDone rules acts.Scan (Some l.state) d.word (answers.TooLongAt key) d.steps d.after = subst (λ (b : Option WalkState). IsLineDone rules acts.Scan b d.word (answers.TooLongAt key) d.steps d.after) l.before_is (subst (λ (a : Action). IsLineDone rules a d.before d.word (answers.TooLongAt key) d.steps d.after) l.action_is h) in
      let v = long_visit rules l.state d.word key d.steps d.after scan in
      let all : AllFinal n (v.prefix ++ v.last ∷ []) = subst (AllFinal n) v.all f in
      record {
        prefix = map (index shards hs) v.prefix;
        at = index shards hs v.last;
        all = ap (map (index shards hs)) v.all ∙ map-append (index shards hs) v.prefix (v.last ∷ []);
        request = l.state.asked.number;
        number_is = subst (HasNumber number) l.before_is has;
        call = v.last.call;
        visit = v.visit;
        stands = stands_at n v.last key TooLong (last_of (IsInFinalHistory shards (finals_of hs)) (made_by n) v.prefix v.last all) v.key_is v.replied;
      }

  tell_let : (rules : Rules) (n : ℕ) (number : Option ℕ) (d : ExecutedLine) → HasNumber number d.before → IsLineDone rules d.line.action d.before d.word answers.Let d.steps d.after → AllByRecursion (IsLetThere (finals_of hs) n) (lets_of d.line.action d.before d.word) → WasLet (all_entries hs) n number
  tell_let rules n number d has h lets =
      let l = let_line rules d.line.action d.before d.word d.steps d.after h in
      let await : IsLineDone rules acts.Await (Some l.state) d.word answers.Let d.steps d.after = subst (λ (b : Option WalkState). IsLineDone rules acts.Await b d.word answers.Let d.steps d.after) l.before_is (subst (λ (a : Action). IsLineDone rules a d.before d.word answers.Let d.steps d.after) l.action_is h) in
      let own : AllByRecursion (IsLetThere (finals_of hs) n) (lets_of acts.Await (Some l.state) d.word) = subst (λ (b : Option WalkState). AllByRecursion (IsLetThere (finals_of hs) n) (lets_of acts.Await b d.word)) l.before_is (subst (λ (a : Action). AllByRecursion (IsLetThere (finals_of hs) n) (lets_of a d.before d.word)) l.action_is lets) in
      let one : AllByRecursion (IsLetThere (finals_of hs) n) (current_wait l.state ∷ []) = subst (AllByRecursion (IsLetThere (finals_of hs) n)) (let_ticket rules l.state d.word d.steps d.after await) own in
      let there = one.0 in
      record {
        at = before hs there.shard + there.index;
        entry = there.entry;
        there = joined_at hs there.shard there.index there.entry there.stands;
        wait = current_wait l.state;
        number_is = subst (HasNumber number) l.before_is has;
        lets = there.lets;
      }

  -- The answer as a variable, so that the proof can distinguish its cases.
  tell : (rules : Rules) (n : ℕ) (number : Option ℕ) (d : ExecutedLine) (a : LineAnswer) → d.answer ≡ a → HasNumber number d.before → IsLineDone rules d.line.action d.before d.word a d.steps d.after → AllFinal n d.steps → AllByRecursion (IsLetThere (finals_of hs) n) (lets_of_executed d) → AnswerTells (all_entries hs) n number (done_of d) a
  tell rules n number d (answers.Replied reply) is has h f lets = tell_reply rules n number d reply is has h f
  tell rules n number d (answers.WaitingAt key) is has h f lets = tell_waiting rules n number d key has h f
  tell rules n number d (answers.TooLongAt key) is has h f lets = tell_long rules n number d key has h f
  tell rules n number d answers.Let is has h f lets = tell_let rules n number d has h lets
  tell rules n number d (answers.Request k) is has h f lets = tt
  tell rules n number d answers.Busy is has h f lets = tt
  tell rules n number d answers.Proceed is has h f lets = tt
  tell rules n number d answers.Rescan is has h f lets = tt
  tell rules n number d answers.Waiting is has h f lets = tt
  tell rules n number d answers.Idle is has h f lets = tt
  tell rules n number d answers.Turns is has h f lets = tt
  tell rules n number d answers.Stranger is has h f lets = tt
  tell rules n number d answers.Done is has h f lets = tt
  tell rules n number d answers.NoRequest is has h f lets = tt
  tell rules n number d (answers.Refused r) is has h f lets = tt

  -- ---- the lines of a pass

  split_final : (n : ℕ) (xs ys : List Step) → AllFinal n (xs ++ ys) → AllFinal n xs × AllFinal n ys
  split_final n xs ys f =
      let both : AllByRecursion (IsInFinalHistory shards (finals_of hs)) (map (made_by n) xs ++ map (made_by n) ys) = subst (AllByRecursion (IsInFinalHistory shards (finals_of hs))) (map-append (made_by n) xs ys) f in
      (all_left (IsInFinalHistory shards (finals_of hs)) (map (made_by n) xs) (map (made_by n) ys) both, all_right (IsInFinalHistory shards (finals_of hs)) (map (made_by n) xs) (map (made_by n) ys) both)

  all_tell : (rules : Rules) (n : ℕ) (number : Option ℕ) (was after : Option WalkState) (ds : List ExecutedLine) → Runs rules was ds after → HaveLatest number ds → AllFinal n (flat_map steps_of_executed ds) → AllByRecursion (IsLetThere (finals_of hs) n) (flat_map lets_of_executed ds) → AllTell (all_entries hs) n number (map done_of ds)
  all_tell rules n number was after [] r l f lets = tt
  all_tell rules n number was after (d ∷ ds) r l f lets =
      let parts = split_final n d.steps (flat_map steps_of_executed ds) f in (
        tell rules n number d d.answer refl l.0 (subst (λ (b : Option WalkState). IsLineDone rules d.line.action b d.word d.answer d.steps d.after) (sym r.0) r.1) parts.0 (all_left (IsLetThere (finals_of hs) n) (lets_of_executed d) (flat_map lets_of_executed ds) lets),
        all_tell rules n (latest_number number d.answer) d.after after ds r.2 l.1 parts.1 (all_right (IsLetThere (finals_of hs) n) (lets_of_executed d) (flat_map lets_of_executed ds) lets),
      )

  commands_are : (ds : List ExecutedLine) → map command_of (map done_of ds) ≡ map line_of_executed ds
  commands_are [] = refl
  commands_are (d ∷ ds) = ap (λ (l : List Command). d.line ∷ l) (commands_are ds)

  lines_are : (ds : List ExecutedLine) → map answered_line (map done_of ds) ≡ map answer_line ds
  lines_are [] = refl
  lines_are (d ∷ ds) = ap (λ (l : List AnswerLine). answer_line d ∷ l) (lines_are ds)

  indices_are : (ds : List ExecutedLine) → indices_of (map done_of ds) ≡ map (index shards hs) (flat_map steps_of_executed ds)
  indices_are [] = refl
  indices_are (d ∷ ds) = ap (λ (l : List ℕ). map (index shards hs) d.steps ++ l) (indices_are ds) ∙ sym (map-append (index shards hs) d.steps (flat_map steps_of_executed ds))

  numbers_are : (ds : List ExecutedLine) → numbers_in (map done_of ds) ≡ run_numbers ds
  numbers_are [] = refl
  numbers_are (d ∷ ds) = ap (λ (l : List ℕ). numbers_of d.answer ++ l) (numbers_are ds)

  no_turns_in : (ds : List ExecutedLine) → worked.NoTurns ds → NoAnswerIsTurns (map done_of ds)
  no_turns_in [] h = tt
  no_turns_in (d ∷ ds) h = (h.0, no_turns_in ds h.1)

  turns_last : (ds : List ExecutedLine) → EndsInTurns ds → LastIsTurns (map done_of ds)
  turns_last ds h = (map done_of h.prefix, done_of h.last, ap (map done_of) h.all ∙ map-append done_of h.prefix (h.last ∷ []), ap is_turns h.turns)

  -- ---- all passes

  abbrev all_done : List (List ExecutedLine) → List (List Answered)
  all_done dss = map (map done_of) dss

  all_indices : (n : ℕ) (dss : List (List ExecutedLine)) → flat_map indices_of (all_done dss) ≡ map (made_index shards hs) (made_from n dss)
  all_indices n [] = refl
  all_indices n (ds ∷ dss) =
      ap (λ (l : List ℕ). indices_of (map done_of ds) ++ l) (all_indices (n + 1) dss)
      ∙ (ap (λ (l : List ℕ). l ++ map (made_index shards hs) (made_from (n + 1) dss)) (indices_are ds ∙ sym (made_indices shards hs n (flat_map steps_of_executed ds)))
      ∙ sym (map-append (made_index shards hs) (map (made_by n) (flat_map steps_of_executed ds)) (made_from (n + 1) dss)))

  all_numbers : (dss : List (List ExecutedLine)) → flat_map numbers_in (all_done dss) ≡ flat_map run_numbers dss
  all_numbers [] = refl
  all_numbers (ds ∷ dss) = ap (λ (l : List ℕ). numbers_in (map done_of ds) ++ l) (all_numbers dss) ∙ ap (λ (l : List ℕ). l ++ flat_map run_numbers dss) (numbers_are ds)

  each_rises : (n : ℕ) (dss : List (List ExecutedLine)) → AllByRecursion (IsInFinalHistory shards (finals_of hs)) (made_from n dss) → Apart shards (made_from n dss) → AllByRecursion (λ as'. IndicesRise (all_entries hs) (indices_of as')) (all_done dss)
  each_rises n [] f a = tt
  each_rises n (ds ∷ dss) f a =
      let own : IndicesRise (all_entries hs) (map (index shards hs) (flat_map steps_of_executed ds)) = all_rise shards hs n (flat_map steps_of_executed ds) (all_left (IsInFinalHistory shards (finals_of hs)) (map (made_by n) (flat_map steps_of_executed ds)) (made_from (n + 1) dss) f) (apart_left shards (map (made_by n) (flat_map steps_of_executed ds)) (made_from (n + 1) dss) a) in (
        subst (IndicesRise (all_entries hs)) (sym (indices_are ds)) own,
        each_rises (n + 1) dss (all_right (IsInFinalHistory shards (finals_of hs)) (map (made_by n) (flat_map steps_of_executed ds)) (made_from (n + 1) dss) f) (apart_right shards (map (made_by n) (flat_map steps_of_executed ds)) (made_from (n + 1) dss) a),
      )

  each_tells : (rules : Rules) (gate : GateAnswers) (cs : List Command) (n : ℕ) (dss : List (List ExecutedLine)) (gs : List (Vec AnswerLine)) (fs : List Finish) → AreAnswered rules gate cs n dss gs fs → AllByRecursion (IsInFinalHistory shards (finals_of hs)) (made_from n dss) → TicketsAreLet (finals_of hs) n dss → EachTells (all_entries hs) n (all_done dss)
  each_tells rules gate cs n [] [] [] h f lets = tt
  each_tells rules gate cs n [] [] (x ∷ fs) h f lets = absurd h
  each_tells rules gate cs n [] (g ∷ gs) fs h f lets = absurd h
  each_tells rules gate cs n (ds ∷ dss) [] fs h f lets = absurd h
  each_tells rules gate cs n (ds ∷ dss) (g ∷ gs) [] h f lets = absurd h
  each_tells rules gate cs n (ds ∷ dss) (g ∷ gs) (x ∷ fs) h f lets = (
    all_tell rules n None None h.0.after ds h.0.runs (numbers_latest rules ds h.0.after h.0.runs) (all_left (IsInFinalHistory shards (finals_of hs)) (map (made_by n) (flat_map steps_of_executed ds)) (made_from (n + 1) dss) f) lets.0,
    each_tells rules gate cs (n + 1) dss gs fs h.1 (all_right (IsInFinalHistory shards (finals_of hs)) (map (made_by n) (flat_map steps_of_executed ds)) (made_from (n + 1) dss) f) lets.1,
  )

  -- Each pass ended in this way.
  abbrev AllDone : List Finish → Type 0
  AllDone fs = AllByRecursion (λ f. f ≡ Done) fs

  all_ended : (fs : List Finish) → finish_all fs ≡ Done → AllDone fs
  all_ended [] e = tt
  all_ended (Done ∷ fs) e = (refl, all_ended fs e)
  all_ended (TurnsOut ∷ fs) e = absurd (cc e)

  whole_prefix : (gate : GateAnswers) (ds : List ExecutedLine) (rest : List Command) (f : Finish) → HasEnded gate ds rest f → f ≡ Done → (rest ≡ []) × worked.NoTurns ds
  whole_prefix gate ds rest Done h e = h
  whole_prefix gate ds rest TurnsOut h e = absurd (cc e)

  prefix_ended : (gate : GateAnswers) (ds : List ExecutedLine) (rest : List Command) (f : Finish) → HasEnded gate ds rest f → (rest ≡ []) ⊎ (LastIsTurns (map done_of ds) ⊎ MayRefuseNext gate rest)
  prefix_ended gate ds rest Done h = inl h.0
  prefix_ended gate ds rest TurnsOut (inl h) = inr (inl (turns_last ds h))
  prefix_ended gate ds rest TurnsOut (inr h) = inr (inr h.0)

  may_run : (gate : GateAnswers) (ds : List ExecutedLine) → AllByRecursion (λ d. MayRun gate d.line) ds → AllByRecursion (λ a. MayRun gate a.command) (map done_of ds)
  may_run gate [] h = tt
  may_run gate (d ∷ ds) h = (h.0, may_run gate ds h.1)

  prefixes : (rules : Rules) (gate : GateAnswers) (cs : List Command) (finish : Finish) (n : ℕ) (dss : List (List ExecutedLine)) (gs : List (Vec AnswerLine)) (fs : List Finish) → AreAnswered rules gate cs n dss gs fs → (finish ≡ Done → AllDone fs) → AreAnswerPrefixes gate finish cs n gs (all_done dss)
  prefixes rules gate cs finish n [] [] [] h d = tt
  prefixes rules gate cs finish n [] [] (x ∷ fs) h d = absurd h
  prefixes rules gate cs finish n [] (g ∷ gs) fs h d = absurd h
  prefixes rules gate cs finish n (ds ∷ dss) [] fs h d = absurd h
  prefixes rules gate cs finish n (ds ∷ dss) (g ∷ gs) [] h d = absurd h
  prefixes rules gate cs finish n (ds ∷ dss) (g ∷ gs) (x ∷ fs) h d = (
    record {
      rest = h.0.rest;
      all = h.0.all ∙ ap (λ (l : List Command). l ++ h.0.rest) (sym (commands_are ds));
      given_are = h.0.answers_are ∙ sym (lines_are ds);
      may_run = may_run gate ds h.0.may_run;
      ended = prefix_ended gate ds h.0.rest x h.0.ended;
      whole = λ e. (whole_prefix gate ds h.0.rest x h.0.ended (d e).0).0;
    },
    prefixes rules gate cs finish (n + 1) dss gs fs h.1 (λ e. (d e).1),
  )

  without_turns : (rules : Rules) (gate : GateAnswers) (cs : List Command) (n : ℕ) (dss : List (List ExecutedLine)) (gs : List (Vec AnswerLine)) (fs : List Finish) → AreAnswered rules gate cs n dss gs fs → AllDone fs → AllByRecursion NoAnswerIsTurns (all_done dss)
  without_turns rules gate cs n [] [] [] h d = tt
  without_turns rules gate cs n [] [] (x ∷ fs) h d = absurd h
  without_turns rules gate cs n [] (g ∷ gs) fs h d = absurd h
  without_turns rules gate cs n (ds ∷ dss) [] fs h d = absurd h
  without_turns rules gate cs n (ds ∷ dss) (g ∷ gs) [] h d = absurd h
  without_turns rules gate cs n (ds ∷ dss) (g ∷ gs) (x ∷ fs) h d = (no_turns_in ds (whole_prefix gate ds h.0.rest x h.0.ended d.0).1, without_turns rules gate cs (n + 1) dss gs fs h.1 d.1)

  stopped_at : (gate : GateAnswers) (lines : List Command) (ds : List ExecutedLine) (rest : List Command) → lines ≡ map line_of_executed ds ++ rest → LastIsTurns (map done_of ds) ⊎ MayRefuseNext gate rest → IsStopped gate lines (map done_of ds)
  stopped_at gate lines ds rest all why = record { rest = rest; all = all ∙ ap (λ (l : List Command). l ++ rest) (sym (commands_are ds)); why = why }

  one_stopped : (gate : GateAnswers) (cs : List Command) (n : ℕ) (ds : List ExecutedLine) (dss : List (List ExecutedLine)) (rest : List Command) (f others : Finish) → pass_lines n cs ≡ map line_of_executed ds ++ rest → HasEnded gate ds rest f → join f others ≡ TurnsOut → (others ≡ TurnsOut → SomeStopped gate cs (n + 1) (all_done dss)) → SomeStopped gate cs n (all_done (ds ∷ dss))
  one_stopped gate cs n ds dss rest Done others all h e later = inr (later e)
  one_stopped gate cs n ds dss rest TurnsOut others all (inl h) e later = inl (stopped_at gate (pass_lines n cs) ds rest all (inl (turns_last ds h)))
  one_stopped gate cs n ds dss rest TurnsOut others all (inr h) e later = inl (stopped_at gate (pass_lines n cs) ds rest all (inr h.0))

  some_stopped : (rules : Rules) (gate : GateAnswers) (cs : List Command) (n : ℕ) (dss : List (List ExecutedLine)) (gs : List (Vec AnswerLine)) (fs : List Finish) → AreAnswered rules gate cs n dss gs fs → finish_all fs ≡ TurnsOut → SomeStopped gate cs n (all_done dss)
  some_stopped rules gate cs n [] [] [] h e = absurd (cc e)
  some_stopped rules gate cs n [] [] (x ∷ fs) h e = absurd h
  some_stopped rules gate cs n [] (g ∷ gs) fs h e = absurd h
  some_stopped rules gate cs n (ds ∷ dss) [] fs h e = absurd h
  some_stopped rules gate cs n (ds ∷ dss) (g ∷ gs) [] h e = absurd h
  some_stopped rules gate cs n (ds ∷ dss) (g ∷ gs) (x ∷ fs) h e = one_stopped gate cs n ds dss h.0.rest x (finish_all fs) h.0.all h.0.ended e (some_stopped rules gate cs (n + 1) dss gs fs h.1)

-- ---- a gate that refuses no line

only_turns : (gate : GateAnswers) (done : List Answered) (rest : List Command) → NeverRefuses gate → LastIsTurns done ⊎ MayRefuseNext gate rest → LastIsTurns done
only_turns gate done rest sure (inl h) = h
only_turns gate done [] sure (inr h) = absurd h
only_turns gate done (c ∷ rest) sure (inr h) = absurd (sure c h)

stopped_turns : (gate : GateAnswers) (cs : List Command) (n : ℕ) (done : List (List Answered)) → NeverRefuses gate → SomeStopped gate cs n done → SomeTurns done
stopped_turns gate cs n [] sure h = h
stopped_turns gate cs n (as' ∷ done) sure (inl h) = inl (only_turns gate as' h.rest sure h.why)
stopped_turns gate cs n (as' ∷ done) sure (inr h) = inr (stopped_turns gate cs (n + 1) done sure h)

-- ---- the law

tells_ran : (options : Options) (gate : GateAnswers) (commands : List Command) (text : List ℕ) (finish : Finish) (o : IsOutput options gate commands text finish) → TellsAll gate commands o.ran.answers.items (all_entries o.ran.histories.items) finish
tells_ran options gate commands text finish o =
    let r = o.is_ran in
    let shards : ℕ = options.shards in
    let hs : List (Vec Entry) = o.ran.histories.items in
    let all : flat_map indices_of (all_done shards hs r.lines_done) ≡ map (made_index shards hs) (made_from 1 r.lines_done) = all_indices shards hs 1 r.lines_done in
    let ended : finish ≡ finish_all r.finishes = o.finish_is ∙ r.finish in
    let stopped : finish ≡ TurnsOut → SomeStopped gate commands 1 (all_done shards hs r.lines_done) = λ e. some_stopped shards hs (rules_of_options options) gate commands 1 r.lines_done o.ran.answers.items r.finishes r.answered (sym ended ∙ e) in
    let many : length (made_from 1 r.lines_done) ≡ length (all_entries hs) = all_counted shards 1 hs r.lines_done r.many r.stand.stand r.all in
    record {
      done = all_done shards hs r.lines_done;
      among = subst (λ (n : ℕ). AllByRecursion (IsAmong n) commands) (sym (many_map (map (done_of shards hs)) r.lines_done)) r.among;
      prefixes = prefixes shards hs (rules_of_options options) gate commands finish 1 r.lines_done o.ran.answers.items r.finishes r.answered (λ e. all_ended shards hs r.finishes (sym ended ∙ e));
      each = each_tells shards hs (rules_of_options options) gate commands 1 r.lines_done o.ran.answers.items r.finishes r.answered r.stand.stand r.stand.lets;
      within = subst (AllByRecursion (λ n. n < length (all_entries hs))) (sym all) (all_within shards hs (made_from 1 r.lines_done) r.stand.stand);
      once = subst NumbersDiffer (sym all) (all_differ shards hs (made_from 1 r.lines_done) r.stand.stand r.stand.apart);
      many = ap length all ∙ (many_map (made_index shards hs) (made_from 1 r.lines_done) ∙ many);
      rise = each_rises shards hs 1 r.lines_done r.stand.stand r.stand.apart;
      numbers = subst NumbersDiffer (sym (all_numbers shards hs r.lines_done)) r.stand.distinct;
      no_turns = λ e. without_turns shards hs (rules_of_options options) gate commands 1 r.lines_done o.ran.answers.items r.finishes r.answered (all_ended shards hs r.finishes (sym ended ∙ e));
      stopped = stopped;
      turns = λ sure e. stopped_turns gate commands 1 (all_done shards hs r.lines_done) sure (stopped e);
    }
  where
    many_map : {A B : Type 0} (f : A → B) (xs : List A) → length (map f xs) ≡ length xs
    many_map f [] = refl
    many_map f (x ∷ xs) = ap (λ n. suc n) (many_map f xs)

pub tells_all : OutputTells
tells_all options gate commands text finish o = subst (λ (es : List Entry). TellsAll gate commands o.ran.answers.items es finish) (sym o.entries_are) (tells_ran options gate commands text finish o)
