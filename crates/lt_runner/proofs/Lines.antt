-- The lines of a pass, one after the other.
use Rattle.std.proofs.lemmas.Bool.Decides.{nat_tests}
use Rattle.std.proofs.Common.{◌≡◌, ◌≢◌, arith, ℕ, ◌+◌, ◌<◌, ◌≤◌, ◌==◌, Bool, true, false, cond, List, [], ◌∷◌, ◌++◌, length, take, get_or, Option, Some, None, refl, sym, ap, subst, ◌∙◌, inl, inr, append_assoc, append-nil}
use Rattle.std.specs.Prelude.{MatchBool}
use Rattle.std.specs.List.{flat_map, AllByRecursion}
use mathlib.Core.List.{IsPrefix}
use Rattle.std.proofs.lemmas.List.{map-append, take_more}
use Rattle.std.proofs.lemmas.List.Elements.{filter-append}
use Rattle.std.proofs.lemmas.Grind.{flat_map-append}
use Rattle.lt_ids.specs.Ids.{Wait}
use Rattle.lt_words.specs.declared.event.Event.{Event}
use Rattle.lt_words.specs.History.{draws_of}
use Rattle.lt_words.specs.Row.{Opening, PassState, FrontState}
use Rattle.lt_script.specs.declared.command.Command.{Command}
use Rattle.lt_walk.specs.Machine.{WalkState, Step}
use Rattle.lt_runner.specs.declared.session.Session.{Session}
use Rattle.lt_runner.specs.declared.session.Session.TheVariants.{Free}
use Rattle.lt_runner.specs.declared.answer.LineAnswer.{LineAnswer}
use Rattle.lt_runner.specs.declared.answer.LineAnswer.TheVariants as answers
use Rattle.lt_runner.specs.declared.answer.AnswerLine.{AnswerLine}
use Rattle.lt_runner.specs.declared.outcome.Finish.{Finish}
use Rattle.lt_runner.specs.declared.outcome.Finish.TheVariants.{Done, TurnsOut}
use Rattle.lt_runner.specs.declared.outcome.Work.{Work}
use Rattle.lt_runner.specs.Outcomes.{OutcomeTells, StandsIn, IsSeen, LetsAreShown, Hears, ComesAfter, Ascend}
use Rattle.lt_runner.specs.Sessions.{session_request, session_pass}
use Rattle.lt_runner.specs.Machine.{Rules, ExecutedLine, Runs, IsLineDone, IsOutOnlyAt, reads_of, numbers_of_executed, lets_of_executed}
use Rattle.lt_runner.specs.Gates.{GateAnswers, MayRun, MayRefuseNext}
use Rattle.lt_runner.specs.Worked.{is_turns, answer_line, line_of_executed, steps_of_executed, finish_of, pass_lines, AreDone, NoTurns, HasEnded, IsRun, IsWorked, IsBegun, ExecutesLine, TakesOn, WorkGoesOn}
use Rattle.lt_runner.specs.Turns.{IsExecuted, Learns, reads_word, somes}
use Rattle.lt_runner.proofs.Telling.{tells_none, tells_then, tells_learnt, stands_seen, draws_later, prefix_self, all_more, all_weaker}

pub flat_snoc : {A B : Type 0} (f : A → List B) (xs : List A) (x : A) → flat_map f (xs ++ x ∷ []) ≡ flat_map f xs ++ f x
flat_snoc f xs x = flat_map-append f xs (x ∷ []) ∙ ap (λ ys. flat_map f xs ++ ys) (append-nil (f x))

runs_more : (rules : Rules) (before after : Option WalkState) (ds : List ExecutedLine) (d : ExecutedLine) → Runs rules before ds after → d.before ≡ after → IsLineDone rules d.line.action after d.word d.answer d.steps d.after → Runs rules before (ds ++ d ∷ []) d.after
runs_more rules before after [] d r e h = (e ∙ r, subst (λ (o : Option WalkState). IsLineDone rules d.line.action o d.word d.answer d.steps d.after) r h, refl)
runs_more rules before after (x ∷ ds) d r e h = (r.0, r.1, runs_more rules x.after after ds d r.2 e h)

abbrev pub line_done_of : Command → Session → ℕ → LineAnswer → List Step → Session → ExecutedLine
line_done_of line old word answer steps new = record { line = line; before = session_request old; word = word; answer = answer; steps = steps; after = session_request new }

-- The answer that the numbers are out remains right when more was seen.
pub out_later : (max : ℕ) (h g : List Event) (lines_done : List ExecutedLine) → IsPrefix h g → AllByRecursion (λ d. IsOutOnlyAt max (draws_of h) d.answer) lines_done → AllByRecursion (λ d. IsOutOnlyAt max (draws_of g) d.answer) lines_done
out_later max h g lines_done p = all_weaker (λ d. IsOutOnlyAt max (draws_of h) d.answer) (λ d. IsOutOnlyAt max (draws_of g) d.answer) lines_done
    (λ d o. λ e.
    let was : max ≤ draws_of h = o e in
    let more : draws_of h ≤ draws_of g = draws_later h g p in
    omega arith)

done_more : (rules : Rules) (old : PassState) (lines : List Command) (session : Session) (answers : List AnswerLine) (lines_done : List ExecutedLine) (line : Command) (new : Session) (more : List AnswerLine) (out : Bool)
    → AreDone rules old lines session answers lines_done → (t : ExecutesLine rules line session answers new more out) → AreDone rules old (lines ++ line ∷ []) new more (lines_done ++ line_done_of line session t.does.word t.answer t.does.steps new ∷ [])
done_more rules old lines session answers lines_done line new more out a t =
    let d : ExecutedLine = line_done_of line session t.does.word t.answer t.does.steps new in
    let all : OutcomeTells old (session_pass new) (flat_map steps_of_executed lines_done ++ d.steps) (flat_map numbers_of_executed lines_done ++ numbers_of_executed d) (flat_map lets_of_executed lines_done ++ lets_of_executed d) =
    tells_then old (session_pass session) (session_pass new) (flat_map steps_of_executed lines_done) d.steps (flat_map numbers_of_executed lines_done) (numbers_of_executed d) (flat_map lets_of_executed lines_done) (lets_of_executed d) a.tells t.does.tells in
    record {
      lines_are = map-append line_of_executed lines_done (d ∷ []) ∙ ap (λ (ls : List Command). ls ++ line ∷ []) a.lines_are;
      runs = runs_more rules None (session_request session) lines_done d a.runs refl t.does.done;
      answers_are = t.told ∙ (ap (λ (ls : List AnswerLine). ls ++ answer_line d ∷ []) a.answers_are ∙ sym (map-append answer_line lines_done (d ∷ [])));
      tells = subst (λ (x : List Wait). OutcomeTells old (session_pass new) (flat_map steps_of_executed (lines_done ++ d ∷ [])) (flat_map numbers_of_executed (lines_done ++ d ∷ [])) x) (sym (flat_snoc lets_of_executed lines_done d))
          (subst (λ (x : List ℕ). OutcomeTells old (session_pass new) (flat_map steps_of_executed (lines_done ++ d ∷ [])) x (flat_map lets_of_executed lines_done ++ lets_of_executed d)) (sym (flat_snoc numbers_of_executed lines_done d))
          (subst (λ (x : List Step). OutcomeTells old (session_pass new) x (flat_map numbers_of_executed lines_done ++ numbers_of_executed d) (flat_map lets_of_executed lines_done ++ lets_of_executed d)) (sym (flat_snoc steps_of_executed lines_done d)) all));
      numbers_out = all_more (λ x. IsOutOnlyAt rules.max_requests (draws_of (session_pass new).seen) x.answer) lines_done d
          (out_later rules.max_requests (session_pass session).seen (session_pass new).seen lines_done t.does.tells.seen a.numbers_out) t.numbers_out;
    }

-- The pass learned more after its lines.
done_learnt : (rules : Rules) (old : PassState) (lines : List Command) (session new : Session) (answers : List AnswerLine) (lines_done : List ExecutedLine) (seen : FrontState)
    → AreDone rules old lines session answers lines_done → Learns seen session new → AreDone rules old lines new answers lines_done
done_learnt rules old lines session new answers lines_done seen a l = record {
  lines_are = a.lines_are;
  runs = subst (λ (r : Option WalkState). Runs rules None lines_done r) (sym l.request) a.runs;
  answers_are = a.answers_are;
  tells = tells_learnt old (session_pass session) (session_pass new) (flat_map steps_of_executed lines_done) (flat_map numbers_of_executed lines_done) (flat_map lets_of_executed lines_done) a.tells l.more;
  numbers_out = out_later rules.max_requests (session_pass session).seen (session_pass new).seen lines_done l.more.seen a.numbers_out;
}

pub run_learnt : (rules : Rules) (gate : GateAnswers) (old : PassState) (ls : List Command) (lines_done : List ExecutedLine) (w : Work) (session : Session) (seen : FrontState)
    → IsRun rules gate old ls lines_done w → Learns seen w.session session → IsRun rules gate old ls lines_done (record w { session = session })
run_learnt rules gate old ls lines_done w session seen r l = record {
  prefix = r.prefix;
  rest = r.rest;
  all = r.all;
  done = done_learnt rules old r.prefix w.session session w.answers.items lines_done seen r.done l;
  may_run = r.may_run;
  ended = r.ended;
}

turns_are : (a : LineAnswer) → is_turns a ≡ true → a ≡ answers.Turns
turns_are (answers.Request n) e = cc
turns_are answers.Busy e = cc
turns_are answers.Proceed e = cc
turns_are answers.Rescan e = cc
turns_are (answers.WaitingAt k) e = cc
turns_are (answers.TooLongAt k) e = cc
turns_are answers.Let e = cc
turns_are answers.Waiting e = cc
turns_are answers.Idle e = cc
turns_are answers.Turns e = refl
turns_are (answers.Replied r) e = cc
turns_are answers.Stranger e = cc
turns_are answers.Done e = cc
turns_are answers.NoRequest e = cc
turns_are (answers.Refused r) e = cc

out_ends : (gate : GateAnswers) (out : Bool) (ds : List ExecutedLine) (d : ExecutedLine) → NoTurns ds → out ≡ is_turns d.answer → HasEnded gate (ds ++ d ∷ []) [] (finish_of out)
out_ends gate true ds d none e = inl (record { prefix = ds; last = d; all = refl; none = none; turns = turns_are d.answer (sym e) })
out_ends gate false ds d none e = (refl, all_more (λ (x : ExecutedLine). is_turns x.answer ≡ false) ds d none (sym e))

refuses_on : (gate : GateAnswers) (rest more : List Command) → MayRefuseNext gate rest → MayRefuseNext gate (rest ++ more)
refuses_on gate [] more h = absurd h
refuses_on gate (c ∷ rest) more h = h

ended_on : (gate : GateAnswers) (ds : List ExecutedLine) (rest more : List Command) (f : Finish) → f ≡ TurnsOut → HasEnded gate ds rest f → HasEnded gate ds (rest ++ more) f
ended_on gate ds rest more TurnsOut e (inl h) = inl h
ended_on gate ds rest more TurnsOut e (inr h) = inr (refuses_on gate rest more h.0, h.1)
ended_on gate ds rest more Done e h = cc

-- What a line did, as executed lines and as steps.
abbrev pub turn_steps : Option ExecutedLine → List Step
turn_steps None = []
turn_steps (Some d) = d.steps

-- If a line was executed and reads the status word, it hears the lets that were shown before it.
abbrev pub TurnHears : PassState → PassState → Option ExecutedLine → Type 0
TurnHears old new None = Unit {0}
TurnHears old new (Some d) = reads_word d → Hears old new d.steps d.word

if_true : (b : Bool) (P : Type 0) → MatchBool b P (Unit {0}) → b ≡ true → P
if_true true P p e = p
if_true false P p e = absurd (cc e)

-- The next line of a pass with these executed lines did this, or nothing. Its steps come after what the pass had
-- seen, and have been seen afterwards.
pub record IsTurned (rules : Rules) (gate : GateAnswers) (old : PassState) (ls : List Command) (line : Command) (lines_done : List ExecutedLine) (w new : Work) : Type 0 where
  pub turn : Option ExecutedLine
  pub line_is : IsExecuted line turn
  pub run : IsRun rules gate old (ls ++ line ∷ []) (lines_done ++ somes (turn ∷ [])) new
  pub of : (session_pass new.session).of ≡ (session_pass w.session).of
  pub seen : IsPrefix (session_pass w.session).seen (session_pass new.session).seen
  pub after : AllByRecursion (ComesAfter old.of.shards (session_pass w.session).seen) (turn_steps turn)
  pub within : AllByRecursion (IsSeen old.of.shards (session_pass new.session).seen) (turn_steps turn)
  pub ascend : Ascend old.of.shards (turn_steps turn)
  pub shown : IsPrefix (session_pass w.session).shown (session_pass new.session).shown
  pub told : AllByRecursion (LetsAreShown old.of.shards (session_pass new.session).seen (session_pass new.session).shown) (turn_steps turn)
  pub heard : TurnHears (session_pass w.session) (session_pass new.session) turn

-- The line was not executed: it is left with the rest.
left_over : (rules : Rules) (gate : GateAnswers) (old : PassState) (ls : List Command) (line : Command) (lines_done : List ExecutedLine) (w : Work) → w.finish ≡ TurnsOut → IsRun rules gate old ls lines_done w → IsTurned rules gate old ls line lines_done w w
left_over rules gate old ls line lines_done w f r =
    let run : IsRun rules gate old (ls ++ line ∷ []) lines_done w = record {
      prefix = r.prefix;
      rest = r.rest ++ line ∷ [];
      all = ap (λ (l : List Command). l ++ line ∷ []) r.all ∙ append_assoc r.prefix r.rest (line ∷ []);
      done = r.done;
      may_run = r.may_run;
      ended = ended_on gate lines_done r.rest (line ∷ []) w.finish f r.ended;
    } in
    record {
      turn = None;
      line_is = tt;
      run = subst (λ (ds : List ExecutedLine). IsRun rules gate old (ls ++ line ∷ []) ds w) (sym (append-nil lines_done)) run;
      of = refl;
      seen = prefix_self (session_pass w.session).seen;
      after = tt;
      within = tt;
      ascend = tt;
      shown = prefix_self (session_pass w.session).shown;
      told = tt;
      heard = tt;
    }

-- What a pass that has not ended has done.
record IsAlive (rules : Rules) (gate : GateAnswers) (old : PassState) (ls : List Command) (lines_done : List ExecutedLine) (w : Work) : Type 0 where
  done : AreDone rules old ls w.session w.answers.items lines_done
  may_run : AllByRecursion (λ d. MayRun gate d.line) lines_done
  none : NoTurns lines_done

alive : (rules : Rules) (gate : GateAnswers) (old : PassState) (ls : List Command) (lines_done : List ExecutedLine) (w : Work) → w.finish ≡ Done → IsRun rules gate old ls lines_done w → IsAlive rules gate old ls lines_done w
alive rules gate old ls lines_done w f r =
    let e : HasEnded gate lines_done r.rest Done = subst (λ (x : Finish). HasEnded gate lines_done r.rest x) f r.ended in
    let all : ls ≡ r.prefix = r.all ∙ (ap (λ (l : List Command). r.prefix ++ l) e.0 ∙ append-nil r.prefix) in
    record { done = subst (λ (l : List Command). AreDone rules old l w.session w.answers.items lines_done) (sym all) r.done; may_run = r.may_run; none = e.1 }

taken : (rules : Rules) (gate : GateAnswers) (old : PassState) (ls : List Command) (line : Command) (lines_done : List ExecutedLine) (w new : Work) → IsAlive rules gate old ls lines_done w → TakesOn rules gate w.session w.answers.items line new → IsTurned rules gate old ls line lines_done w new
taken rules gate old ls line lines_done w new a (inl s) =
    let session : AreDone rules old ls new.session w.answers.items lines_done = subst (λ (d : Session). AreDone rules old ls d w.answers.items lines_done) (sym s.session_same) a.done in
    let run : IsRun rules gate old (ls ++ line ∷ []) lines_done new = record {
      prefix = ls;
      rest = line ∷ [];
      all = refl;
      done = subst (λ (x : List AnswerLine). AreDone rules old ls new.session x lines_done) (sym s.answers_same) session;
      may_run = a.may_run;
      ended = subst (λ (f : Finish). HasEnded gate lines_done (line ∷ []) f) (sym s.finish_is) (inr (s.refused, a.none));
    } in
    record {
      turn = None;
      line_is = tt;
      run = subst (λ (ds : List ExecutedLine). IsRun rules gate old (ls ++ line ∷ []) ds new) (sym (append-nil lines_done)) run;
      of = ap (λ (d : Session). (session_pass d).of) s.session_same;
      seen = subst (λ (d : Session). IsPrefix (session_pass w.session).seen (session_pass d).seen) (sym s.session_same) (prefix_self (session_pass w.session).seen);
      after = tt;
      within = tt;
      ascend = tt;
      shown = subst (λ (d : Session). IsPrefix (session_pass w.session).shown (session_pass d).shown) (sym s.session_same) (prefix_self (session_pass w.session).shown);
      told = tt;
      heard = tt;
    }
taken rules gate old ls line lines_done w new a (inr s) =
    let t : ExecutesLine rules line w.session w.answers.items new.session new.answers.items s.out = s.takes in
    let d : ExecutedLine = line_done_of line w.session t.does.word t.answer t.does.steps new.session in
    let tells = t.does.tells in
    let same : (session_pass w.session).of.shards ≡ old.of.shards = ap (λ (o : Opening). o.shards) a.done.tells.of in
    let p : ℕ = (session_pass w.session).number in
    let run : IsRun rules gate old (ls ++ line ∷ []) (lines_done ++ d ∷ []) new = record {
      prefix = ls ++ line ∷ [];
      rest = [];
      all = sym (append-nil (ls ++ line ∷ []));
      done = done_more rules old ls w.session w.answers.items lines_done line new.session new.answers.items s.out a.done t;
      may_run = all_more (λ x. MayRun gate x.line) lines_done d a.may_run s.may_run;
      ended = subst (λ (f : Finish). HasEnded gate (lines_done ++ d ∷ []) [] f) (sym s.finish_is) (out_ends gate s.out lines_done d a.none t.out_is);
    } in
    record {
      turn = Some d;
      line_is = refl;
      run = run;
      of = tells.of;
      seen = tells.seen;
      after = subst (λ (n : ℕ). AllByRecursion (ComesAfter n (session_pass w.session).seen) d.steps) same tells.after;
      within = subst (λ (n : ℕ). AllByRecursion (IsSeen n (session_pass new.session).seen) d.steps) same
          (all_weaker (StandsIn (session_pass w.session).of.shards p (session_pass new.session).seen) (IsSeen (session_pass w.session).of.shards (session_pass new.session).seen) d.steps (stands_seen (session_pass w.session).of.shards p (session_pass new.session).seen) tells.stand);
      ascend = subst (λ (n : ℕ). Ascend n d.steps) same tells.ascend;
      shown = tells.shown;
      told = subst (λ (n : ℕ). AllByRecursion (LetsAreShown n (session_pass new.session).seen (session_pass new.session).shown) d.steps) same tells.lets_shown;
      heard = if_true (reads_of line.action (session_request w.session)) (Hears (session_pass w.session) (session_pass new.session) d.steps d.word) t.does.heard;
    }

-- The pass executed its next line, or had ended.
pub turned : (rules : Rules) (gate : GateAnswers) (old : PassState) (ls : List Command) (line : Command) (lines_done : List ExecutedLine) (f : Finish) (w new : Work) → w.finish ≡ f → IsRun rules gate old ls lines_done w → WorkGoesOn rules gate f w line new → IsTurned rules gate old ls line lines_done w new
turned rules gate old ls line lines_done TurnsOut w new f r g = subst (λ (x : Work). IsTurned rules gate old ls line lines_done w x) (sym g) (left_over rules gate old ls line lines_done w f r)
turned rules gate old ls line lines_done Done w new f r g = taken rules gate old ls line lines_done w new (alive rules gate old ls lines_done w f r) g

goes_on : (rules : Rules) (gate : GateAnswers) (old : PassState) (ls : List Command) (line : Command) (w new : Work) → IsWorked rules gate old ls w → WorkGoesOn rules gate w.finish w line new → IsWorked rules gate old (ls ++ line ∷ []) new
goes_on rules gate old ls line w new h g = let t : IsTurned rules gate old ls line h.0 w new = turned rules gate old ls line h.0 w.finish w new refl h.1 g in (h.0 ++ somes (t.turn ∷ []), t.run)

-- Before the first line.
pub run_none : (rules : Rules) (gate : GateAnswers) (p : PassState) (w : Work) → IsBegun p w → IsRun rules gate p [] [] w
run_none rules gate p w b =
    let none : AreDone rules p [] (Free p) [] [] = record { lines_are = refl; runs = refl; answers_are = refl; tells = tells_none p; numbers_out = tt } in
    let session : AreDone rules p [] w.session [] [] = subst (λ (x : Session). AreDone rules p [] x [] []) (sym b.session) none in
    record {
      prefix = [];
      rest = [];
      all = refl;
      done = subst (λ (x : List AnswerLine). AreDone rules p [] w.session x []) (sym b.answers) session;
      may_run = tt;
      ended = subst (λ (x : Finish). HasEnded gate [] [] x) (sym b.finish) (refl, tt);
    }

pub worked_none : (rules : Rules) (gate : GateAnswers) (p : PassState) (w : Work) → IsBegun p w → IsWorked rules gate p [] w
worked_none rules gate p w b = ([], run_none rules gate p w b)

-- ---- among the lines of others

pub one_in : {A : Type 0} (b : Bool) (c : A) → b ≡ true → cond b (c ∷ []) [] ≡ c ∷ []
one_in true c e = refl
one_in false c e = cc

pub none_in : {A : Type 0} (b : Bool) (c : A) → b ≡ false → cond b (c ∷ []) [] ≡ []
none_in true c e = cc
none_in false c e = refl

pub mine : (n : ℕ) (cs : List Command) (c : Command) → (c.pass == n) ≡ true → pass_lines n (cs ++ c ∷ []) ≡ pass_lines n cs ++ c ∷ []
mine n cs c e = filter-append (λ (x : Command). x.pass == n) cs (c ∷ []) ∙ ap (λ (l : List Command). pass_lines n cs ++ l) (one_in (c.pass == n) c e)

pub other : (n : ℕ) (cs : List Command) (c : Command) → (c.pass == n) ≡ false → pass_lines n (cs ++ c ∷ []) ≡ pass_lines n cs
other n cs c e = filter-append (λ (x : Command). x.pass == n) cs (c ∷ []) ∙ (ap (λ (l : List Command). pass_lines n cs ++ l) (none_in (c.pass == n) c e) ∙ append-nil (pass_lines n cs))

pub prefix_more : (cs : List Command) (i : ℕ) (c : Command) → i < length cs → c ≡ get_or cs i c → take (i + 1) cs ≡ take i cs ++ c ∷ []
prefix_more cs i c lt is = take_more cs i c lt ∙ ap (λ (x : Command). take i cs ++ x ∷ []) (sym is)

-- A worker executed the next line of its pass.
pub worked_mine : (rules : Rules) (gate : GateAnswers) (old : PassState) (cs : List Command) (i : ℕ) (c : Command) (w new : Work) → i < length cs → c ≡ get_or cs i c → (c.pass == old.number) ≡ true
    → IsWorked rules gate old (pass_lines old.number (take i cs)) w → WorkGoesOn rules gate w.finish w c new → IsWorked rules gate old (pass_lines old.number (take (i + 1) cs)) new
worked_mine rules gate old cs i c w new lt is hit h g =
    subst (λ (ls : List Command). IsWorked rules gate old ls new) (sym (ap (pass_lines old.number) (prefix_more cs i c lt is) ∙ mine old.number (take i cs) c hit))
    (goes_on rules gate old (pass_lines old.number (take i cs)) c w new h g)

-- A worker skipped a line of another pass.
pub worked_other : (rules : Rules) (gate : GateAnswers) (old : PassState) (cs : List Command) (i : ℕ) (c : Command) (w : Work) → i < length cs → c ≡ get_or cs i c → (c.pass == old.number) ≡ false
    → IsWorked rules gate old (pass_lines old.number (take i cs)) w → IsWorked rules gate old (pass_lines old.number (take (i + 1) cs)) w
worked_other rules gate old cs i c w lt is miss h =
    subst (λ (ls : List Command). IsWorked rules gate old ls w) (sym (ap (pass_lines old.number) (prefix_more cs i c lt is) ∙ other old.number (take i cs) c miss)) h

pub is_same : (m n : ℕ) → m ≡ n → (m == n) ≡ true
is_same m n e = grind (arith, nat_tests)

pub is_other : (m n : ℕ) → m ≢ n → (m == n) ≡ false
is_other m n e = grind (arith, nat_tests)
