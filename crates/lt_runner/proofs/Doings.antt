-- Lines that call nothing, and lines of one step.
use Rattle.std.proofs.Common.{◌≡◌, ℕ, List, [], ◌∷◌, Option, Some, None, Result, Ok, Err, refl, sym, ap, subst, ◌∙◌}
use Rattle.std.specs.Prelude.{Bool, false, IfOk, MatchBool, OnErr, slice_get}
use Rattle.std.specs.Option.{option_map}
use Rattle.std.proofs.lemmas.Result.{IfOk-weaker, on_err_weaker}
use Rattle.lt_ids.specs.Ids.{Wait}
use Rattle.lt_ids.specs.declared.request.Access.{Access}
use Rattle.lt_ids.specs.declared.timestamp.Timestamp.{Timestamp}
use Rattle.lt_rules.specs.declared.call.Call.{Call}
use Rattle.lt_rules.specs.declared.call.Call.TheVariants as calls
use Rattle.lt_words.specs.Row.{PassState}
use Rattle.lt_shard.specs.declared.answer.Answer.{Answer}
use Rattle.lt_shard.specs.declared.answer.StepError.{StepError}
use Rattle.lt_shard.specs.declared.answer.StepError.TheVariants as steps
use Rattle.lt_walk.specs.declared.walk_progress.Progress.{Progress}
use Rattle.lt_walk.specs.Entered.{at_start}
use Rattle.lt_walk.specs.Machine.{WalkState, Step}
use Rattle.lt_walk.specs.Reported.{GuardState, Reported}
use Rattle.lt_runner.specs.declared.session.Session.{Session}
use Rattle.lt_runner.specs.declared.session.Session.TheVariants.{Free, Open}
use Rattle.lt_runner.specs.declared.outcome.OutOfMemory.{OutOfMemory}
use Rattle.lt_runner.specs.declared.answer.LineAnswer.{LineAnswer}
use Rattle.lt_runner.specs.declared.answer.LineAnswer.TheVariants as answers
use Rattle.lt_runner.specs.declared.answer.Refusal.TheVariants as refusals
use Rattle.lt_runner.specs.Outcomes.{OutcomeTells, Hears}
use Rattle.lt_runner.specs.Sessions.{session_request, session_pass}
use Rattle.lt_runner.specs.Machine.{entered, numbers_of, index_of, IsCallAnswered, IsLooked, IsLookAt}
use Rattle.lt_runner.specs.Execution.{Does, Fact, IsCallAnswer, Lets, Reads, no_lets, no_word}
use Rattle.lt_runner.proofs.Telling.{tells_none, tells_step}

-- The session is unchanged.
pub does_same : (fact : Fact) (reads : Reads) (lets : Lets) (d : Session) (answer : LineAnswer) → fact (session_request d) 0 answer [] (session_request d) → numbers_of answer ≡ [] → lets (session_request d) 0 ≡ [] → reads (session_request d) ≡ false → Does fact reads lets d answer d
does_same fact reads lets d answer h n l w = record {
  word = 0;
  steps = [];
  done = h;
  tells = subst (λ (x : List Wait). OutcomeTells (session_pass d) (session_pass d) [] (numbers_of answer) x) (sym l) (subst (λ (x : List ℕ). OutcomeTells (session_pass d) (session_pass d) [] x []) (sym n) (tells_none (session_pass d)));
  heard = subst (λ (b : Bool). MatchBool b (Hears (session_pass d) (session_pass d) [] 0) (Unit {0})) (sym w) tt;
}

-- A pass without a request is answered `none`.
pub does_none : (fact : Fact) (reads : Reads) (lets : Lets) (old new : Session) (answer : LineAnswer) (p : PassState) → old ≡ Free p → new ≡ Free p → answer ≡ answers.NoRequest → fact None 0 answers.NoRequest [] None → lets None 0 ≡ [] → reads None ≡ false → Does fact reads lets old answer new
does_none fact reads lets old new answer p o n a h l w = rw (o, n, a) (does_same fact reads lets (Free p) answers.NoRequest h refl l w)

-- The same with a request.
pub does_open : (fact : Fact) (reads : Reads) (lets : Lets) (old : Session) (g : GuardState) (answer : LineAnswer) → old ≡ Open g → fact (Some g.walk) 0 answer [] (Some g.walk) → numbers_of answer ≡ [] → lets (Some g.walk) 0 ≡ [] → reads (Some g.walk) ≡ false → Does fact reads lets old answer (Open g)
does_open fact reads lets old g answer o h n l w = rw o (does_same fact reads lets (Open g) answer h n l w)

pub strange : (key : List ℕ) (g : GuardState) → None ≡ index_of g.walk.asked.keys key → Does (IsLooked key) no_word no_lets (Open g) answers.Stranger (Open g)
strange key g none = does_same (IsLooked key) no_word no_lets (Open g) answers.Stranger
    (subst (λ (o : Option ℕ). IsLookAt o g.walk.asked.number key answers.Stranger []) none (refl, refl), refl) refl refl refl

-- ---- one step

-- A call of the pass, its result, and the answer of the line.
pub made : (key : List ℕ) (call : Call) (old new : Session) (answered : Result Answer StepError) (told : Result LineAnswer OutOfMemory) → session_request new ≡ session_request old
    → IfOk answered (λ a. Reported (session_pass old) (session_pass new) (record { key = key; call = call; answer = a })) → OnErr answered (session_pass new ≡ session_pass old) → IsCallAnswer answered told
    → IfOk told (λ t. Does (IsCallAnswered key call) no_word no_lets old t new)
made key call old new (Ok a) (Err e) same ok err told = tt
made key call old new (Ok a) (Ok t) same ok err told =
    let x : Step = record { key = key; call = call; answer = a } in
    let done : Does (IsCallAnswered key call) no_word no_lets old (answers.Replied a.reply) new = record {
      word = 0;
      steps = x ∷ [];
      done = (record { step = x; alone = refl; key_is = refl; call_is = refl; told = refl }, same);
      tells = tells_step (session_pass old) (session_pass new) x ok;
      heard = tt;
    } in
    rw told done
made key call old new (Err steps.HistoryFull) (Err e) same ok err told = tt
made key call old new (Err steps.HistoryFull) (Ok t) same ok err told =
    let none : OutcomeTells (session_pass old) (session_pass new) [] [] [] = subst (λ (p : PassState). OutcomeTells (session_pass old) p [] [] []) (sym err) (tells_none (session_pass old)) in
    let done : Does (IsCallAnswered key call) no_word no_lets old (answers.Refused refusals.HistoryFull) new = record { word = 0; steps = []; done = (refl, same); tells = none; heard = tt } in
    rw told done
made key call old new (Err steps.Memory) (Err e) same ok err told = tt
made key call old new (Err steps.Memory) (Ok t) same ok err told = absurd told

-- A look is a call of the pass at a key that its request names.
pub looked : (key : List ℕ) (old new : GuardState) (index : ℕ) (told : Result LineAnswer OutOfMemory) → Some index ≡ index_of old.walk.asked.keys key
    → IfOk told (λ t. Does (IsCallAnswered key (calls.Look old.walk.asked.number)) no_word no_lets (Open old) t (Open new))
    → IfOk told (λ t. Does (IsLooked key) no_word no_lets (Open old) t (Open new))
looked key old new index (Err e) at told = tt
looked key old new index (Ok t) at told = record {
  word = told.word;
  steps = told.steps;
  done = (subst (λ (o : Option ℕ). IsLookAt o old.walk.asked.number key t told.steps) at told.done.0, told.done.1);
  tells = told.tells;
  heard = tt;
}

-- A call of the request's pass.
pub made_in : (key : List ℕ) (call : Call) (old new : GuardState) (answered : Result Answer StepError) (told : Result LineAnswer OutOfMemory) → new.walk ≡ old.walk
    → IfOk answered (λ a. Reported old.pass new.pass (record { key = key; call = call; answer = a })) → OnErr answered (new ≡ old) → IsCallAnswer answered told
    → IfOk told (λ t. Does (IsCallAnswered key call) no_word no_lets (Open old) t (Open new))
made_in key call old new answered told same ok err is = made key call (Open old) (Open new) answered told (ap (λ (w : WalkState). Some w) same) ok (on_err_weaker answered (λ e. ap (λ (g : GuardState). g.pass) e) err) is

-- A look at an index is a look at the key there.
pub look_at : (keys : List (List ℕ × Access)) (index : ℕ) (key : List ℕ) (old new : PassState) (number : ℕ) (answered : Result Answer StepError) → (a : Access) × (slice_get keys index ≡ Some (key, a))
    → IfOk answered (λ r. (k : List ℕ) × (option_map (λ x. x.0) (slice_get keys index) ≡ Some k) × Reported old new (record { key = k; call = calls.Look number; answer = r }))
    → IfOk answered (λ r. Reported old new (record { key = key; call = calls.Look number; answer = r }))
look_at keys index key old new number answered there ok = IfOk-weaker answered _ _ (λ r h. subst (λ (k : List ℕ). Reported old new (record { key = k; call = calls.Look number; answer = r })) (same h.0 h.1) h.2) ok
  where
    same : (k : List ℕ) → option_map (λ (x : List ℕ × Access). x.0) (slice_get keys index) ≡ Some k → k ≡ key
    same k is = let both : Some k ≡ Some key = sym is ∙ ap (option_map (λ (x : List ℕ × Access). x.0)) there.1 in cc

-- ---- open

pub is_entered : (w : WalkState) (number : ℕ) (txn : Option ℕ) (ts : Timestamp) (longest : ℕ) → number ≡ w.asked.number → w.asked.txn ≡ txn → w.asked.ts ≡ ts → w.asked.longest ≡ longest → w.progress ≡ at_start → w.answers ≡ [] → w ≡ entered w.asked.keys number txn ts longest
is_entered w number txn ts longest n t s l p a =
    ap (λ (x : ℕ). record w { asked = record w.asked { number = x } }) (sym n)
    ∙ (ap (λ (x : Option ℕ). record w { asked = record w.asked { number = number; txn = x } }) t
    ∙ (ap (λ (x : Timestamp). record w { asked = record w.asked { number = number; txn = txn; ts = x } }) s
    ∙ (ap (λ (x : ℕ). record w { asked = record w.asked { number = number; txn = txn; ts = ts; longest = x } }) l
    ∙ (ap (λ (x : Progress). record w { asked = record w.asked { number = number; txn = txn; ts = ts; longest = longest }; progress = x }) p
    ∙ ap (λ (x : List Answer). record w { asked = record w.asked { number = number; txn = txn; ts = ts; longest = longest }; progress = at_start; answers = x }) a))))
