-- What each call adds to what its caller was told.
use Rattle.std.proofs.Common.{◌≡◌, ◌≢◌, ℕ, Bool, true, false, nat_lt, List, [], ◌∷◌, ◌++◌, map, length, Option, Some, None, Result, Ok, Err, refl, sym, ◌∙◌, ap, subst, append-nil}
use Rattle.std.proofs.lemmas.List.{map-append}
use Rattle.lt_ids.specs.Ids.{Wait}
use Rattle.lt_rules.specs.declared.call.Call.{Call}
use Rattle.lt_words.specs.Row.{PassState, SeesMore, MakesNoStep, fresh}
use Rattle.lt_words.specs.History.{LetIn}
use Rattle.lt_shard.specs.declared.answer.Answer.{Answer}
use Rattle.lt_walk.specs.declared.walk_progress.Mode.{Mode}
use Rattle.lt_walk.specs.declared.walk_progress.Mode.TheVariants.{Free, Awaiting, Let, Stopped, Leaving}
use Rattle.lt_walk.specs.declared.walk_progress.Progress.{Progress}
use Rattle.lt_walk.specs.declared.scan_results.Scan.{Scan}
use Rattle.lt_walk.specs.declared.scan_results.ScanError.{ScanError}
use Rattle.lt_walk.specs.declared.scan_results.Poll.{Poll}
use Rattle.lt_walk.specs.Machine.{Step, WalkState, answer_of, after_status, mode_after_status, scan_start, scan_end, next_visit, restarted, is_awaiting, is_stopped, of_step, Ends, IsScanBegun, leave_answers_in}
use Rattle.lt_walk.specs.Reported.{GuardState, AreReported, ReportsCall, IsScan, IsPoll, AllLeft, SeesLet, current_wait}
use Rattle.lt_walk.specs.Theorem.{Told, Heard, HearingGoesOn, steps_told}
use Rattle.lt_walk.specs.Theorem.Told.{Made, WasLet}
use Rattle.lt_walk.proofs.WentOn.{end_in}
use Rattle.lt_theorem_callers.specs.Heard.{lets_told, WasTold, IsStaying}

-- ---- lists of what was told

steps_told-append : (a b : List Told) → steps_told (a ++ b) ≡ steps_told a ++ steps_told b
steps_told-append [] b = refl
steps_told-append (Made x ∷ a) b = ap (λ xs. x ∷ xs) (steps_told-append a b)
steps_told-append (WasLet t ∷ a) b = steps_told-append a b

lets_told-append : (a b : List Told) → lets_told (a ++ b) ≡ lets_told a ++ lets_told b
lets_told-append [] b = refl
lets_told-append (Made x ∷ a) b = lets_told-append a b
lets_told-append (WasLet t ∷ a) b = ap (λ ts. t ∷ ts) (lets_told-append a b)

made_steps : (xs : List Step) → steps_told (map Made xs) ≡ xs
made_steps [] = refl
made_steps (x ∷ xs) = ap (λ ys. x ∷ ys) (made_steps xs)

made_lets : (xs : List Step) → lets_told (map Made xs) ≡ []
made_lets [] = refl
made_lets (x ∷ xs) = made_lets xs

-- ---- one call

same_pass : (p q : PassState) (steps : List Step) → AreReported p steps q → (q.of ≡ p.of) × (q.number ≡ p.number)
same_pass p q [] r = (ap (λ x. x.of) r, ap (λ x. x.number) r)
same_pass p q (x ∷ xs) r =
    let rest = same_pass r.0 q xs r.2 in
    (rest.0 ∙ r.1.reports.of, rest.1 ∙ r.1.reports.number)

heard_as : (p q : PassState) (told : List Told) → q.of ≡ p.of → q.number ≡ p.number → Heard (fresh p.of p.number) told q → Heard (fresh q.of q.number) told q
heard_as p q told of number h = subst (λ o. Heard (fresh o q.number) told q) (sym of) (subst (λ n. Heard (fresh p.of n) told q) (sym number) h)

pub told_steps : HearingGoesOn → (p q : PassState) (answers : List Answer) (lets : List ℕ) (steps : List Step) → AreReported p steps q → WasTold p answers lets → WasTold q (answers ++ map answer_of steps) lets
told_steps law p q answers lets steps reported w =
    let same = same_pass p q steps reported in
    let h : Heard (fresh p.of p.number) (w.told ++ map Made steps) q = (law (fresh p.of p.number) p q w.told w.heard).1 steps reported in
    let all : steps_told (w.told ++ map Made steps) ≡ steps_told w.told ++ steps = steps_told-append w.told (map Made steps) ∙ ap (λ ys. steps_told w.told ++ ys) (made_steps steps) in
    let none : lets_told (w.told ++ map Made steps) ≡ lets_told w.told = lets_told-append w.told (map Made steps) ∙ ap (λ ts. lets_told w.told ++ ts) (made_lets steps) ∙ append-nil (lets_told w.told) in
    record {
      told = w.told ++ map Made steps;
      heard = heard_as p q (w.told ++ map Made steps) same.0 same.1 h;
      answers_are = ap (λ xs. xs ++ map answer_of steps) w.answers_are ∙ sym (ap (map answer_of) all ∙ map-append answer_of (steps_told w.told) steps);
      lets_are = w.lets_are ∙ sym (ap (map (λ t. t.number)) none);
    }

pub told_call : HearingGoesOn → (p q : PassState) (answers : List Answer) (lets : List ℕ) (key : List ℕ) (call : Call) (answer : Answer) → ReportsCall p q key call answer → WasTold p answers lets → WasTold q (answers ++ answer ∷ []) lets
told_call law p q answers lets key call answer reports w = told_steps law p q answers lets (record { key = key; call = call; answer = answer } ∷ []) (q, reports, refl) w

-- what a pass only saw is no step of its
no_step : (p q : PassState) → SeesMore p q → MakesNoStep p q
no_step p q m = record { of = m.of; number = m.number; counts = m.counts; seen = m.seen; shown = m.shown; takes = m.takes }

pub told_without : HearingGoesOn → (p q : PassState) (answers : List Answer) (lets : List ℕ) → MakesNoStep p q → WasTold p answers lets → WasTold q answers lets
told_without law p q answers lets none w = record {
  told = w.told;
  heard = heard_as p q w.told none.of none.number ((law (fresh p.of p.number) p q w.told w.heard).0 none);
  answers_are = w.answers_are;
  lets_are = w.lets_are;
}

pub told_more : HearingGoesOn → (p q : PassState) (answers : List Answer) (lets : List ℕ) → SeesMore p q → WasTold p answers lets → WasTold q answers lets
told_more law p q answers lets more w = told_without law p q answers lets (no_step p q more) w

told_let : HearingGoesOn → (p q : PassState) (answers : List Answer) (lets : List ℕ) (t : Wait) → SeesMore p q → LetIn q.seen q.number t → WasTold p answers lets → WasTold q answers (lets ++ t.number ∷ [])
told_let law p q answers lets t more through w =
    let all : steps_told (w.told ++ WasLet t ∷ []) ≡ steps_told w.told = steps_told-append w.told (WasLet t ∷ []) ∙ append-nil (steps_told w.told) in
    record {
      told = w.told ++ WasLet t ∷ [];
      heard = heard_as p q (w.told ++ WasLet t ∷ []) more.of more.number ((law (fresh p.of p.number) p q w.told w.heard).2 t (no_step p q more) through);
      answers_are = w.answers_are ∙ sym (ap (map answer_of) all);
      lets_are = ap (λ ns. ns ++ t.number ∷ []) w.lets_are ∙ sym (ap (map (λ u. u.number)) (lets_told-append w.told (WasLet t ∷ [])) ∙ map-append (λ u. u.number) (lets_told w.told) (t ∷ []));
    }

-- ---- scans

begun_answers : (start : Result Progress ScanError) (max_waits : ℕ) (old : WalkState) (steps : List Step) (x : Scan) (after : WalkState) → IsScanBegun start max_waits old steps (Ok x) after → after.answers ≡ map answer_of steps
begun_answers (Err e) max_waits old steps x after s = absurd (let never : Ok x ≡ Err e = s.1 in cc)
begun_answers (Ok p) max_waits old steps x after s = s.answers

pub told_scan : HearingGoesOn → (max_waits : ℕ) (old new : GuardState) (x : Scan) (answers : List Answer) (lets : List ℕ) → IsScan max_waits old new (Ok x) → WasTold old.pass answers lets → WasTold new.pass (answers ++ new.walk.answers) lets
told_scan law max_waits old new x answers lets s w =
    let are : new.walk.answers ≡ map answer_of s.steps = begun_answers (scan_start (after_status old.walk.asked.number old.walk.progress s.word)) max_waits old.walk s.steps x new.walk s.scan in
    rw are (told_steps law s.read new.pass answers lets s.steps s.reported (told_more law old.pass s.read answers lets s.reads w))

-- the mode of a progress at which a scan ended that was not refused
end_stays_in : (waits stops inside : Bool) (p q : Progress) (x : Scan) → is_awaiting p.mode ≡ waits → q.mode ≡ Free → Ok x ≡ (end_in waits stops inside p q).result → (end_in waits stops inside p q).after.mode ≢ Leaving
end_stays_in true stops inside p q x is free e = λ leaving. absurd (let no : is_awaiting Leaving ≡ true = subst (λ m. is_awaiting m ≡ true) leaving is in cc)
end_stays_in false true inside p q x is free e = λ leaving. absurd (let no : Leaving ≡ Free = sym leaving ∙ free in cc)
end_stays_in false false true p q x is free e = absurd cc
end_stays_in false false false p q x is free e = λ leaving. absurd (let no : Leaving ≡ Free = sym leaving ∙ free in cc)

ends_staying : (next : Option (List ℕ × Call)) (keys : ℕ) (p after : Progress) (x : Scan) → Ends next (scan_end keys p) p (Ok x) after → after.mode ≢ Leaving
ends_staying None keys p after x e = subst (λ a. a.mode ≢ Leaving) (sym e.1) (end_stays_in (is_awaiting p.mode) (is_stopped p.mode) (nat_lt p.index keys) p (restarted p) x refl refl e.0)
ends_staying (Some v) keys p after x e = absurd (let never : Ok x ≡ Err (of_step e.0.0) = e.0.1 in cc)

begun_stays : (start : Result Progress ScanError) (max_waits : ℕ) (old : WalkState) (steps : List Step) (x : Scan) (after : WalkState) → IsScanBegun start max_waits old steps (Ok x) after → after.progress.mode ≢ Leaving
begun_stays (Err e) max_waits old steps x after s = absurd (let never : Ok x ≡ Err e = s.1 in cc)
begun_stays (Ok p) max_waits old steps x after s = ends_staying (next_visit old.asked max_waits s.last) (length old.asked.keys) s.last after.progress x s.ends

-- a request that was scanned is not leaving
pub scan_stays : (max_waits : ℕ) (old new : GuardState) (x : Scan) → IsScan max_waits old new (Ok x) → IsStaying new
scan_stays max_waits old new x s = begun_stays (scan_start (after_status old.walk.asked.number old.walk.progress s.word)) max_waits old.walk s.steps x new.walk s.scan

-- ---- polls

status_stays : (m : Mode) (b : Bool) → m ≢ Leaving → mode_after_status m b ≢ Leaving
status_stays Free b h = h
status_stays Awaiting true h = λ e. absurd cc
status_stays Awaiting false h = h
status_stays Let b h = h
status_stays Stopped b h = h
status_stays Leaving b h = h

pub poll_stays : (old new : GuardState) (result : Poll) → IsPoll old new result → IsStaying old → IsStaying new
poll_stays old new result poll h = subst (λ w. w.progress.mode ≢ Leaving) (sym poll.walk) (status_stays old.walk.progress.mode _ h)

-- ---- leaves

leave_anew : (m : Mode) (answers : List Answer) → m ≢ Leaving → leave_answers_in m answers ≡ []
leave_anew Free answers h = refl
leave_anew Awaiting answers h = refl
leave_anew Let answers h = refl
leave_anew Stopped answers h = refl
leave_anew Leaving answers h = absurd (h refl)

told_leave : HearingGoesOn → (old : GuardState) (pass : PassState) (left : List Answer) (answers : List Answer) (lets : List ℕ) → IsStaying old → AllLeft old pass left → WasTold old.pass answers lets → WasTold pass (answers ++ left) lets
told_leave law old pass left answers lets staying l w =
    let are : left ≡ map answer_of l.steps = l.left.answered ∙ l.left.run.answers ∙ ap (λ xs. xs ++ map answer_of l.steps) (leave_anew old.walk.progress.mode old.walk.answers staying) in
    rw are (told_steps law old.pass pass answers lets l.steps l.reported w)

-- a wait that answered Through, and whose request's number was noted
pub told_poll : HearingGoesOn → (old new : GuardState) (result : Poll) (answers : List Answer) (lets : List ℕ) (n : ℕ) → IsPoll old new result → SeesLet new.pass new.walk → n ≡ new.walk.asked.number → WasTold old.pass answers lets → WasTold new.pass answers (lets ++ n ∷ [])
told_poll law old new result answers lets n poll through is w = rw is (told_let law old.pass new.pass answers lets (current_wait new.walk) poll.reads through w)

pub told_left : HearingGoesOn → (old guard : GuardState) (pass : PassState) (left answers : List Answer) (lets : List ℕ) → guard ≡ old → IsStaying old → AllLeft guard pass left → WasTold old.pass answers lets → WasTold pass (answers ++ left) lets
told_left law old guard pass left answers lets same staying l w = told_leave law old pass left answers lets staying (subst (λ g. AllLeft g pass left) same l) w
