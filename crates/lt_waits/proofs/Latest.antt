-- The wait that a request is in stays the latest that its caller was told of.
use Rattle.std.proofs.Common.{◌≡◌, ℕ, ◌+◌, ◌≤◌, Bool, true, false, cond, nat_lt, inl, inr, Option, Some, None, Result, List, [], ◌∷◌, ◌++◌, map, length, slice_get, refl, sym, ◌∙◌, ap, subst, arith, append-nil}
use Rattle.std.specs.Option.{option_map}
use Rattle.std.specs.List.{AllByRecursion}
use mathlib.Core.List.{IsPrefix}
use Rattle.lt_ids.specs.Ids.{Wait}
use Rattle.lt_ids.specs.declared.request.Access.{Access}
use Rattle.lt_ids.specs.declared.timestamp.Timestamp.{Timestamp}
use Rattle.lt_rules.specs.declared.call.Call.{Call}
use Rattle.lt_rules.specs.declared.call.Call.TheVariants.{Visit, Leave}
use Rattle.lt_rules.specs.Step.{is_visit}
use Rattle.lt_rules.proofs.Cases.{all_weaker, all_append}
use Rattle.lt_words.specs.declared.event.Event.{Event}
use Rattle.lt_words.specs.declared.event.Event.TheVariants.{Draw}
use Rattle.lt_words.specs.History.{draws_of}
use Rattle.lt_words.specs.Row.{PassState, MakesNoStep}
use Rattle.lt_words.proofs.Histories.{draws_of-append}
use Rattle.lt_walk.specs.declared.walk_progress.Mode.{Mode}
use Rattle.lt_walk.specs.declared.walk_progress.Mode.TheVariants.{Free, Awaiting, Let, Stopped, Leaving}
use Rattle.lt_walk.specs.declared.walk_progress.Progress.{Progress}
use Rattle.lt_walk.specs.declared.scan_results.Scan.{Scan}
use Rattle.lt_walk.specs.declared.scan_results.ScanError.{ScanError}
use Rattle.lt_walk.specs.declared.scan_results.Poll.{Poll}
use Rattle.lt_walk.specs.Machine.{Asked, after_status, scan_start_in, scan_end, restarted, is_awaiting, is_stopped, may_visit, next_visit, visit_call, passed, met, met_as, is_wait, is_long, leaving, leave_start, leave_start_in, WalkState, Step, Visits, Ends, IsScanBegun, IsScanFrom, Leaves, IsLeaveFrom}
use Rattle.lt_walk.specs.Reported.{AreReported, GuardState, IsScan, IsPoll, StoppedLeaving, current_wait}
use Rattle.lt_walk.specs.Theorem.{Told, steps_told}
use Rattle.lt_walk.specs.Theorem.Told.{Made, WasLet}
use Rattle.lt_walk.proofs.Lives.{sees_same}
use Rattle.lt_waits.specs.Waits.{TellsOfWait, IsNoLater, AreNoLater, AreOfDraws, IsInLatestWait, AreNoVisits}
use Rattle.lt_waits.specs.Laws.{LaterBegins, NoWaitIsToldWithoutRequest, EnteredIsInLatestWait, LatestWaitStaysLatest, LeftIsOfDraws}

-- ---- what was told

pub later_begins : LaterBegins
later_begins p = sees_same p

pub told_then : (a b : List Told) → steps_told (a ++ b) ≡ steps_told a ++ steps_told b
told_then [] b = refl
told_then (Made x ∷ a) b = ap (λ l. x ∷ l) (told_then a b)
told_then (WasLet t ∷ a) b = told_then a b

told_made : (steps : List Step) → steps_told (map Made steps) ≡ steps
told_made [] = refl
told_made (x ∷ steps) = ap (λ l. x ∷ l) (told_made steps)

-- what holds of each step that was told, and of each step of a call
all_told : (P : Step → Type 0) (told : List Told) (steps : List Step) → AllByRecursion P (steps_told told) → AllByRecursion P steps → AllByRecursion P (steps_told (told ++ map Made steps))
all_told P told steps a b =
    subst (AllByRecursion P) (sym (told_then told (map Made steps) ∙ ap (λ l. steps_told told ++ l) (told_made steps))) (all_append P (steps_told told) steps a b)

told_let : (P : Step → Type 0) (told : List Told) (t : Wait) → AllByRecursion P (steps_told told) → AllByRecursion P (steps_told (told ++ WasLet t ∷ []))
told_let P told t a = subst (AllByRecursion P) (sym (told_then told (WasLet t ∷ []) ∙ append-nil (steps_told told))) a

-- ---- draws

draws_rise : (g h : List Event) → IsPrefix g h → draws_of g ≤ draws_of h
draws_rise g h begins = omega (arith, ap draws_of begins.1, draws_of-append g begins.0)

reported_seen : (p : PassState) (steps : List Step) (q : PassState) → AreReported p steps q → draws_of p.seen ≤ draws_of q.seen
reported_seen p [] q same = omega (arith, ap (λ (s : PassState). draws_of s.seen) same)
reported_seen p (x ∷ steps) q r = omega (arith, draws_rise p.seen r.0.seen r.1.reports.seen, reported_seen r.0 steps q r.2)

-- ---- steps that tell of no wait

visit_tells : (c : Call) (t : Wait) (txn : Option ℕ) (ts : Timestamp) (access : Access) (longest : ℕ) → is_visit c ≡ false → c ≡ Visit t txn ts access longest → ⊥
visit_tells c t txn ts access longest none is = let never : true ≡ false = ap is_visit (sym is) ∙ none in cc

no_visits_tell : (P : Step → Wait → Type 0) (steps : List Step) → AreNoVisits steps → AllByRecursion (λ x. (t : Wait) → TellsOfWait x t → P x t) steps
no_visits_tell P steps none = all_weaker (λ x. is_visit x.call ≡ false) (λ x. (t : Wait) → TellsOfWait x t → P x t) (λ x no t told. absurd (visit_tells x.call t told.txn told.ts told.access told.longest no told.call)) steps none

-- ---- a pass without a request under way

weaker_draws : (told : List Told) (p q : PassState) → draws_of p.seen ≤ draws_of q.seen → AreOfDraws told p → AreOfDraws told q
weaker_draws told p q more all = all_weaker (λ x. (t : Wait) → TellsOfWait x t → t.number ≤ draws_of p.seen) (λ x. (t : Wait) → TellsOfWait x t → t.number ≤ draws_of q.seen) (λ x low t tells. omega (arith, low t tells, more)) (steps_told told) all

pub no_wait_is_told_without_request : NoWaitIsToldWithoutRequest
no_wait_is_told_without_request told p q all = (
  λ more. weaker_draws told p q (draws_rise p.seen q.seen more.seen) all,
  λ steps reported none.
      all_told (λ x. (t : Wait) → TellsOfWait x t → t.number ≤ draws_of q.seen) told steps (weaker_draws told p q (reported_seen p steps q reported) all) (no_visits_tell (λ x t. t.number ≤ draws_of q.seen) steps none),
  λ t. told_let (λ x. (u : Wait) → TellsOfWait x u → u.number ≤ draws_of p.seen) told t all,
)

-- ---- a request that enters

pub entered_is_in_latest_wait : EnteredIsInLatestWait
entered_is_in_latest_wait told old given txn ts longest max_requests guard all entered =
    let h : List Event = entered.drawn.0 in
    let next : draws_of h + 1 ≡ guard.walk.asked.number = entered.drawn.2 in
    let grew : draws_of old.seen ≤ draws_of h = draws_rise old.seen h entered.drawn.1 in
    let whole : draws_of guard.pass.seen ≡ draws_of h + 1 = ap draws_of entered.drawn.3 ∙ draws_of-append h (Draw old.number guard.walk.asked.number ∷ []) in
    record {
      drawn = omega (arith, next, whole);
      latest = all_weaker (λ x. (t : Wait) → TellsOfWait x t → t.number ≤ draws_of old.seen) (λ x. (t : Wait) → TellsOfWait x t → IsNoLater t (current_wait guard.walk)) (λ x low t tells. inl (omega (arith, low t tells, grew, next))) (steps_told told) all;
    }

-- ---- visits

-- These steps told of no wait later than the one with this number of this request.
abbrev AreUpTo : ℕ → ℕ → List Step → Type 0
AreUpTo number wait steps = AllByRecursion (λ x. (t : Wait) → TellsOfWait x t → (t.number ≡ number) × (t.wait ≤ wait)) steps

up_to_more : (number low high : ℕ) (steps : List Step) → low ≤ high → AreUpTo number low steps → AreUpTo number high steps
up_to_more number low high steps le all =
    all_weaker (λ x. (t : Wait) → TellsOfWait x t → (t.number ≡ number) × (t.wait ≤ low)) (λ x. (t : Wait) → TellsOfWait x t → (t.number ≡ number) × (t.wait ≤ high)) (λ x up t tells. ((up t tells).0, omega (arith, (up t tells).1, le))) steps all

met_waits : (p : Progress) (waits long : Bool) → (p.waits ≤ (met_as p waits long).waits) × (waits ≡ true → (met_as p waits long).waits ≡ p.waits + 1)
met_waits p true long = (omega arith, λ e. refl)
met_waits p false true = (omega arith, λ e. absurd (let never : false ≡ true = e in cc))
met_waits p false false = (omega arith, λ e. absurd (let never : false ≡ true = e in cc))

same_ticket : (t u : Wait) (txn txn' : Option ℕ) (ts ts' : Timestamp) (access access' : Access) (longest longest' : ℕ) → Visit t txn ts access longest ≡ Visit u txn' ts' access' longest' → t ≡ u
same_ticket t u txn txn' ts ts' access access' longest longest' is = cc is

pub same_item : {A : Type 0} (x y : A) → Some x ≡ Some y → x ≡ y
same_item x y is = cc is

-- the call of the visit that comes next, if one does
next_call : (may : Bool) (asked : Asked) (p : Progress) (at : Option (List ℕ × Access)) (key : List ℕ) (call : Call) → cond may (option_map {U = List ℕ × Call} (λ k. (k.0, visit_call asked p k.1)) at) None ≡ Some (key, call) →
    (access : Access) × (call ≡ visit_call asked p access)
next_call false asked p at key call is = absurd cc
next_call true asked p None key call is = absurd cc
next_call true asked p (Some k) key call is = (k.1, sym (ap (λ (z : List ℕ × Call). z.1) (same_item {A = List ℕ × Call} (k.0, visit_call asked p k.1) (key, call) is)))

visit_up_to : (asked : Asked) (max_waits : ℕ) (p : Progress) (x : Step) → next_visit asked max_waits p ≡ Some (x.key, x.call) → (t : Wait) → TellsOfWait x t →
    (t.number ≡ asked.number) × (t.wait ≤ (met p x.answer.reply).waits)
visit_up_to asked max_waits p x next t tells =
    let c = next_call (may_visit (length asked.keys) max_waits p) asked p (slice_get asked.keys p.index) x.key x.call next in
    let same : t ≡ record { number = asked.number; wait = p.waits + 1 } =
    same_ticket t (record { number = asked.number; wait = p.waits + 1 }) tells.txn asked.txn tells.ts asked.ts tells.access c.0 tells.longest asked.longest (sym tells.call ∙ c.1) in
    let waits : is_wait x.answer.reply ≡ true = ap is_wait tells.reply in
    let more : (met p x.answer.reply).waits ≡ p.waits + 1 = (met_waits p (is_wait x.answer.reply) (is_long x.answer.reply)).1 waits in
    (ap (λ (u : Wait). u.number) same, omega (arith, ap (λ (u : Wait). u.wait) same, more))

visits_up_to : (asked : Asked) (max_waits : ℕ) (p : Progress) (steps : List Step) (q : Progress) → Visits asked max_waits p steps q → (p.waits ≤ q.waits) × AreUpTo asked.number q.waits steps
visits_up_to asked max_waits p [] q same = (omega (arith, ap (λ (r : Progress). r.waits) same), tt)
visits_up_to asked max_waits p (x ∷ steps) q v =
    let rest = visits_up_to asked max_waits (met p x.answer.reply) steps q v.1 in
    let here = (met_waits p (is_wait x.answer.reply) (is_long x.answer.reply)).0 in
    (omega (arith, here, rest.0), (λ t tells. let u = visit_up_to asked max_waits p x v.0 t tells in (u.0, omega (arith, u.1, rest.0)), rest.1))

end_waits : (waits stops inside : Bool) (p : Progress) (keys : ℕ) → is_awaiting p.mode ≡ waits → is_stopped p.mode ≡ stops → nat_lt p.index keys ≡ inside → (scan_end keys p).after.waits ≡ p.waits
end_waits true stops inside p keys a b c = rw a refl
end_waits false true inside p keys a b c = rw (a, b) refl
end_waits false false true p keys a b c = rw (a, b, c) refl
end_waits false false false p keys a b c = rw (a, b, c) refl

ends_waits : (next : Option (List ℕ × Call)) (keys : ℕ) (last after : Progress) (result : Result Scan ScanError) → Ends next (scan_end keys last) last result after → after.waits ≡ last.waits
ends_waits None keys last after result e = ap (λ (p : Progress). p.waits) e.1 ∙ end_waits (is_awaiting last.mode) (is_stopped last.mode) (nat_lt last.index keys) last keys refl refl refl
ends_waits (Some x) keys last after result e = ap (λ (p : Progress). p.waits) e.1

from_up_to : (asked : Asked) (max_waits : ℕ) (p : Progress) (steps : List Step) (result : Result Scan ScanError) (after : WalkState) → IsScanFrom asked max_waits p steps result after →
    (after.asked ≡ asked) × (p.waits ≤ after.progress.waits) × AreUpTo asked.number after.progress.waits steps
from_up_to asked max_waits p steps result after s =
    let up = visits_up_to asked max_waits p steps s.last s.visits in
    let same : after.progress.waits ≡ s.last.waits = ends_waits (next_visit asked max_waits s.last) (length asked.keys) s.last after.progress result s.ends in
    (s.stays, omega (arith, up.0, same), up_to_more asked.number s.last.waits after.progress.waits steps (omega (arith, same)) up.1)

scan_up_to : (m : Mode) (p : Progress) (max_waits : ℕ) (old : WalkState) (steps : List Step) (result : Result Scan ScanError) (after : WalkState) → p.waits ≡ old.progress.waits → IsScanBegun (scan_start_in m p) max_waits old steps result after →
    (after.asked ≡ old.asked) × (old.progress.waits ≤ after.progress.waits) × AreUpTo old.asked.number after.progress.waits steps
scan_up_to Leaving p max_waits old steps result after same s = rw (s.0, s.2) (refl, omega arith, tt)
scan_up_to Awaiting p max_waits old steps result after same s = rw (s.0, s.2) (refl, omega arith, tt)
scan_up_to Let p max_waits old steps result after same s =
    let r = from_up_to old.asked max_waits (record p { index = p.index + 1; mode = Free }) steps result after s in (r.0, omega (arith, r.1, same), r.2)
scan_up_to Stopped p max_waits old steps result after same s = let r = from_up_to old.asked max_waits (restarted p) steps result after s in (r.0, omega (arith, r.1, same), r.2)
scan_up_to Free p max_waits old steps result after same s = let r = from_up_to old.asked max_waits p steps result after s in (r.0, omega (arith, r.1, same), r.2)

-- ---- a request under way

no_later_more : (t u v : Wait) → u.number ≡ v.number → u.wait ≤ v.wait → IsNoLater t u → IsNoLater t v
no_later_more t u v same more (inl lt) = inl (omega (arith, lt, same))
no_later_more t u v same more (inr e) = inr (e.0 ∙ same, omega (arith, e.1, more))

latest_more : (told : List Told) (u v : Wait) → u.number ≡ v.number → u.wait ≤ v.wait → AreNoLater u (steps_told told) → AreNoLater v (steps_told told)
latest_more told u v same more all =
    all_weaker (λ x. (t : Wait) → TellsOfWait x t → IsNoLater t u) (λ x. (t : Wait) → TellsOfWait x t → IsNoLater t v) (λ x low t tells. no_later_more t u v same more (low t tells)) (steps_told told) all

goes_on : (told : List Told) (old new : GuardState) (steps : List Step) → IsInLatestWait told old → new.walk.asked.number ≡ old.walk.asked.number → old.walk.progress.waits ≤ new.walk.progress.waits →
    draws_of old.pass.seen ≤ draws_of new.pass.seen → AreNoLater (current_wait new.walk) steps → IsInLatestWait (told ++ map Made steps) new
goes_on told old new steps was same more seen later = record {
  drawn = omega (arith, was.drawn, same, seen);
  latest = all_told (λ x. (t : Wait) → TellsOfWait x t → IsNoLater t (current_wait new.walk)) told steps (latest_more told (current_wait old.walk) (current_wait new.walk) (sym same) more was.latest) later;
}

scan_goes_on : (told : List Told) (old new : GuardState) → IsInLatestWait told old → (max_waits : ℕ) (result : Result Scan ScanError) (scan : IsScan max_waits old new result) → IsInLatestWait (told ++ map Made scan.steps) new
scan_goes_on told old new was max_waits result scan =
    let up = scan_up_to (after_status old.walk.asked.number old.walk.progress scan.word).mode (after_status old.walk.asked.number old.walk.progress scan.word) max_waits old.walk scan.steps result new.walk refl scan.scan in
    let same : new.walk.asked.number ≡ old.walk.asked.number = ap (λ (a : Asked). a.number) up.0 in
    goes_on told old new scan.steps was same up.1
    (omega (arith, draws_rise old.pass.seen scan.read.seen scan.reads.seen, reported_seen scan.read scan.steps new.pass scan.reported))
    (all_weaker (λ x. (t : Wait) → TellsOfWait x t → (t.number ≡ old.walk.asked.number) × (t.wait ≤ new.walk.progress.waits)) (λ x. (t : Wait) → TellsOfWait x t → IsNoLater t (current_wait new.walk)) (λ x low t tells. inr ((low t tells).0 ∙ sym same, (low t tells).1)) scan.steps up.2)

poll_goes_on : (told : List Told) (old new : GuardState) → IsInLatestWait told old → (result : Poll) → IsPoll old new result → IsInLatestWait told new
poll_goes_on told old new was result poll = record {
  drawn = omega (arith, was.drawn, ap (λ (w : WalkState). w.asked.number) poll.walk, draws_rise old.pass.seen new.pass.seen poll.reads.seen);
  latest = latest_more told (current_wait old.walk) (current_wait new.walk) (ap (λ (w : WalkState). w.asked.number) (sym poll.walk)) (omega (arith, ap (λ (w : WalkState). w.progress.waits) poll.walk)) was.latest;
}

-- ---- leaves

leave_start_waits : (m : Mode) (p : Progress) → (leave_start_in m p).waits ≡ p.waits
leave_start_waits Leaving p = refl
leave_start_waits Free p = refl
leave_start_waits Awaiting p = refl
leave_start_waits Let p = refl
leave_start_waits Stopped p = refl

next_leave_call : (asked : Asked) (at : Option (List ℕ × Access)) (key : List ℕ) (call : Call) → option_map {U = List ℕ × Call} (λ k. (k.0, Leave asked.number)) at ≡ Some (key, call) → is_visit call ≡ false
next_leave_call asked None key call is = absurd cc
next_leave_call asked (Some k) key call is = ap (λ (z : List ℕ × Call). is_visit z.1) (sym (same_item {A = List ℕ × Call} (k.0, Leave asked.number) (key, call) is))

leaves_visit_nothing : (asked : Asked) (p : Progress) (steps : List Step) (q : Progress) → Leaves asked p steps q → (q.waits ≡ p.waits) × AreNoVisits steps
leaves_visit_nothing asked p [] q same = (ap (λ (r : Progress). r.waits) same, tt)
leaves_visit_nothing asked p (x ∷ steps) q l =
    let rest = leaves_visit_nothing asked (passed p) steps q l.1 in
    (rest.0, (next_leave_call asked (slice_get asked.keys p.index) x.key x.call l.0, rest.1))

leave_keeps : (old new : WalkState) (steps : List Step) → IsLeaveFrom (leaving old) steps new → (new.asked ≡ old.asked) × (new.progress.waits ≡ old.progress.waits) × AreNoVisits steps
leave_keeps old new steps run =
    let kept = leaves_visit_nothing old.asked (leave_start old.progress) steps new.progress run.leaves in
    (run.stays, kept.0 ∙ leave_start_waits old.progress.mode old.progress, kept.1)

stopped_goes_on : (told : List Told) (old new : GuardState) → IsInLatestWait told old → (stopped : StoppedLeaving old new) → IsInLatestWait (told ++ map Made stopped.steps) new
stopped_goes_on told old new was stopped =
    let kept = leave_keeps old.walk new.walk stopped.steps stopped.stopped.run in
    goes_on told old new stopped.steps was (ap (λ (a : Asked). a.number) kept.0) (omega (arith, kept.1)) (reported_seen old.pass stopped.steps new.pass stopped.reported)
    (no_visits_tell (λ x t. IsNoLater t (current_wait new.walk)) stopped.steps kept.2)

steps_go_on : (told : List Told) (old new : GuardState) → IsInLatestWait told old → (steps : List Step) → AreReported old.pass steps new.pass → AreNoVisits steps → new.walk ≡ old.walk → IsInLatestWait (told ++ map Made steps) new
steps_go_on told old new was steps reported none same =
    goes_on told old new steps was (ap (λ (w : WalkState). w.asked.number) same) (omega (arith, ap (λ (w : WalkState). w.progress.waits) same)) (reported_seen old.pass steps new.pass reported)
    (no_visits_tell (λ x t. IsNoLater t (current_wait new.walk)) steps none)

sight_goes_on : (told : List Told) (old new : GuardState) → IsInLatestWait told old → MakesNoStep old.pass new.pass → new.walk ≡ old.walk → IsInLatestWait told new
sight_goes_on told old new was more same = record {
  drawn = omega (arith, was.drawn, ap (λ (w : WalkState). w.asked.number) same, draws_rise old.pass.seen new.pass.seen more.seen);
  latest = latest_more told (current_wait old.walk) (current_wait new.walk) (ap (λ (w : WalkState). w.asked.number) (sym same)) (omega (arith, ap (λ (w : WalkState). w.progress.waits) same)) was.latest;
}

pub latest_wait_stays_latest : LatestWaitStaysLatest
latest_wait_stays_latest told old new was = (
  λ max_waits result scan. scan_goes_on told old new was max_waits result scan,
  λ result poll. poll_goes_on told old new was result poll,
  λ steps reported none same. steps_go_on told old new was steps reported none same,
  λ more same. sight_goes_on told old new was more same,
  λ stopped. stopped_goes_on told old new was stopped,
  λ t. record { drawn = was.drawn; latest = told_let (λ x. (u : Wait) → TellsOfWait x u → IsNoLater u (current_wait old.walk)) told t was.latest },
)

-- a wait no later than that of a request has a number no greater than the request's
low_number : (t u : Wait) (n : ℕ) → u.number ≤ n → IsNoLater t u → t.number ≤ n
low_number t u n le (inl lt) = omega (arith, lt, le)
low_number t u n le (inr e) = omega (arith, e.0, le)

pub left_is_of_draws : LeftIsOfDraws
left_is_of_draws told old pass answers was left =
    let kept = leave_keeps old.walk left.left.last left.steps left.left.run in
    let seen : draws_of old.pass.seen ≤ draws_of pass.seen = reported_seen old.pass left.steps pass left.reported in
    all_told (λ x. (t : Wait) → TellsOfWait x t → t.number ≤ draws_of pass.seen) told left.steps
    (all_weaker (λ x. (t : Wait) → TellsOfWait x t → IsNoLater t (current_wait old.walk)) (λ x. (t : Wait) → TellsOfWait x t → t.number ≤ draws_of pass.seen) (λ x low t tells. low_number t (current_wait old.walk) (draws_of pass.seen) (omega (arith, was.drawn, seen)) (low t tells)) (steps_told told) was.latest)
    (no_visits_tell (λ x t. t.number ≤ draws_of pass.seen) left.steps kept.2)
