-- A scan that met a queue too long for its request: its last step is the visit that was answered so.
use Rattle.std.proofs.Common.{◌≡◌, ℕ, ◌+◌, ◌<◌, Bool, true, false, nat_lt, List, [], ◌∷◌, ◌++◌, length, Option, Some, None, slice_get, Result, Ok, Err, refl, sym, ◌∙◌, ap, subst}
use Rattle.std.specs.Option.{option_map}
use Rattle.std.specs.List.{AllByRecursion}
use Rattle.lt_ids.specs.declared.request.Access.{Access}
use Rattle.lt_rules.specs.declared.call.Call.{Call}
use Rattle.lt_rules.specs.declared.call.Reply.{Reply}
use Rattle.lt_rules.specs.declared.call.Reply.TheVariants as replies
use Rattle.lt_walk.specs.declared.walk_progress.Mode.{Mode}
use Rattle.lt_walk.specs.declared.walk_progress.Mode.TheVariants.{Free, Awaiting, Let, Stopped, Leaving}
use Rattle.lt_walk.specs.declared.walk_progress.Progress.{Progress}
use Rattle.lt_walk.specs.declared.scan_results.Scan.{Scan}
use Rattle.lt_walk.specs.declared.scan_results.Scan.TheVariants.{TooLong}
use Rattle.lt_walk.specs.declared.scan_results.ScanError.{ScanError}
use Rattle.lt_walk.specs.Machine.{Asked, after_status, scan_start, scan_start_in, scan_end, restarted, passed, met_as, is_wait, is_long, is_awaiting, is_stopped, may_visit, visit_call, next_visit, WalkState, Visits, Ends, IsScanBegun, of_step}
use Rattle.lt_walk.specs.Machine as runs
use Rattle.lt_walk.specs.Reported.{GuardState, IsScan}
use Rattle.lt_walk.specs.Laws.{Stands, IsTooLong}
use Rattle.lt_walk.proofs.Follows.{guarded, pair_same, visits_none}
use Rattle.lt_walk.proofs.InPlace.{all_stand, later_stands, inside_length}
use Rattle.lt_walk.proofs.WentOn.{stops_in}

-- visits whose last one met a queue that is too long, at this index
pub record EndsLong (asked : Asked) (p : Progress) (steps : List runs.Step) (index : ℕ) : Type 0 where
  pub front : List runs.Step
  pub last : runs.Step
  pub access : Access
  pub all : steps ≡ front ++ last ∷ []
  pub at_key : slice_get asked.keys index ≡ Some (last.key, access)
  pub call_is : last.call ≡ visit_call asked p access
  pub reply_is : last.answer.reply ≡ replies.TooLong

pub long_reply : (r : Reply) → is_long r ≡ true → r ≡ replies.TooLong
long_reply replies.TooLong e = refl
long_reply _ e = absurd cc

stopped : (m : Mode) → is_stopped m ≡ true → m ≡ Stopped
stopped Stopped e = refl
stopped Free e = absurd cc
stopped Awaiting e = absurd cc
stopped Let e = absurd cc
stopped Leaving e = absurd cc

-- the item of the key list that the next visit is for
visit_at : (o : Option (List ℕ × Access)) (f : Access → Call) (key : List ℕ) (call : Call) → option_map {U = List ℕ × Call} (λ k. (k.0, f k.1)) o ≡ Some (key, call) → (access : Access) × (o ≡ Some (key, access)) × (call ≡ f access)
visit_at None f key call e = absurd cc
visit_at (Some k) f key call e =
    let both = pair_same k.0 key (f k.1) call e in
    (k.1, ap (λ (j : List ℕ). Some (j, k.1)) both.0, sym both.1)

-- the visit that meets the queue
meets_it : (asked : Asked) (max_waits : ℕ) (p : Progress) (x : runs.Step) → x.answer.reply ≡ replies.TooLong → next_visit asked max_waits p ≡ Some (x.key, x.call) → EndsLong asked p (x ∷ []) p.index
meets_it asked max_waits p x reply next =
    let at = visit_at (slice_get asked.keys p.index) (visit_call asked p) x.key x.call (guarded (may_visit (length asked.keys) max_waits p) _ _ next).1 in
    record { front = []; last = x; access = at.0; all = refl; at_key = at.1; call_is = at.2; reply_is = reply }

-- These visits end at a queue that is too long, with the same count of waits.
record StopsAt (asked : Asked) (p : Progress) (steps : List runs.Step) (q : Progress) : Type 0 where
  visits : EndsLong asked p steps q.index
  waits : q.waits ≡ p.waits

visit_cases : (asked : Asked) (max_waits : ℕ) (p q : Progress) (x : runs.Step) (xs : List runs.Step) (waits long : Bool) →
    ((r : Progress) → r.mode ≡ Free → Visits asked max_waits r xs q → StopsAt asked r xs q) →
    is_wait x.answer.reply ≡ waits → is_long x.answer.reply ≡ long → p.mode ≡ Free → q.mode ≡ Stopped →
    next_visit asked max_waits p ≡ Some (x.key, x.call) → Visits asked max_waits (met_as p waits long) xs q → StopsAt asked p (x ∷ xs) q
visit_cases asked max_waits p q x xs true long rest w l free stops next v =
    let end = visits_none asked max_waits (met_as p true long) xs q refl v in
    absurd (let never : Stopped ≡ Awaiting = sym stops ∙ ap (λ s. s.mode) end.1 in cc)
visit_cases asked max_waits p q x xs false true rest w l free stops next v =
    let end = visits_none asked max_waits (met_as p false true) xs q refl v in
    let here : EndsLong asked p (x ∷ []) p.index = meets_it asked max_waits p x (long_reply x.answer.reply l) next in
    record {
      visits = rw (end.0, ap (λ (s : Progress). s.index) end.1) here;
      waits = ap (λ s. s.waits) end.1;
    }
visit_cases asked max_waits p q x xs false false rest w l free stops next v =
    let r = rest (passed p) free v in
    record {
      visits = record {
        front = x ∷ r.visits.front;
        last = r.visits.last;
        access = r.visits.access;
        all = ap (λ (ys : List runs.Step). x ∷ ys) r.visits.all;
        at_key = r.visits.at_key;
        call_is = r.visits.call_is;
        reply_is = r.visits.reply_is;
      };
      waits = r.waits;
    }

visits_stop : (asked : Asked) (max_waits : ℕ) (q : Progress) → q.mode ≡ Stopped → (xs : List runs.Step) (p : Progress) → p.mode ≡ Free → Visits asked max_waits p xs q → StopsAt asked p xs q
visits_stop asked max_waits q stops [] p free v = absurd (let never : Stopped ≡ Free = sym stops ∙ (ap (λ s. s.mode) v ∙ free) in cc)
visits_stop asked max_waits q stops (x ∷ xs) p free v =
    visit_cases asked max_waits p q x xs (is_wait x.answer.reply) (is_long x.answer.reply) (λ r f w. visits_stop asked max_waits q stops xs r f w) refl refl free stops v.0 v.1

-- how such a scan ends
end_stops : (keys : ℕ) (p after : Progress) (index : ℕ) → Ok (TooLong index) ≡ (scan_end keys p).result → after ≡ (scan_end keys p).after → (p.mode ≡ Stopped) × (index ≡ p.index) × (after ≡ restarted p)
end_stops keys p after index e f =
    let all = stops_in (is_awaiting p.mode) (is_stopped p.mode) (nat_lt p.index keys) p.waited p (restarted p) index refl e in
    (stopped p.mode all.0, all.1, f ∙ all.2)

ends_stopped : (next : Option (List ℕ × Call)) (keys : ℕ) (last after : Progress) (result : Result Scan ScanError) (index : ℕ) → Ends next (scan_end keys last) last result after → result ≡ Ok (TooLong index) →
    (last.mode ≡ Stopped) × (index ≡ last.index) × (after ≡ restarted last)
ends_stopped None keys last after result index e is = end_stops keys last after index (sym is ∙ e.0) e.1
ends_stopped (Some x) keys last after result index e is = absurd (let never : Ok (TooLong index) ≡ Err (of_step e.0.0) = sym is ∙ e.0.1 in cc)

-- a scan begins free, with the same count of waits
begins : (m : Mode) (p q : Progress) → p.mode ≡ m → scan_start_in m p ≡ Ok q → (q.mode ≡ Free) × (q.waits ≡ p.waits)
begins Free p q e s = let same : p ≡ q = cc in (ap (λ x. x.mode) (sym same) ∙ e, ap (λ x. x.waits) (sym same))
begins Let p q e s = let same : record p { index = p.index + 1; mode = Free } ≡ q = cc in (ap (λ x. x.mode) (sym same), ap (λ x. x.waits) (sym same))
begins Stopped p q e s = let same : restarted p ≡ q = cc in (ap (λ x. x.mode) (sym same), ap (λ x. x.waits) (sym same))
begins Awaiting p q e s = absurd cc
begins Leaving p q e s = absurd cc

-- what such a scan made of the request
record Stops (old : WalkState) (steps : List runs.Step) (after : Progress) (index : ℕ) : Type 0 where
  visits : EndsLong old.asked old.progress steps index
  start : after ≡ restarted old.progress

start_same : (p q : Progress) → p.waits ≡ q.waits → restarted p ≡ restarted q
start_same p q e = λ i. record { index = 0; waits = e i; waited = false; mode = Free }

-- the same visits, described from another progress with the same count of waits
call_same : (asked : Asked) (p q : Progress) (steps : List runs.Step) (index : ℕ) → p.waits ≡ q.waits → EndsLong asked p steps index → EndsLong asked q steps index
call_same asked p q steps index e v = record {
  front = v.front;
  last = v.last;
  access = v.access;
  all = v.all;
  at_key = v.at_key;
  call_is = v.call_is ∙ ap (λ (n : ℕ). Call.Visit (record { number = asked.number; wait = n + 1 }) asked.txn asked.ts v.access asked.longest) e;
  reply_is = v.reply_is;
}

begun_stops : (r : Result Progress ScanError) (max_waits : ℕ) (old after : WalkState) (steps : List runs.Step) (result : Result Scan ScanError) (index : ℕ) →
    ((q : Progress) → r ≡ Ok q → (q.mode ≡ Free) × (q.waits ≡ old.progress.waits)) →
    IsScanBegun r max_waits old steps result after → result ≡ Ok (TooLong index) → Stops old steps after.progress index
begun_stops (Err e) max_waits old after steps result index f s is = absurd (let never : Ok (TooLong index) ≡ Err e = sym is ∙ s.1 in cc)
begun_stops (Ok p) max_waits old after steps result index f s is =
    let from = f p refl in
    let end = ends_stopped (next_visit old.asked max_waits s.last) (length old.asked.keys) s.last after.progress result index s.ends is in
    let at = visits_stop old.asked max_waits s.last end.0 steps p from.0 s.visits in
    record {
      visits = call_same old.asked p old.progress steps index from.1 (subst (λ (n : ℕ). EndsLong old.asked p steps n) (sym end.1) at.visits);
      start = end.2 ∙ start_same s.last old.progress (at.waits ∙ from.1);
    }

last_of : {A : Type 0} (P : A → Type 0) (front : List A) (x : A) → AllByRecursion P (front ++ x ∷ []) → P x
last_of P [] x a = a.0
last_of P (y ∷ ys) x a = last_of P ys x a.1

pub too_long : (max_waits : ℕ) (old new : GuardState) (result : Result Scan ScanError) (index : ℕ) → IsScan max_waits old new result → result ≡ Ok (TooLong index) → IsTooLong old new index
too_long max_waits old new result index s is =
    let p : Progress = after_status old.walk.asked.number old.walk.progress s.word in
    let stops = begun_stops (scan_start p) max_waits old.walk new.walk s.steps result index (λ q e. begins p.mode p q refl e) s.scan is in
    let all : AllByRecursion (Stands s.read new.pass) (stops.visits.front ++ stops.visits.last ∷ []) = subst (AllByRecursion (Stands s.read new.pass)) stops.visits.all (all_stand s.read new.pass s.steps s.reported).1 in
    record {
      step = stops.visits.last;
      access = stops.visits.access;
      at_key = stops.visits.at_key;
      call_is = stops.visits.call_is;
      reply_is = stops.visits.reply_is;
      stands = later_stands old.pass s.read new.pass stops.visits.last s.reads.of s.reads.number s.reads.seen (last_of (Stands s.read new.pass) stops.visits.front stops.visits.last all);
      start = stops.start;
    }

-- the index is one of the list's
pub long_inside : (max_waits : ℕ) (old new : GuardState) (result : Result Scan ScanError) (index : ℕ) → IsScan max_waits old new result → new.walk.asked ≡ old.walk.asked → result ≡ Ok (TooLong index) → index < length new.walk.asked.keys
long_inside max_waits old new result index s same is =
    let at = too_long max_waits old new result index s is in
    rw same (inside_length old.walk.asked.keys index (at.step.key, at.access) at.at_key)
