-- A scan that ends in a wait, or at a queue that is too long, has made the visit with that reply.
use Rattle.std.proofs.Common.{◌≡◌, ℕ, ◌+◌, Bool, true, false, cond, nat_lt, List, [], ◌∷◌, length, Option, Some, None, Result, Ok, Err, ◌≢◌, refl, sym, ap, subst, ◌∙◌}
use Rattle.std.specs.Prelude.{slice_get}
use Rattle.std.specs.Option.{option_map}
use Rattle.lt_ids.specs.declared.request.Access.{Access}
use Rattle.lt_rules.specs.declared.call.Call.{Call}
use Rattle.lt_rules.specs.declared.call.Reply.{Reply}
use Rattle.lt_rules.specs.declared.call.Reply.TheVariants as replies
use Rattle.lt_walk.specs.Machine.{Step, Asked, after_status, scan_start, scan_start_in, restarted, is_free, is_awaiting, is_stopped, may_visit, met, met_as, is_wait, is_long, visit_call, next_visit, scan_end, WalkState, Visits, Ends, IsScanBegun, of_step}
use Rattle.lt_walk.specs.declared.walk_progress.Mode.{Mode}
use Rattle.lt_walk.specs.declared.walk_progress.Mode.TheVariants.{Free, Awaiting, Let, Stopped, Leaving}
use Rattle.lt_walk.specs.declared.walk_progress.Progress.{Progress}
use Rattle.lt_walk.specs.declared.scan_results.Scan.{Scan}
use Rattle.lt_walk.specs.declared.scan_results.Scan.TheVariants as scans
use Rattle.lt_walk.specs.declared.scan_results.ScanError.{ScanError}
use Rattle.lt_walk.specs.declared.scan_results.ScanError.TheVariants as refused
use Rattle.lt_runner.specs.declared.answer.LineAnswer.{LineAnswer}
use Rattle.lt_runner.specs.declared.answer.LineAnswer.TheVariants as answers
use mathlib.Core.Bool.{true≢false}
use Rattle.lt_runner.specs.Machine.{IsScanAnswer, IsToldAt}
use Rattle.lt_runner.proofs.Scans.{by_test, end_waits, end_stops, end_out, end_done}
use Rattle.lt_runner.specs.Laws.{IsVisitOf, EndsInVisit, WaitingHasVisit, LongHasVisit}

-- The next visit is at a key of the list.
visited : (b : Bool) (o : Option (List ℕ × Access)) (f : List ℕ × Access → List ℕ × Call) (y : List ℕ × Call) → cond b (option_map f o) None ≡ Some y → (k : List ℕ × Access) × (b ≡ true) × (o ≡ Some k) × (f k ≡ y)
visited true None f y e = absurd cc
visited true (Some k) f y e = (k, refl, refl, cc)
visited false o f y e = absurd cc

must_wait : (r : Reply) → is_wait r ≡ true → r ≡ replies.MustWait
must_wait replies.MustWait e = refl
must_wait _ e = cc

too_long : (r : Reply) → is_long r ≡ true → r ≡ replies.TooLong
too_long replies.TooLong e = refl
too_long _ e = cc

free_mode : (m : Mode) → is_free m ≡ true → m ≡ Free
free_mode Free e = refl
free_mode _ e = cc

awaits : (m : Mode) → is_awaiting m ≡ true → m ≡ Awaiting
awaits Awaiting e = refl
awaits _ e = cc

stopped : (m : Mode) → is_stopped m ≡ true → m ≡ Stopped
stopped Stopped e = refl
stopped _ e = cc

-- ---- the visits of a scan up to the one that ends it

-- The visit that ends the scan.
ends_here : (asked : Asked) (max_waits : ℕ) (p : Progress) (reply : Reply) (x : Step) (k : List ℕ × Access) → x.answer.reply ≡ reply → next_visit asked max_waits p ≡ Some (x.key, x.call) → slice_get asked.keys p.index ≡ Some k → EndsInVisit asked.number k.0 reply (x ∷ [])
ends_here asked max_waits p reply x k is n g =
    let f : List ℕ × Access → List ℕ × Call = λ y. (y.0, visit_call asked p y.1) in
    let at : (y : List ℕ × Access) × (may_visit (length asked.keys) max_waits p ≡ true) × (slice_get asked.keys p.index ≡ Some y) × (f y ≡ (x.key, x.call)) =
    visited (may_visit (length asked.keys) max_waits p) (slice_get asked.keys p.index) f (x.key, x.call) n in
    let both : Some at.0 ≡ Some k = sym at.2 ∙ g in
    let same : at.0 ≡ k = cc in
    let call : visit_call asked p at.0.1 ≡ x.call = ap (λ (y : List ℕ × Call). y.1) at.3 in
    record {
      prefix = [];
      last = x;
      all = refl;
      key_is = sym (ap (λ (y : List ℕ × Call). y.0) at.3) ∙ ap (λ (y : List ℕ × Access). y.0) same;
      visit = subst (IsVisitOf asked.number) call refl;
      replied = is;
    }

no_more : (asked : Asked) (max_waits : ℕ) (p : Progress) (y : List ℕ × Call) → is_free p.mode ≡ false → next_visit asked max_waits p ≡ Some y → ⊥
no_more asked max_waits p y f n =
    let at = visited (may_visit (length asked.keys) max_waits p) (slice_get asked.keys p.index) (λ k. (k.0, visit_call asked p k.1)) y n in
    true≢false (sym (rw f at at.1))

-- A visit that leaves a free request in this mode had this reply, and left it at its key.
abbrev Leaves : Mode → Reply → Type 0
Leaves m reply = (p : Progress) (r : Reply) → p.mode ≡ Free → (met p r).mode ≡ m → (r ≡ reply) × ((met p r).index ≡ p.index)

met_waits : (p : Progress) (r : Reply) (wait long : Bool) → is_wait r ≡ wait → is_long r ≡ long → p.mode ≡ Free → (met_as p wait long).mode ≡ Awaiting → (r ≡ replies.MustWait) × ((met_as p wait long).index ≡ p.index)
met_waits p r true long w l f e = (must_wait r w, refl)
met_waits p r false true w l f e = absurd cc
met_waits p r false false w l f e = absurd (let never : Free ≡ Awaiting = sym f ∙ e in cc)

met_stops : (p : Progress) (r : Reply) (wait long : Bool) → is_wait r ≡ wait → is_long r ≡ long → p.mode ≡ Free → (met_as p wait long).mode ≡ Stopped → (r ≡ replies.TooLong) × ((met_as p wait long).index ≡ p.index)
met_stops p r true long w l f e = absurd cc
met_stops p r false true w l f e = (too_long r l, refl)
met_stops p r false false w l f e = absurd (let never : Free ≡ Stopped = sym f ∙ e in cc)

module _ (asked : Asked) (max_waits : ℕ) (last : Progress) (k : List ℕ × Access) (reply : Reply) (means : Leaves last.mode reply) (over : is_free last.mode ≡ false) (at : slice_get asked.keys last.index ≡ Some k) where
  visit_cases : (p : Progress) (x : Step) (xs : List Step) (free : Bool) → ((q : Progress) → Visits asked max_waits q xs last → q.mode ≡ Free → EndsInVisit asked.number k.0 reply xs) →
      is_free (met p x.answer.reply).mode ≡ free → p.mode ≡ Free → next_visit asked max_waits p ≡ Some (x.key, x.call) → Visits asked max_waits (met p x.answer.reply) xs last → EndsInVisit asked.number k.0 reply (x ∷ xs)
  visit_cases p x xs true ih e f n v =
      let rest : EndsInVisit asked.number k.0 reply xs = ih (met p x.answer.reply) v (free_mode (met p x.answer.reply).mode e) in
      record { prefix = x ∷ rest.prefix; last = rest.last; all = ap (λ (l : List Step). x ∷ l) rest.all; key_is = rest.key_is; visit = rest.visit; replied = rest.replied }
  visit_cases p x (y ∷ ys) false ih e f n v = absurd (no_more asked max_waits (met p x.answer.reply) (y.key, y.call) e v.0)
  visit_cases p x [] false ih e f n v =
      let so = means p x.answer.reply f (sym (ap (λ (q : Progress). q.mode) v)) in
      let here : slice_get asked.keys (met p x.answer.reply).index ≡ Some k = subst (λ (q : Progress). slice_get asked.keys q.index ≡ Some k) v at in
      ends_here asked max_waits p reply x k so.0 n (subst (λ (i : ℕ). slice_get asked.keys i ≡ Some k) so.1 here)

  -- The visits of a free request, from its index to the end of the scan, end with the visit that ended the scan.
  visits_end : (steps : List Step) (p : Progress) → Visits asked max_waits p steps last → p.mode ≡ Free → EndsInVisit asked.number k.0 reply steps
  visits_end [] p v f = absurd (true≢false (sym (ap (λ (q : Progress). is_free q.mode) v ∙ ap is_free f) ∙ over))
  visits_end (x ∷ xs) p v f = visit_cases p x xs (is_free (met p x.answer.reply).mode) (λ q w g. visits_end xs q w g) refl f v.0 v.1

-- ---- how a scan ends

abbrev ended : Scan → Result Scan ScanError
ended s = Ok s

never_waits : (b : Bool) (k : ℕ) → ended (scans.Waiting k) ≡ ended (cond b scans.Rescan scans.Proceed) → ⊥
never_waits true k e = cc
never_waits false k e = cc

never_long : (b : Bool) (k : ℕ) → ended (scans.TooLong k) ≡ ended (cond b scans.Rescan scans.Proceed) → ⊥
never_long true k e = cc
never_long false k e = cc

-- A scan answers `Waiting` only if the request waits, and with the request's index.
wait_cases : (keys : ℕ) (p : Progress) (index : ℕ) → Ok (scans.Waiting index) ≡ (scan_end keys p).result → (p.mode ≡ Awaiting) × (index ≡ p.index)
wait_cases keys p index e = by_test ((p.mode ≡ Awaiting) × (index ≡ p.index)) (is_awaiting p.mode)
    (λ w. (awaits p.mode w, let both : Ok (scans.Waiting index) ≡ Ok (scans.Waiting p.index) = e ∙ end_waits keys p w in cc))
    (λ w. by_test ((p.mode ≡ Awaiting) × (index ≡ p.index)) (is_stopped p.mode)
    (λ s. absurd (let never : Ok (scans.Waiting index) ≡ Ok (scans.TooLong p.index) = e ∙ end_stops keys p w s in cc))
    (λ s. by_test ((p.mode ≡ Awaiting) × (index ≡ p.index)) (nat_lt p.index keys)
    (λ m. absurd (let never : Ok (scans.Waiting index) ≡ Err refused.WaitsOut = e ∙ end_out keys p w s m in cc))
    (λ m. absurd (never_waits p.waited index (e ∙ end_done keys p w s m)))))

-- A scan answers `TooLong` only if the request met a queue that is too long, and with the request's index.
long_cases : (keys : ℕ) (p : Progress) (index : ℕ) → Ok (scans.TooLong index) ≡ (scan_end keys p).result → (p.mode ≡ Stopped) × (index ≡ p.index)
long_cases keys p index e = by_test ((p.mode ≡ Stopped) × (index ≡ p.index)) (is_awaiting p.mode)
    (λ w. absurd (let never : Ok (scans.TooLong index) ≡ Ok (scans.Waiting p.index) = e ∙ end_waits keys p w in cc))
    (λ w. by_test ((p.mode ≡ Stopped) × (index ≡ p.index)) (is_stopped p.mode)
    (λ s. (stopped p.mode s, let both : Ok (scans.TooLong index) ≡ Ok (scans.TooLong p.index) = e ∙ end_stops keys p w s in cc))
    (λ s. by_test ((p.mode ≡ Stopped) × (index ≡ p.index)) (nat_lt p.index keys)
    (λ m. absurd (let never : Ok (scans.TooLong index) ≡ Err refused.WaitsOut = e ∙ end_out keys p w s m in cc))
    (λ m. absurd (never_long p.waited index (e ∙ end_done keys p w s m)))))

-- The scan is over at p, and a visit there had this reply.
record OverAt (p : Progress) (index : ℕ) (reply : Reply) : Type 0 where
  means : Leaves p.mode reply
  over : is_free p.mode ≡ false
  here : index ≡ p.index

waiting_over : (p : Progress) (index : ℕ) → p.mode ≡ Awaiting → index ≡ p.index → OverAt p index replies.MustWait
waiting_over p index w here = record {
  means = λ q r f e. met_waits q r (is_wait r) (is_long r) refl refl f (e ∙ w);
  over = ap is_free w;
  here = here;
}

long_over : (p : Progress) (index : ℕ) → p.mode ≡ Stopped → index ≡ p.index → OverAt p index replies.TooLong
long_over p index s here = record {
  means = λ q r f e. met_stops q r (is_wait r) (is_long r) refl refl f (e ∙ s);
  over = ap is_free s;
  here = here;
}

ends_waiting : (o : Option (List ℕ × Call)) (keys : ℕ) (last after : Progress) (index : ℕ) → Ends o (scan_end keys last) last (Ok (scans.Waiting index)) after → OverAt last index replies.MustWait
ends_waiting (Some y) keys last after index e = absurd (let never : Ok (scans.Waiting index) ≡ Err (of_step e.0.0) = e.0.1 in cc)
ends_waiting None keys last after index e = let c = wait_cases keys last index e.0 in waiting_over last index c.0 c.1

ends_long : (o : Option (List ℕ × Call)) (keys : ℕ) (last after : Progress) (index : ℕ) → Ends o (scan_end keys last) last (Ok (scans.TooLong index)) after → OverAt last index replies.TooLong
ends_long (Some y) keys last after index e = absurd (let never : Ok (scans.TooLong index) ≡ Err (of_step e.0.0) = e.0.1 in cc)
ends_long None keys last after index e = let c = long_cases keys last index e.0 in long_over last index c.0 c.1

start_free : (m : Mode) (p q : Progress) → p.mode ≡ m → scan_start_in m p ≡ Ok q → q.mode ≡ Free
start_free Free p q a e = let same : p ≡ q = cc in ap (λ (x : Progress). x.mode) (sym same) ∙ a
start_free Let p q a e = let same : record p { index = p.index + 1; mode = Free } ≡ q = cc in ap (λ (x : Progress). x.mode) (sym same)
start_free Stopped p q a e = let same : restarted p ≡ q = cc in ap (λ (x : Progress). x.mode) (sym same)
start_free Awaiting p q a e = absurd cc
start_free Leaving p q a e = absurd cc

-- A scan that ends in this way at this index has made the visit with this reply there.
abbrev Shows : (ℕ → Scan) → Reply → Type 0
Shows end reply = (o : Option (List ℕ × Call)) (keys : ℕ) (last after : Progress) (index : ℕ) → Ends o (scan_end keys last) last (Ok (end index)) after → OverAt last index reply

begun : (end : ℕ → Scan) (reply : Reply) → ((index : ℕ) (e : ScanError) → Ok (end index) ≢ Err e) → Shows end reply →
    (r : Result Progress ScanError) (max_waits : ℕ) (s after : WalkState) (steps : List Step) (index : ℕ) (k : List ℕ × Access) → ((q : Progress) → r ≡ Ok q → q.mode ≡ Free) → IsScanBegun r max_waits s steps (Ok (end index)) after → slice_get s.asked.keys index ≡ Some k → EndsInVisit s.asked.number k.0 reply steps
begun end reply never shows (Err e) max_waits s after steps index k f h g = absurd (never index e h.1)
begun end reply never shows (Ok p) max_waits s after steps index k f h g =
    let w : OverAt h.last index reply = shows (next_visit s.asked max_waits h.last) (length s.asked.keys) h.last after.progress index h.ends in
    visits_end s.asked max_waits h.last k reply w.means w.over (subst (λ (i : ℕ). slice_get s.asked.keys i ≡ Some k) w.here g) steps p h.visits (f p refl)

-- ---- what is answered

-- The key that the answer names.
key_of : (told : List ℕ → LineAnswer) (o : Option (List ℕ × Access)) (key : List ℕ) → ((a b : List ℕ) → told a ≡ told b → b ≡ a) → IsToldAt told o (told key) → (k : List ℕ × Access) × (o ≡ Some k) × (k.0 ≡ key)
key_of told None key same h = absurd h
key_of told (Some k) key same h = (k, refl, same key k.0 h)

other_key : (told other : List ℕ → LineAnswer) (o : Option (List ℕ × Access)) (key : List ℕ) → ((a b : List ℕ) → told a ≢ other b) → IsToldAt other o (told key) → ⊥
other_key told other None key differ h = h
other_key told other (Some k) key differ h = differ key k.0 h

same_waiting : (a b : List ℕ) → answers.WaitingAt a ≡ answers.WaitingAt b → b ≡ a
same_waiting a b e = cc

same_long : (a b : List ℕ) → answers.TooLongAt a ≡ answers.TooLongAt b → b ≡ a
same_long a b e = cc

waiting_visits : (r : Result Progress ScanError) (max_waits : ℕ) (s after : WalkState) (steps : List Step) (result : Result Scan ScanError) (key : List ℕ) → ((q : Progress) → r ≡ Ok q → q.mode ≡ Free) → IsScanBegun r max_waits s steps result after → IsScanAnswer s.asked.keys result (answers.WaitingAt key) → EndsInVisit s.asked.number key replies.MustWait steps
waiting_visits r max_waits s after steps (Ok (scans.Waiting index)) key f h t =
    let at : (k : List ℕ × Access) × (slice_get s.asked.keys index ≡ Some k) × (k.0 ≡ key) = key_of (λ x. answers.WaitingAt x) (slice_get s.asked.keys index) key same_waiting t in
    subst (λ (l : List ℕ). EndsInVisit s.asked.number l replies.MustWait steps) at.2 (begun (λ p. scans.Waiting p) replies.MustWait (λ p e same. cc) ends_waiting r max_waits s after steps index at.0 f h at.1)
waiting_visits r max_waits s after steps (Ok (scans.TooLong index)) key f h t = absurd (other_key (λ x. answers.WaitingAt x) (λ x. answers.TooLongAt x) (slice_get s.asked.keys index) key (λ a b e. cc) t)
waiting_visits r max_waits s after steps (Ok scans.Proceed) key f h t = absurd (cc t)
waiting_visits r max_waits s after steps (Ok scans.Rescan) key f h t = absurd (cc t)
waiting_visits r max_waits s after steps (Err refused.Leaving) key f h t = absurd (cc t)
waiting_visits r max_waits s after steps (Err refused.StillWaiting) key f h t = absurd (cc t)
waiting_visits r max_waits s after steps (Err refused.WaitsOut) key f h t = absurd (cc t)
waiting_visits r max_waits s after steps (Err refused.HistoryFull) key f h t = absurd (cc t)
waiting_visits r max_waits s after steps (Err refused.Memory) key f h t = absurd t

long_visits : (r : Result Progress ScanError) (max_waits : ℕ) (s after : WalkState) (steps : List Step) (result : Result Scan ScanError) (key : List ℕ) → ((q : Progress) → r ≡ Ok q → q.mode ≡ Free) → IsScanBegun r max_waits s steps result after → IsScanAnswer s.asked.keys result (answers.TooLongAt key) → EndsInVisit s.asked.number key replies.TooLong steps
long_visits r max_waits s after steps (Ok (scans.TooLong index)) key f h t =
    let at : (k : List ℕ × Access) × (slice_get s.asked.keys index ≡ Some k) × (k.0 ≡ key) = key_of (λ x. answers.TooLongAt x) (slice_get s.asked.keys index) key same_long t in
    subst (λ (l : List ℕ). EndsInVisit s.asked.number l replies.TooLong steps) at.2 (begun (λ p. scans.TooLong p) replies.TooLong (λ p e same. cc) ends_long r max_waits s after steps index at.0 f h at.1)
long_visits r max_waits s after steps (Ok (scans.Waiting index)) key f h t = absurd (other_key (λ x. answers.TooLongAt x) (λ x. answers.WaitingAt x) (slice_get s.asked.keys index) key (λ a b e. cc) t)
long_visits r max_waits s after steps (Ok scans.Proceed) key f h t = absurd (cc t)
long_visits r max_waits s after steps (Ok scans.Rescan) key f h t = absurd (cc t)
long_visits r max_waits s after steps (Err refused.Leaving) key f h t = absurd (cc t)
long_visits r max_waits s after steps (Err refused.StillWaiting) key f h t = absurd (cc t)
long_visits r max_waits s after steps (Err refused.WaitsOut) key f h t = absurd (cc t)
long_visits r max_waits s after steps (Err refused.HistoryFull) key f h t = absurd (cc t)
long_visits r max_waits s after steps (Err refused.Memory) key f h t = absurd t

pub waiting_visit : WaitingHasVisit
waiting_visit rules s word key steps after h =
    let p : Progress = after_status s.asked.number s.progress word in
    waiting_visits (scan_start p) rules.max_waits s h.state steps h.result key (λ q e. start_free p.mode p q refl e) h.scan h.told

pub long_visit : LongHasVisit
long_visit rules s word key steps after h =
    let p : Progress = after_status s.asked.number s.progress word in
    long_visits (scan_start p) rules.max_waits s h.state steps h.result key (λ q e. start_free p.mode p q refl e) h.scan h.told
