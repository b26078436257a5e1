-- What follows from the guard's machine.
use Rattle.std.proofs.Common.{◌≡◌, ◌⊎◌, inl, inr, ℕ, zero, suc, ◌+◌, Bool, true, false, cond, nat_lt, List, [], ◌∷◌, ◌++◌, length, map, refl, sym, ◌∙◌, ap, arith, Option, Some, None, slice_get, Result, Ok, Err, drop, add-one, true≢false, append-nil}
use Rattle.std.specs.Option.{option_map}
use Rattle.std.specs.List.{AllByRecursion}
use Rattle.std.specs.Ordering.{nat_cmp, match_ordering}
use Rattle.std.specs.declared.cmp.Ordering.{Ordering}
use Rattle.std.specs.declared.cmp.Ordering.TheVariants.{Less, Equal, Greater}
use Rattle.std.proofs.lemmas.List.{drop-map}
use Rattle.lt_ids.specs.Ids.{is_below, Wait}
use Rattle.lt_ids.specs.declared.request.Access.{Access}
use Rattle.lt_ids.specs.declared.request.Access.TheVariants.{Read, Write}
use Rattle.lt_rules.specs.declared.queued.Holder.{Holder}
use Rattle.lt_rules.specs.declared.queued.QueuedRequest.{QueuedRequest}
use Rattle.lt_rules.specs.declared.call.Call.{Call}
use Rattle.lt_rules.specs.declared.call.Call.TheVariants.{Visit}
use Rattle.lt_rules.specs.declared.call.Reply.{Reply}
use Rattle.lt_rules.specs.declared.call.Reply.TheVariants.{Passed, MustWait, TooLong}
use Rattle.lt_rules.specs.Step.{step}
use Rattle.lt_ids.specs.declared.timestamp.Timestamp.{Timestamp}
use Rattle.lt_rules.specs.Rules.{Record, number_of, is_txn, Outcome, stop_reading}
use Rattle.lt_rules.specs.Visit.{visit_lock, displace, join_writers, is_too_long, is_queued}
use Rattle.lt_walk.specs.declared.walk_progress.Mode.{Mode}
use Rattle.lt_walk.specs.declared.walk_progress.Mode.TheVariants.{Free, Awaiting, Let, Stopped, Leaving}
use Rattle.lt_walk.specs.declared.walk_progress.Progress.{Progress}
use Rattle.lt_walk.specs.declared.walk_progress.ScanEnd.{ScanEnd}
use Rattle.lt_walk.specs.declared.scan_results.Scan.{Scan}
use Rattle.lt_walk.specs.declared.scan_results.Scan.TheVariants.{Proceed, Rescan, Waiting}
use Rattle.lt_walk.specs.declared.scan_results.Scan.TheVariants as scans
use Rattle.lt_walk.specs.declared.scan_results.ScanError.{ScanError}
use Rattle.lt_walk.specs.declared.scan_results.ScanError.TheVariants as refused
use Rattle.std.proofs.lemmas.Grind.{common_steps}
use Rattle.lt_walk.specs.Machine.{Asked, polled_in, after_status, mode_after_status, scan_start, scan_start_in, met, passed, restarted, is_awaiting, is_stopped, is_free, may_visit, next_visit, visit_call, scan_end, WalkState, Step, answer_of, Visits, Ends, of_step, IsScanFrom, IsWalkScan}
use Rattle.lt_walk.specs.Laws.{ThroughGoesOn}
use Rattle.lt_walk.specs.declared.scan_results.Poll.TheVariants.{Through}
use Rattle.std.specs.Prelude.{IsOk}

-- ---- a visit passes, has to wait, or meets a queue that is too long

abbrev pub IsVisitReply : Reply → Type 0
IsVisitReply reply = (reply ≡ Passed) ⊎ ((reply ≡ MustWait) ⊎ (reply ≡ TooLong))

-- By the rules of one key a visit passes, has to wait, or meets a queue that is too long.
abbrev VisitReplies : Type 0
VisitReplies = (r : Record) (pass : ℕ) (ticket : Wait) (txn : Option ℕ) (ts : Timestamp) (access : Access) (longest : ℕ) → IsVisitReply (step r pass (Visit ticket txn ts access longest)).reply

-- A scan from the list's start that answers Proceed visited each key once, in order, and each visit passed.
abbrev ProceedsAfterAll : Type 0
ProceedsAfterAll = (max_waits : ℕ) (old : WalkState) (word : ℕ) (steps : List Step) (after : WalkState) →
    old.progress.index ≡ 0 → old.progress.mode ≡ Free →
    AllByRecursion (λ x. IsVisitReply x.answer.reply) steps →
    IsWalkScan max_waits old word steps (Ok Proceed) after →
    (map (λ x. x.key) steps ≡ map (λ k. k.0) old.asked.keys) × AllByRecursion (λ a. a.reply ≡ Passed) after.answers

either : (P : Outcome → Type 0) (b : Bool) (o p : Outcome) → P o → P p → P (cond b o p)
either P true o p x y = x
either P false o p x y = y

one_of_three : (P : Outcome → Type 0) (c : Ordering) (o p q : Outcome) → P o → P p → P q → P (match_ordering c o p q)
one_of_three P Less o p q x y z = x
one_of_three P Equal o p q x y z = y
one_of_three P Greater o p q x y z = z

abbrev IsOfVisit : Outcome → Type 0
IsOfVisit o = IsVisitReply o.reply

displace_replies : (own : Option ℕ) (r : Record) (s q : QueuedRequest) → IsOfVisit (displace own r s q)
displace_replies None r s q = inl refl
displace_replies (Some txn) r s q = inl refl

join_replies : (r : Record) (q : QueuedRequest) (longest : ℕ) → IsOfVisit (join_writers r q longest)
join_replies r q longest = either IsOfVisit (is_too_long r.writers q longest) _ _ (inr (inr refl)) (inr (inl refl))

lock_replies : (holder : Option Holder) (s : Option QueuedRequest) (r : Record) (q : QueuedRequest) (longest : ℕ) (access : Access) → IsOfVisit (visit_lock holder s r q longest access)
lock_replies None None r q longest access = inl refl
lock_replies None (Some s) r q longest Read = inl refl
lock_replies None (Some s) r q longest Write = one_of_three IsOfVisit (nat_cmp (number_of q) (number_of s)) _ _ _ (displace_replies q.txn r s q) (inl refl) (join_replies r q longest)
lock_replies (Some h) s r q longest Read =
    either IsOfVisit (is_txn q.txn h.txn) _ _ (inl refl)
    (either IsOfVisit (is_below q.ts h.ts) _ _ (inl refl)
    (either IsOfVisit (is_queued r.writers (number_of q)) _ _ (inr (inl refl)) (inr (inl refl))))
lock_replies (Some h) s r q longest Write = either IsOfVisit (is_txn q.txn h.txn) _ _ (inl refl) (join_replies r q longest)

pub visit_replies : VisitReplies
visit_replies r pass ticket txn ts access longest = lock_replies r.holder r.reservation (stop_reading r ticket.number) (record { ticket = ticket; txn = txn; ts = ts; pass = pass }) longest access

abbrev pub pair : {A B : Type 0} → A → B → A × B
pair a b = (a, b)

pub pair_same : {A B : Type 0} (a a' : A) (b b' : B) → Some (pair a b) ≡ Some (pair a' b') → (a ≡ a') × (b ≡ b')
pair_same a a' b b' e = let p : pair a b ≡ pair a' b' = cc in (ap (λ x. x.0) p, ap (λ x. x.1) p)

-- ---- a request that proceeds has passed each key

free_start_in : (m : Mode) (b : Bool) (index waits : ℕ) (waited : Bool) → m ≡ Free →
    scan_start_in (mode_after_status m b) (record { index = index; waits = waits; waited = waited; mode = mode_after_status m b }) ≡ Ok (record { index = index; waits = waits; waited = waited; mode = m })
free_start_in Free b index waits waited e = refl
free_start_in Awaiting b index waits waited e = absurd cc
free_start_in Let b index waits waited e = absurd cc
free_start_in Stopped b index waits waited e = absurd cc
free_start_in Leaving b index waits waited e = absurd cc

drop_at : {A : Type 0} (xs : List A) (i : ℕ) (x : A) → slice_get xs i ≡ Some x → drop i xs ≡ x ∷ drop (suc i) xs
drop_at [] i x e = absurd cc
drop_at (y ∷ ys) zero x e = cc
drop_at (y ∷ ys) (suc i) x e = drop_at ys i x e

-- the key of the item at an index
key_at : (o : Option (List ℕ × Access)) (f : Access → Call) (key : List ℕ) (call : Call) → option_map {U = List ℕ × Call} (λ k. (k.0, f k.1)) o ≡ Some (key, call) → option_map (λ k. k.0) o ≡ Some key
key_at None f key call e = absurd cc
key_at (Some k) f key call e = ap Some (pair_same k.0 key (f k.1) call e).0

mapped_get : {A B : Type 0} (f : A → B) (xs : List A) (i : ℕ) → slice_get (map f xs) i ≡ option_map f (slice_get xs i)
mapped_get f [] i = refl
mapped_get f (x ∷ xs) zero = refl
mapped_get f (x ∷ xs) (suc i) = mapped_get f xs i

pub guarded : (b : Bool) (o : Option (List ℕ × Call)) (x : List ℕ × Call) → cond b o None ≡ Some x → (b ≡ true) × (o ≡ Some x)
guarded true o x e = (refl, e)
guarded false o x e = absurd cc

next_key : (asked : Asked) (max_waits : ℕ) (p : Progress) (key : List ℕ) (call : Call) → next_visit asked max_waits p ≡ Some (key, call) → drop p.index (map (λ k. k.0) asked.keys) ≡ key ∷ drop (p.index + 1) (map (λ k. k.0) asked.keys)
next_key asked max_waits p key call e =
    let there = guarded (may_visit (length asked.keys) max_waits p) _ _ e in
    let named : option_map (λ k. k.0) (slice_get asked.keys p.index) ≡ Some key = key_at (slice_get asked.keys p.index) (visit_call asked p) key call there.1 in
    rw add-one (drop_at (map (λ k. k.0) asked.keys) p.index key (mapped_get (λ k. k.0) asked.keys p.index ∙ named))

-- no visit comes next unless the request is free
pub no_visit : (asked : Asked) (max_waits : ℕ) (p : Progress) (x : List ℕ × Call) → is_free p.mode ≡ false → next_visit asked max_waits p ≡ Some x → ⊥
no_visit asked max_waits p x not_free next =
    let due : may_visit (length asked.keys) max_waits p ≡ true = (guarded (may_visit (length asked.keys) max_waits p) _ _ next).0 in
    true≢false (sym (rw not_free at due))

pub visits_none : (asked : Asked) (max_waits : ℕ) (p : Progress) (xs : List Step) (q : Progress) → is_free p.mode ≡ false → Visits asked max_waits p xs q → (xs ≡ []) × (q ≡ p)
visits_none asked max_waits p [] q not_free v = (refl, v)
visits_none asked max_waits p (x ∷ xs) q not_free v = absurd (no_visit asked max_waits p (x.key, x.call) not_free v.0)

visited : (asked : Asked) (max_waits : ℕ) (p : Progress) (xs : List Step) (q : Progress) → AllByRecursion (λ x. IsVisitReply x.answer.reply) xs → Visits asked max_waits p xs q → is_awaiting q.mode ≡ false → is_stopped q.mode ≡ false →
    (drop p.index (map (λ k. k.0) asked.keys) ≡ map (λ x. x.key) xs ++ drop q.index (map (λ k. k.0) asked.keys)) × AllByRecursion (λ a. a.reply ≡ Passed) (map answer_of xs)
visited asked max_waits p [] q all v unwaiting unstopped = (ap (λ s. drop s.index (map (λ k. k.0) asked.keys)) (sym v), tt)
visited asked max_waits p (x ∷ xs) q all v unwaiting unstopped =
    elim all.0 [
      | inl passes ↦
          let goes_on : met p x.answer.reply ≡ passed p = ap (met p) passes in
          let rest : Visits asked max_waits (passed p) xs q = rw goes_on at v.1 in
          let others : (drop (p.index + 1) (map (λ k. k.0) asked.keys) ≡ map (λ x. x.key) xs ++ drop q.index (map (λ k. k.0) asked.keys)) × AllByRecursion (λ a. a.reply ≡ Passed) (map answer_of xs) = visited asked max_waits (passed p) xs q all.1 rest unwaiting unstopped in
          (next_key asked max_waits p x.key x.call v.0 ∙ ap (λ ks. x.key ∷ ks) others.0, (passes, others.1))
      | inr ends ↦ elim ends [
        | inl waits ↦
            let same : met p x.answer.reply ≡ met p MustWait = ap (met p) waits in
            let rest : Visits asked max_waits (met p MustWait) xs q = rw same at v.1 in
            absurd (true≢false (sym (ap (λ s. is_awaiting s.mode) (visits_none asked max_waits (met p MustWait) xs q refl rest).1) ∙ unwaiting))
        | inr stops ↦
            let same : met p x.answer.reply ≡ met p TooLong = ap (met p) stops in
            let rest : Visits asked max_waits (met p TooLong) xs q = rw same at v.1 in
            absurd (true≢false (sym (ap (λ s. is_stopped s.mode) (visits_none asked max_waits (met p TooLong) xs q refl rest).1) ∙ unstopped))
      ]
    ]

abbrev ended : Progress → Result Scan ScanError → ScanEnd
ended p r = record { after = p; result = r }

-- Proceed is answered only at the list's end.
proceed_end_in : (waits stops inside waited : Bool) (p q : Progress) → Ok Proceed ≡ (cond waits (ended p (Ok (Waiting p.index))) (cond stops (ended q (Ok (scans.TooLong p.index))) (cond inside (ended p (Err refused.WaitsOut)) (ended q (Ok (cond waited Rescan Proceed)))))).result →
    (waits ≡ false) × (stops ≡ false) × (inside ≡ false)
proceed_end_in true stops inside waited p q e = absurd cc
proceed_end_in false true inside waited p q e = absurd cc
proceed_end_in false false true waited p q e = absurd cc
proceed_end_in false false false waited p q e = (refl, refl, refl)

proceed_end : (keys : ℕ) (p : Progress) → Ok Proceed ≡ (scan_end keys p).result → (is_awaiting p.mode ≡ false) × (is_stopped p.mode ≡ false) × (nat_lt p.index keys ≡ false)
proceed_end keys p e = proceed_end_in (is_awaiting p.mode) (is_stopped p.mode) (nat_lt p.index keys) p.waited p (restarted p) e

ends_none : (next : Option (List ℕ × Call)) (end : ScanEnd) (p : Progress) (a : Progress) → Ends next end p (Ok Proceed) a → Ok Proceed ≡ end.result
ends_none None end p a e = e.0
ends_none (Some x) end p a e = absurd (let never : Ok Proceed ≡ Err (of_step e.0.0) = e.0.1 in cc)

past_end : {A : Type 0} (xs : List A) (i : ℕ) → nat_lt i (length xs) ≡ false → drop i xs ≡ []
past_end xs i e = grind (arith, common_steps)

pub from_proceeds : (asked : Asked) (max_waits : ℕ) (p : Progress) (steps : List Step) (after : WalkState) → AllByRecursion (λ x. IsVisitReply x.answer.reply) steps → IsScanFrom asked max_waits p steps (Ok Proceed) after →
    (drop p.index (map (λ k. k.0) asked.keys) ≡ map (λ x. x.key) steps) × AllByRecursion (λ a. a.reply ≡ Passed) after.answers
from_proceeds asked max_waits p steps after all s =
    let at_end : (is_awaiting s.last.mode ≡ false) × (is_stopped s.last.mode ≡ false) × (nat_lt s.last.index (length asked.keys) ≡ false) = proceed_end (length asked.keys) s.last (ends_none (next_visit asked max_waits s.last) (scan_end (length asked.keys) s.last) s.last after.progress s.ends) in
    let both = visited asked max_waits p steps s.last all s.visits at_end.0 at_end.1 in
    let no_more : drop s.last.index (map (λ k. k.0) asked.keys) ≡ [] = drop-map (λ k. k.0) s.last.index asked.keys ∙ ap (map (λ k. k.0)) (past_end asked.keys s.last.index at_end.2) in
    (both.0 ∙ ap (λ ks. map (λ x. x.key) steps ++ ks) no_more ∙ append-nil (map (λ x. x.key) steps), rw s.answers both.1)

pub begins_free : (max_waits : ℕ) (old : WalkState) (word : ℕ) (steps : List Step) (result : Result Scan ScanError) (after : WalkState) → old.progress.mode ≡ Free → IsWalkScan max_waits old word steps result after → IsScanFrom old.asked max_waits old.progress steps result after
begins_free max_waits old word steps result after free scan =
    let begins : scan_start (after_status old.asked.number old.progress word) ≡ Ok old.progress = free_start_in old.progress.mode _ old.progress.index old.progress.waits old.progress.waited free in
    rw begins at scan

-- and so does each status word
pub from_is_scan : (max_waits : ℕ) (old : WalkState) (word : ℕ) (steps : List Step) (result : Result Scan ScanError) (after : WalkState) → old.progress.mode ≡ Free → IsScanFrom old.asked max_waits old.progress steps result after → IsWalkScan max_waits old word steps result after
from_is_scan max_waits old word steps result after free from =
    let begins : scan_start (after_status old.asked.number old.progress word) ≡ Ok old.progress = free_start_in old.progress.mode _ old.progress.index old.progress.waits old.progress.waited free in
    rw begins from

pub proceeds_after_all : ProceedsAfterAll
proceeds_after_all max_waits old word steps after at_start free all scan =
    let begins : scan_start (after_status old.asked.number old.progress word) ≡ Ok old.progress = free_start_in old.progress.mode _ old.progress.index old.progress.waits old.progress.waited free in
    let from : IsScanFrom old.asked max_waits old.progress steps (Ok Proceed) after = rw begins at scan in
    let both : (drop old.progress.index (map (λ k. k.0) old.asked.keys) ≡ map (λ x. x.key) steps) × AllByRecursion (λ a. a.reply ≡ Passed) after.answers = from_proceeds old.asked max_waits old.progress steps after all from in
    (sym (rw at_start at both.0), both.1)

-- ---- a request that was let through proceeds

let_goes_on : (m : Mode) (b c : Bool) (p : Progress) → polled_in (mode_after_status m b) ≡ Through → IsOk (scan_start_in (mode_after_status (mode_after_status m b) c) p)
let_goes_on Free b c p e = absurd cc
let_goes_on Awaiting true c p e = refl
let_goes_on Awaiting false c p e = absurd cc
let_goes_on Let b c p e = refl
let_goes_on Stopped b c p e = absurd cc
let_goes_on Leaving b c p e = absurd cc

pub through_goes_on : ThroughGoesOn
through_goes_on number p word word' e = let_goes_on p.mode _ _ _ e
