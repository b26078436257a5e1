-- A map by numbers follows a list of open waits through each change.
use Rattle.std.proofs.Common.{◌≡◌, ℕ, ◌+◌, Bool, true, false, cond, not, ◌||◌, nat_eq, is_some, filter, find, take, List, [], ◌∷◌, ◌++◌, Option, Some, None, refl, sym, ap, ◌∙◌, subst, arith}
use Rattle.std.specs.BTreeMap.{UpdatesBy}
use Rattle.std.specs.Ordering.{nat_cmp, is_eq}
use Rattle.std.specs.Option.{option_map}
use Rattle.std.proofs.lemmas.Bool.{false≢true}
use Rattle.std.proofs.lemmas.Bool.Decides.{nat_tests}
use Rattle.lt_ids.specs.Ids.{Wait, same_wait}
use Rattle.lt_ids.specs.declared.request.Access.{Access}
use Rattle.lt_ids.specs.declared.timestamp.Timestamp.{Timestamp}
use Rattle.lt_rules.specs.declared.call.Call.{Call}
use Rattle.lt_rules.specs.declared.call.Call.TheVariants.{Visit}
use Rattle.lt_rules.specs.declared.call.Reply.{Reply}
use Rattle.lt_trace_statistics.specs.declared.waits.OpenWait.{OpenWait}
use Rattle.lt_trace_statistics.specs.Findings.{is_must_wait, mover_of, without_mover, is_let_through, without_ended, begun_waits, since_of}
use Rattle.lt_trace_statistics.specs.OpenWaits.{Pending, wait_at, is_wait_of, first_of, AreWaitsApart, HasWaits, ChangesWaits, HaveNoMover, since_if, since_at}
use Rattle.lt_trace_statistics.proofs.EndedWaits.{same_ticket, find_dropped, find_stays_none, find_before, find_behind}

-- ---- numbers

at_is : (a b : ℕ) → is_eq (nat_cmp a b) ≡ nat_eq b a
at_is a b = grind (arith, nat_tests)

equal_is : (a b : ℕ) → nat_eq a b ≡ true → a ≡ b
equal_is a b e = grind (arith, nat_tests)

equal_itself : (a : ℕ) → nat_eq a a ≡ true
equal_itself a = grind (arith, nat_tests)

other_turned : (a b : ℕ) → nat_eq a b ≡ false → nat_eq b a ≡ false
other_turned a b e = grind (arith, nat_tests)

-- ---- lists

-- the wait, if it passes the test
abbrev kept_by : (OpenWait → Bool) → Option OpenWait → Option OpenWait
kept_by test None = None
kept_by test (Some w) = cond (test w) (Some w) None

first_has_number : (n : ℕ) (ws : List OpenWait) (v : OpenWait) → first_of n ws ≡ Some v → v.ticket.number ≡ n
first_has_number n [] v e = absurd (cc)
first_has_number n (w ∷ ws) v e = by (is_wait_of n w) refl e (λ e. first_has_number n ws v e)
  where
    by : (s : Bool) → is_wait_of n w ≡ s → cond s (Some w) (first_of n ws) ≡ Some v → (first_of n ws ≡ Some v → v.ticket.number ≡ n) → v.ticket.number ≡ n
    by true f e rest = let same : w ≡ v = cc in ap (λ (u : OpenWait). u.ticket.number) (sym same) ∙ equal_is w.ticket.number n f
    by false f e rest = rest e

first_filtered : (test : OpenWait → Bool) (n : ℕ) (ws : List OpenWait) → AreWaitsApart ws → first_of n (filter test ws) ≡ kept_by test (first_of n ws)
first_filtered test n [] apart = refl
first_filtered test n (w ∷ ws) apart = by (test w) (is_wait_of n w) refl refl (first_filtered test n ws apart.1)
  where
    by : (t s : Bool) → test w ≡ t → is_wait_of n w ≡ s → first_of n (filter test ws) ≡ kept_by test (first_of n ws) → first_of n (cond t (w ∷ filter test ws) (filter test ws)) ≡ kept_by test (cond s (Some w) (first_of n ws))
    by true true e f rest = rw (f, e) refl
    by true false e f rest = rw f rest
    by false true e f rest =
        let none : first_of n ws ≡ None = subst (λ (k : ℕ). first_of k ws ≡ None) (equal_is w.ticket.number n f) apart.0 in
        rw e (find_stays_none (is_wait_of n) test ws none)
    by false false e f rest = rest

apart_filtered : (test : OpenWait → Bool) (ws : List OpenWait) → AreWaitsApart ws → AreWaitsApart (filter test ws)
apart_filtered test [] apart = tt
apart_filtered test (w ∷ ws) apart = by (test w) (apart_filtered test ws apart.1)
  where
    by : (t : Bool) → AreWaitsApart (filter test ws) → AreWaitsApart (cond t (w ∷ filter test ws) (filter test ws))
    by true rest = (find_stays_none (is_wait_of w.ticket.number) test ws apart.0, rest)
    by false rest = rest

apart_pushed : (ws : List OpenWait) (w : OpenWait) → AreWaitsApart ws → first_of w.ticket.number ws ≡ None → AreWaitsApart (ws ++ w ∷ [])
apart_pushed [] w apart none = (refl, tt)
apart_pushed (v ∷ ws) w apart none = by (is_wait_of w.ticket.number v) refl none (λ e. apart_pushed ws w apart.1 e)
  where
    by : (s : Bool) → is_wait_of w.ticket.number v ≡ s → cond s (Some v) (first_of w.ticket.number ws) ≡ None → (first_of w.ticket.number ws ≡ None → AreWaitsApart (ws ++ w ∷ [])) → AreWaitsApart (v ∷ ws ++ w ∷ [])
    by true f e rest = absurd (cc)
    by false f e rest = (find_behind (is_wait_of v.ticket.number) ws (w ∷ []) apart.0 ∙ rw (other_turned v.ticket.number w.ticket.number f) refl, rest e)

first_pushed : (ws : List OpenWait) (w : OpenWait) (n : ℕ) → first_of w.ticket.number ws ≡ None → first_of n (ws ++ w ∷ []) ≡ cond (nat_eq n w.ticket.number) (Some w) (first_of n ws)
first_pushed ws w n none = by (nat_eq n w.ticket.number) refl
  where
    by : (s : Bool) → nat_eq n w.ticket.number ≡ s → first_of n (ws ++ w ∷ []) ≡ cond s (Some w) (first_of n ws)
    by true f =
        let same = equal_is n w.ticket.number f in
        find_behind (is_wait_of n) ws (w ∷ []) (ap (λ (k : ℕ). first_of k ws) same ∙ none) ∙ rw (same, equal_itself w.ticket.number) refl
    by false f = find_before (is_wait_of n) ws (w ∷ []) (rw (other_turned n w.ticket.number f) refl)

-- the first wait with a ticket is that of its number, if it has the ticket
by_ticket : (ws : List OpenWait) (t : Wait) → AreWaitsApart ws → since_if t (first_of t.number ws) ≡ since_of ws t
by_ticket [] t apart = refl
by_ticket (w ∷ ws) t apart = by (is_wait_of t.number w) (same_wait w.ticket t) refl refl (by_ticket ws t apart.1)
  where
    by : (s k : Bool) → is_wait_of t.number w ≡ s → same_wait w.ticket t ≡ k → since_if t (first_of t.number ws) ≡ since_of ws t → since_if t (cond s (Some w) (first_of t.number ws)) ≡ option_map (λ (v : OpenWait). v.since) (cond k (Some w) (find (λ v. same_wait v.ticket t) ws))
    by true true f g rest = rw g refl
    by true false f g rest =
        let none : first_of t.number ws ≡ None = subst (λ (k : ℕ). first_of k ws ≡ None) (equal_is w.ticket.number t.number f) apart.0 in
        let left : since_if t (Some w) ≡ None = rw g refl in
        let right : since_if t (first_of t.number ws) ≡ None = rw none refl in
        left ∙ (sym right ∙ rest)
    by false true f g rest = absurd (false≢true (sym f ∙ rw (same_ticket w.ticket t g) (equal_itself t.number)))
    by false false f g rest = rest

-- ---- the map

-- what a search for a number gives stays the same if the kept ones are the same
filtered : (test : OpenWait → Bool) (m n : Pending) (ws : List OpenWait) → ((k : ℕ) → wait_at n k ≡ kept_by test (wait_at m k)) → HasWaits m ws → HasWaits n (filter test ws)
filtered test m n ws kept h = record {
  apart = apart_filtered test ws h.apart;
  found = λ k. kept k ∙ (ap (kept_by test) (h.found k) ∙ sym (first_filtered test k ws h.apart));
}

-- the wait of a number is taken out
pub removed : (old new : Pending) (n : ℕ) → UpdatesBy nat_cmp (nat_cmp n) old new None → ChangesWaits (without_mover (Some n)) old new
removed old new n u ws h = filtered (λ w. not (nat_eq w.ticket.number n)) old new ws (λ k. u.0 k ∙ rw (at_is n k) (by k (wait_at old k) (nat_eq k n) refl refl)) h
  where
    by : (k : ℕ) (o : Option OpenWait) (s : Bool) → wait_at old k ≡ o → nat_eq k n ≡ s → cond s None o ≡ kept_by (λ w. not (nat_eq w.ticket.number n)) o
    by k None true e f = refl
    by k None false e f = refl
    by k (Some w) true e f = rw (first_has_number k ws w (sym (h.found k) ∙ e), f) refl
    by k (Some w) false e f = rw (first_has_number k ws w (sym (h.found k) ∙ e), f) refl

let_alone : (t x : Wait) → is_let_through (t ∷ []) x ≡ same_wait x t
let_alone t x = grind (arith, nat_tests)

same_number : (a b : Wait) → same_wait a b ≡ true → a.number ≡ b.number
same_number a b e = ap (λ (u : Wait). u.number) (same_ticket a b e)

-- the wait with a ticket is taken out, and there was one
pub ticket_dropped : (old new : Pending) (t : Wait) → is_some (since_at old t) ≡ true → UpdatesBy nat_cmp (nat_cmp t.number) old new None → ChangesWaits (without_ended (t ∷ [])) old new
ticket_dropped old new t some u ws h =
    filtered (λ w. not (is_let_through (t ∷ []) w.ticket)) old new ws (λ k. u.0 k ∙ rw (at_is t.number k) (by k (wait_at old k) (nat_eq k t.number) refl refl)) h
  where
    here : (w : OpenWait) → is_some (since_if t (Some w)) ≡ true → same_wait w.ticket t ≡ true
    here w e = inner (same_wait w.ticket t) refl e
      where
        inner : (b : Bool) → same_wait w.ticket t ≡ b → is_some (cond b (Some w.since) None) ≡ true → same_wait w.ticket t ≡ true
        inner true f e = f
        inner false f e = absurd (false≢true e)

    apart : (k : ℕ) (w : OpenWait) → w.ticket.number ≡ k → nat_eq k t.number ≡ false → same_wait w.ticket t ≡ false
    apart k w number other = inner (same_wait w.ticket t) refl
      where
        inner : (b : Bool) → same_wait w.ticket t ≡ b → same_wait w.ticket t ≡ false
        inner true f = absurd (false≢true (sym other ∙ rw (sym number ∙ same_number w.ticket t f) (equal_itself t.number)))
        inner false f = f

    by : (k : ℕ) (o : Option OpenWait) (s : Bool) → wait_at old k ≡ o → nat_eq k t.number ≡ s → cond s None o ≡ kept_by (λ w. not (is_let_through (t ∷ []) w.ticket)) o
    by k None true e f = refl
    by k None false e f = refl
    by k (Some w) true e f =
        let is : wait_at old t.number ≡ Some w = subst (λ (j : ℕ). wait_at old j ≡ Some w) (equal_is k t.number f) e in
        rw (let_alone t w.ticket, here w (subst (λ (o : Option OpenWait). is_some (since_if t o) ≡ true) is some)) refl
    by k (Some w) false e f = rw (let_alone t w.ticket, apart k w (first_has_number k ws w (sym (h.found k) ∙ e)) f) refl

-- no wait has the ticket
pub ticket_absent : (old : Pending) (t : Wait) → is_some (since_at old t) ≡ false → ChangesWaits (without_ended (t ∷ [])) old old
ticket_absent old t none ws h = filtered (λ w. not (is_let_through (t ∷ []) w.ticket)) old old ws (λ k. by k (wait_at old k) refl) h
  where
    by : (k : ℕ) (o : Option OpenWait) → wait_at old k ≡ o → o ≡ kept_by (λ w. not (is_let_through (t ∷ []) w.ticket)) o
    by k None e = refl
    by k (Some w) e = inner (same_wait w.ticket t) refl
      where
        inner : (b : Bool) → same_wait w.ticket t ≡ b → Some w ≡ kept_by (λ w. not (is_let_through (t ∷ []) w.ticket)) (Some w)
        inner true f =
            let number : k ≡ t.number = sym (first_has_number k ws w (sym (h.found k) ∙ e)) ∙ same_number w.ticket t f in
            let is : wait_at old t.number ≡ Some w = subst (λ (j : ℕ). wait_at old j ≡ Some w) number e in
            let since : is_some (since_if t (Some w)) ≡ true = rw f refl in
            absurd (false≢true (sym none ∙ (ap (λ (o : Option OpenWait). is_some (since_if t o)) is ∙ since)))
        inner false f = rw (let_alone t w.ticket, f) refl

pub since_is : (m : Pending) (t : Wait) (ws : List OpenWait) → HasWaits m ws → since_at m t ≡ since_of ws t
since_is m t ws h = ap (since_if t) (h.found t.number) ∙ by_ticket ws t h.apart

-- a wait is put in
pub put : (old new : Pending) (w : OpenWait) (ws : List OpenWait) → UpdatesBy nat_cmp (nat_cmp w.ticket.number) old new (Some w) → first_of w.ticket.number ws ≡ None → HasWaits old ws → HasWaits new (ws ++ w ∷ [])
put old new w ws u none h = record {
  apart = apart_pushed ws w h.apart none;
  found = λ k. u.0 k ∙ (rw (at_is w.ticket.number k) (ap (λ (o : Option OpenWait). cond (nat_eq k w.ticket.number) (Some w) o) (h.found k)) ∙ sym (first_pushed ws w k none));
}

-- ---- several tickets

all_left : (ws : List OpenWait) → without_ended [] ws ≡ ws
all_left [] = refl
all_left (w ∷ ws) = ap (λ (l : List OpenWait). w ∷ l) (all_left ws)

pub none_ended : (m : Pending) → ChangesWaits (without_ended []) m m
none_ended m ws h = subst (HasWaits m) (sym (all_left ws)) h

through_pushed : (ts : List Wait) (t x : Wait) (a b : Bool) → is_let_through ts x ≡ a → is_let_through (t ∷ []) x ≡ b → is_let_through (ts ++ t ∷ []) x ≡ cond a true b
through_pushed [] t x true b e f = absurd (false≢true e)
through_pushed [] t x false b e f = f
through_pushed (s ∷ ts) t x a b e f = by (same_wait s x) e (λ e. through_pushed ts t x a b e f)
  where
    by : (c : Bool) → c || is_let_through ts x ≡ a → (is_let_through ts x ≡ a → is_let_through (ts ++ t ∷ []) x ≡ cond a true b) → c || is_let_through (ts ++ t ∷ []) x ≡ cond a true b
    by true e rest = rw (← e) refl
    by false e rest = rest e

ended_twice : (ts : List Wait) (t : Wait) (ws : List OpenWait) → without_ended (t ∷ []) (without_ended ts ws) ≡ without_ended (ts ++ t ∷ []) ws
ended_twice ts t [] = refl
ended_twice ts t (w ∷ ws) = by (is_let_through ts w.ticket) (is_let_through (t ∷ []) w.ticket) refl refl (ended_twice ts t ws)
  where
    by : (a b : Bool) → is_let_through ts w.ticket ≡ a → is_let_through (t ∷ []) w.ticket ≡ b → without_ended (t ∷ []) (without_ended ts ws) ≡ without_ended (ts ++ t ∷ []) ws
        → without_ended (t ∷ []) (cond (not a) (w ∷ without_ended ts ws) (without_ended ts ws)) ≡ cond (not (is_let_through (ts ++ t ∷ []) w.ticket)) (w ∷ without_ended (ts ++ t ∷ []) ws) (without_ended (ts ++ t ∷ []) ws)
    by true b e f rest = rw (through_pushed ts t w.ticket true b e f) rest
    by false true e f rest = rw (through_pushed ts t w.ticket false true e f, f) rest
    by false false e f rest = rw (through_pushed ts t w.ticket false false e f, f) (ap (λ (l : List OpenWait). w ∷ l) rest)

pub one_more_ended : (old mid new : Pending) (ts : List Wait) (i : ℕ) (t : Wait) → take (i + 1) ts ≡ take i ts ++ t ∷ [] → ChangesWaits (without_ended (take i ts)) old mid → ChangesWaits (without_ended (t ∷ [])) mid new → ChangesWaits (without_ended (take (i + 1) ts)) old new
one_more_ended old mid new ts i t more before here ws h =
    subst (λ (l : List Wait). HasWaits new (without_ended l ws)) (sym more)
    (subst (HasWaits new) (ended_twice (take i ts) t ws) (here (without_ended (take i ts) ws) (before ws h)))

-- ---- the step that begins a wait

moved_away : (n : ℕ) (ws : List OpenWait) → first_of n (without_mover (Some n) ws) ≡ None
moved_away n ws = find_dropped (is_wait_of n) (λ w. not (nat_eq w.ticket.number n)) (λ w e. rw e refl) ws

pub no_mover : (mover : Option ℕ) (ts : List Wait) (ws : List OpenWait) → HaveNoMover mover (without_ended ts (without_mover mover ws))
no_mover None ts ws = tt
no_mover (Some n) ts ws = find_stays_none (is_wait_of n) (λ w. not (is_let_through ts w.ticket)) (without_mover (Some n) ws) (moved_away n ws)

-- a visit that is answered `wait`
pub begins : (old new : Pending) (call : Call) (reply : Reply) (index : ℕ) (ticket : Wait) (txn : Option ℕ) (ts : Timestamp) (access : Access) (longest : ℕ) → call ≡ Visit ticket txn ts access longest → is_must_wait reply ≡ true
    → UpdatesBy nat_cmp (nat_cmp ticket.number) old new (Some (record { ticket = ticket; since = index })) → (ws : List OpenWait) → HaveNoMover (mover_of call) ws → HasWaits old ws → HasWaits new (ws ++ begun_waits call reply index)
begins old new call reply index ticket txn ts access longest is waits u ws none h =
    subst (λ (k : Call). HaveNoMover (mover_of k) ws → HasWaits new (ws ++ begun_waits k reply index)) (sym is) (λ alone. rw waits (put old new (record { ticket = ticket; since = index }) ws u alone h)) none
