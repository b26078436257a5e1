-- The longest wait is a wait that a step ended, and no such wait is longer.
use Rattle.std.proofs.Common.{◌≡◌, ◌≢◌, ℕ, zero, suc, ◌+◌, ◌-◌, ◌≤◌, Bool, true, false, cond, not, nat_eq, nat_lt, fold, filter, find, List, [], ◌∷◌, ◌++◌, Option, Some, None, IfSome, slice_get, refl, sym, ap, ◌∙◌, subst, arith}
use Rattle.std.specs.List.{AllByRecursion}
use Rattle.std.specs.Option.{option_map}
use Rattle.std.proofs.lemmas.List.{append_assoc, append-nil}
use Rattle.std.proofs.lemmas.List.Sums.{fold-append}
use Rattle.std.proofs.lemmas.Slice.Eq.{bytes_eq-Decides}
use Rattle.std.proofs.lemmas.Bool.{false≢true}
use Rattle.std.proofs.lemmas.Bool.Decides.{nat_tests}
use Rattle.lt_ids.specs.Ids.{Wait, same_wait}
use Rattle.lt_rules.specs.declared.call.Call.{Call}
use Rattle.lt_rules.specs.declared.call.Call.TheVariants.{Visit, Acquire, Update, Finish, Leave, Look}
use Rattle.lt_rules.specs.declared.call.Reply.{Reply}
use Rattle.lt_trace_statistics.specs.declared.summary.HotKey.{HotKey}
use Rattle.lt_trace_statistics.specs.declared.summary.LongestWait.{LongestWait}
use Rattle.lt_trace_statistics.specs.declared.waits.OpenWait.{OpenWait}
use Rattle.lt_trace_statistics.specs.Findings.{TracedStep, Findings, is_must_wait, mover_of, without_mover, is_let_through, without_ended, begun_waits, pending_at, pending_after, since_of, with_wait, longer_wait, with_ended, wait_len, wait_count, capped, is_key_of, with_key, with_step, after_step, no_findings, findings_of}
use Rattle.lt_trace_statistics.specs.Laws.{LeavesOpen, IsEndedWait, LongestWaits}
use Rattle.lt_trace_statistics.proofs.Longest.{no_longer_wait, with_key_keeps}
use Rattle.lt_trace_statistics.proofs.OpenWaits.{not_moved, enters, steps_on, AreOpenAt, EntersKey, IsOpenSince, open_waits_are_open}

-- ---- tickets

abbrev wait_with : ℕ → ℕ → Wait
wait_with number wait = record { number = number; wait = wait }

same_parts : (n m w v : ℕ) → n ≡ m → w ≡ v → wait_with n w ≡ wait_with m v
same_parts n m w v e f = rw (e, f) refl

-- equal tickets have the same parts
pub same_ticket : (a b : Wait) → same_wait a b ≡ true → a ≡ b
same_ticket a b e =
    let number : a.number ≡ b.number = grind (arith, nat_tests) in
    let wait : a.wait ≡ b.wait = grind (arith, nat_tests) in
    same_parts a.number b.number a.wait b.wait number wait

ticket_itself : (a : Wait) → same_wait a a ≡ true
ticket_itself a = grind (arith, nat_tests)

abbrev open_with : Wait → ℕ → OpenWait
open_with ticket since = record { ticket = ticket; since = since }

not_same : (a b : Wait) → (Some a.number ≢ Some b.number) → same_wait a b ≡ false
not_same a b other = by (same_wait a b) refl
  where
    by : (s : Bool) → same_wait a b ≡ s → s ≡ false
    by true e = absurd (other (ap (λ (u : Wait). Some u.number) (same_ticket a b e)))
    by false e = refl

apart_number : (a b : ℕ) → (b ≡ a → ⊥) → not (nat_eq a b) ≡ true
apart_number a b other = by (nat_eq a b) refl
  where
    by : (s : Bool) → nat_eq a b ≡ s → not s ≡ true
    by true e = let same : b ≡ a = grind (arith, nat_tests) in absurd (other same)
    by false e = refl

-- ---- a search

find_kept : (p test : OpenWait → Bool) → ((w : OpenWait) → p w ≡ true → test w ≡ true) → (ws : List OpenWait) → find p (filter test ws) ≡ find p ws
find_kept p test keeps [] = refl
find_kept p test keeps (w ∷ ws) = by (test w) (p w) refl refl (find_kept p test keeps ws)
  where
    by : (t s : Bool) → test w ≡ t → p w ≡ s → find p (filter test ws) ≡ find p ws → find p (cond t (w ∷ filter test ws) (filter test ws)) ≡ cond s (Some w) (find p ws)
    by true s e f rest = rw (f, rest) refl
    by false true e f rest = absurd (false≢true (sym e ∙ keeps w f))
    by false false e f rest = rest

pub find_dropped : (p test : OpenWait → Bool) → ((w : OpenWait) → p w ≡ true → test w ≡ false) → (ws : List OpenWait) → find p (filter test ws) ≡ None
find_dropped p test drops [] = refl
find_dropped p test drops (w ∷ ws) = by (test w) (p w) refl refl (find_dropped p test drops ws)
  where
    by : (t s : Bool) → test w ≡ t → p w ≡ s → find p (filter test ws) ≡ None → find p (cond t (w ∷ filter test ws) (filter test ws)) ≡ None
    by true true e f rest = absurd (false≢true (sym (drops w f) ∙ e))
    by true false e f rest = rw f rest
    by false s e f rest = rest

pub find_stays_none : (p test : OpenWait → Bool) (ws : List OpenWait) → find p ws ≡ None → find p (filter test ws) ≡ None
find_stays_none p test [] e = refl
find_stays_none p test (w ∷ ws) e = by (test w) (p w) refl e (λ e. find_stays_none p test ws e)
  where
    by : (t s : Bool) → p w ≡ s → cond s (Some w) (find p ws) ≡ None → (find p ws ≡ None → find p (filter test ws) ≡ None) → find p (cond t (w ∷ filter test ws) (filter test ws)) ≡ None
    by t true f e rest = absurd (cc)
    by true false f e rest = rw f (rest e)
    by false false f e rest = rest e

pub find_before : (p : OpenWait → Bool) (ws vs : List OpenWait) → find p vs ≡ None → find p (ws ++ vs) ≡ find p ws
find_before p [] vs e = e
find_before p (w ∷ ws) vs e = ap (λ (o : Option OpenWait). cond (p w) (Some w) o) (find_before p ws vs e)

pub find_behind : (p : OpenWait → Bool) (ws vs : List OpenWait) → find p ws ≡ None → find p (ws ++ vs) ≡ find p vs
find_behind p [] vs e = refl
find_behind p (w ∷ ws) vs e = by (p w) e (λ e. find_behind p ws vs e)
  where
    by : (s : Bool) → cond s (Some w) (find p ws) ≡ None → (find p ws ≡ None → find p (ws ++ vs) ≡ find p vs) → cond s (Some w) (find p (ws ++ vs)) ≡ find p vs
    by true e rest = absurd (cc)
    by false e rest = rest e

find_has : (P : OpenWait → Type 0) (p : OpenWait → Bool) (ws : List OpenWait) (v : OpenWait) → find p ws ≡ Some v → AllByRecursion P ws → P v × (p v ≡ true)
find_has P p [] v e all = absurd (cc)
find_has P p (w ∷ ws) v e all = by (p w) refl e (λ e. find_has P p ws v e all.1)
  where
    by : (s : Bool) → p w ≡ s → cond s (Some w) (find p ws) ≡ Some v → (find p ws ≡ Some v → P v × (p v ≡ true)) → P v × (p v ≡ true)
    by true f e rest = let same : w ≡ v = cc in subst (λ (u : OpenWait). P u × (p u ≡ true)) same (all.0, f)
    by false f e rest = rest e

-- ---- an open wait

kept_mover : (mover : Option ℕ) (t : Wait) (ws : List OpenWait) → mover ≢ Some t.number → find (λ w. same_wait w.ticket t) (without_mover mover ws) ≡ find (λ w. same_wait w.ticket t) ws
kept_mover None t ws other = refl
kept_mover (Some n) t ws other =
    find_kept (λ w. same_wait w.ticket t) (λ w. not (nat_eq w.ticket.number n)) (λ w same. apart_number w.ticket.number n (λ e. other (ap (λ (k : ℕ). Some k) (e ∙ ap (λ (u : Wait). u.number) (same_ticket w.ticket t same))))) ws

begun_none : (call : Call) (reply : Reply) (index : ℕ) (t : Wait) → mover_of call ≢ Some t.number → find (λ w. same_wait w.ticket t) (begun_waits call reply index) ≡ None
begun_none (Visit ticket txn ts access longest) reply index t other =
    elim (is_must_wait reply) as (λ b. find (λ w. same_wait w.ticket t) (cond b (open_with ticket index ∷ []) []) ≡ None) [
      | true ↦ rw (not_same ticket t other) refl
      | false ↦ refl
    ]
begun_none (Acquire txn ts) reply index t other = refl
begun_none (Update txn ts) reply index t other = refl
begun_none (Finish txn) reply index t other = refl
begun_none (Leave number) reply index t other = refl
begun_none (Look number) reply index t other = refl

-- a step that leaves the wait open
kept_since : (x : TracedStep) (t : Wait) (ws : List OpenWait) → mover_of x.call ≢ Some t.number → is_let_through x.tickets t ≡ false → since_of (pending_after x ws) t ≡ since_of ws t
kept_since x t ws other spared =
    let p = λ (w : OpenWait). same_wait w.ticket t in
    let first : find p (pending_after x ws) ≡ find p (without_ended x.tickets (pending_at x ws)) = find_before p (without_ended x.tickets (pending_at x ws)) (begun_waits x.call x.reply x.index) (begun_none x.call x.reply x.index t other) in
    let second : find p (without_ended x.tickets (pending_at x ws)) ≡ find p (pending_at x ws) = find_kept p (λ w. not (is_let_through x.tickets w.ticket)) (λ w same. ap (λ (u : Wait). not (is_let_through x.tickets u)) (same_ticket w.ticket t same) ∙ ap not spared) (pending_at x ws) in
    ap (option_map (λ (w : OpenWait). w.since)) (first ∙ second ∙ kept_mover (mover_of x.call) t ws other)

begun_mover : (call : Call) (reply : Reply) (index : ℕ) (w : OpenWait) → begun_waits call reply index ≡ w ∷ [] → mover_of call ≡ Some w.ticket.number
begun_mover (Visit ticket txn ts access longest) reply index w e = by (is_must_wait reply) e
  where
    by : (b : Bool) → cond b (open_with ticket index ∷ []) [] ≡ w ∷ [] → Some ticket.number ≡ Some w.ticket.number
    by true e = let same : open_with ticket index ≡ w = cc in ap (λ (v : OpenWait). Some v.ticket.number) same
    by false e = absurd (cc)
begun_mover (Acquire txn ts) reply index w e = absurd (cc)
begun_mover (Update txn ts) reply index w e = absurd (cc)
begun_mover (Finish txn) reply index w e = absurd (cc)
begun_mover (Leave number) reply index w e = absurd (cc)
begun_mover (Look number) reply index w e = absurd (cc)

equal_number : (a b : ℕ) → a ≡ b → not (nat_eq a b) ≡ false
equal_number a b e = grind (arith, nat_tests)

-- a step that begins the wait
begun_since : (x : TracedStep) (w : OpenWait) (ws : List OpenWait) → begun_waits x.call x.reply x.index ≡ w ∷ [] → since_of (pending_after x ws) w.ticket ≡ Some w.since
begun_since x w ws begins =
    let p = λ (v : OpenWait). same_wait v.ticket w.ticket in
    let moved : find p (without_mover (Some w.ticket.number) ws) ≡ None = find_dropped p (λ v. not (nat_eq v.ticket.number w.ticket.number)) (λ v same. equal_number v.ticket.number w.ticket.number (ap (λ (u : Wait). u.number) (same_ticket v.ticket w.ticket same))) ws in
    let mover : mover_of x.call ≡ Some w.ticket.number = begun_mover x.call x.reply x.index w begins in
    let gone : find p (pending_at x ws) ≡ None = ap (λ (m : Option ℕ). find p (without_mover m ws)) mover ∙ moved in
    let left : find p (without_ended x.tickets (pending_at x ws)) ≡ None = find_stays_none p (λ v. not (is_let_through x.tickets v.ticket)) (pending_at x ws) gone in
    let here : find p (w ∷ []) ≡ Some w = rw (ticket_itself w.ticket) refl in
    ap (option_map (λ (v : OpenWait). v.since)) (find_behind p (without_ended x.tickets (pending_at x ws)) (begun_waits x.call x.reply x.index) left ∙ ap (find p) begins ∙ here)

-- The findings have this open wait at their latest key.
record HasOpen (key : List ℕ) (t : Wait) (since : ℕ) (f : Findings) : Type 0 where
  latest : HotKey
  is_latest : slice_get f.keys 0 ≡ Some latest
  at_key : latest.key ≡ key
  opened : since_of f.pending t ≡ Some since

has_begun : (before : List TracedStep) (began : TracedStep) (w : OpenWait) → begun_waits began.call began.reply began.index ≡ w ∷ [] → HasOpen began.key w.ticket w.since (after_step (findings_of before) began)
has_begun before began w begins =
    let f = with_key (findings_of before) began.key in
    let h = enters before began.key (findings_of before) (open_waits_are_open before) in
    record {
      latest = record { key = h.latest.key; steps = capped (h.latest.steps + 1); waits = capped (h.latest.waits + wait_count began.reply) };
      is_latest = rw h.is_latest refl;
      at_key = h.at_key;
      opened = begun_since began w f.pending begins;
    }

same_key_kept : (f : Findings) (key : List ℕ) (latest : HotKey) → slice_get f.keys 0 ≡ Some latest → latest.key ≡ key → with_key f key ≡ f
same_key_kept f key latest is at =
    let same : is_key_of (slice_get f.keys 0) key ≡ true = rw is ((bytes_eq-Decides latest.key key).1 at) in
    rw same refl

keeps_open : (key : List ℕ) (w : OpenWait) (f : Findings) (x : TracedStep) → HasOpen key w.ticket w.since f → LeavesOpen key w x → HasOpen key w.ticket w.since (after_step f x)
keeps_open key w f x h left =
    let same : with_key f x.key ≡ f = same_key_kept f x.key h.latest h.is_latest (h.at_key ∙ sym left.at_key) in
    subst (λ (g : Findings). HasOpen key w.ticket w.since (with_step g x)) (sym same) (record {
      latest = record { key = h.latest.key; steps = capped (h.latest.steps + 1); waits = capped (h.latest.waits + wait_count x.reply) };
      is_latest = rw h.is_latest refl;
      at_key = h.at_key;
      opened = kept_since x w.ticket f.pending left.not_moved left.not_let ∙ h.opened;
    })

all_keep_open : (key : List ℕ) (w : OpenWait) (f : Findings) (xs : List TracedStep) → HasOpen key w.ticket w.since f → AllByRecursion (LeavesOpen key w) xs → HasOpen key w.ticket w.since (fold after_step f xs)
all_keep_open key w f [] h all = h
all_keep_open key w f (x ∷ xs) h all = all_keep_open key w (after_step f x) xs (keeps_open key w f x h all.0) all.1

-- no wait that a step ended is longer
greatest : (steps : List TracedStep) (w : LongestWait) → IsEndedWait steps w → w.to - w.from ≤ wait_len (findings_of steps).wait
greatest steps w h =
    let opened = open_with w.ticket w.from in
    let past = h.before ++ h.began ∷ h.since in
    let begun = subst (λ (k : List ℕ). HasOpen k w.ticket w.from (after_step (findings_of h.before) h.began)) h.at_key (has_begun h.before h.began opened h.begins) in
    let kept = all_keep_open w.key opened (after_step (findings_of h.before) h.began) h.since begun h.left_open in
    let there : HasOpen w.key w.ticket w.from (findings_of past) = subst (HasOpen w.key w.ticket w.from) (sym (fold-append after_step no_findings h.before (h.began ∷ h.since))) kept in
    let same : with_key (findings_of past) h.ended.key ≡ findings_of past = same_key_kept (findings_of past) h.ended.key there.latest there.is_latest (there.at_key ∙ sym h.ended_at_key) in
    let open_there : since_of (pending_at h.ended (findings_of past).pending) w.ticket ≡ Some w.from = ap (option_map (λ (v : OpenWait). v.since)) (kept_mover (mover_of h.ended.call) w.ticket (findings_of past).pending h.not_moved) ∙ there.opened in
    let open_here : since_of (pending_at h.ended (with_key (findings_of past) h.ended.key).pending) w.ticket ≡ Some w.from = ap (λ (f : Findings). since_of (pending_at h.ended f.pending) w.ticket) same ∙ open_there in
    let bound = no_longer_wait past h.after h.ended h.place w.ticket w.from h.is_let open_here in
    rw (h.joined, ← h.index) bound

-- ---- the longest wait is a wait that a step ended

one_more_step : (steps : List TracedStep) (x : TracedStep) (w : LongestWait) → IsEndedWait steps w → IsEndedWait (steps ++ x ∷ []) w
one_more_step steps x w h = record {
  before = h.before;
  began = h.began;
  since = h.since;
  ended = h.ended;
  after = h.after ++ x ∷ [];
  place = h.place;
  joined = ap (λ l. l ++ x ∷ []) h.joined ∙ append_assoc (h.before ++ h.began ∷ h.since) (h.ended ∷ h.after) (x ∷ []);
  at_key = h.at_key;
  begins = h.begins;
  left_open = h.left_open;
  ended_at_key = h.ended_at_key;
  not_moved = h.not_moved;
  is_let = h.is_let;
  index = h.index;
}

if_some_more : (steps : List TracedStep) (x : TracedStep) (o : Option LongestWait) → IfSome o (IsEndedWait steps) → IfSome o (IsEndedWait (steps ++ x ∷ []))
if_some_more steps x None h = h
if_some_more steps x (Some w) h = one_more_step steps x w h

-- an open wait that the step ends
ends_here : (steps : List TracedStep) (x : TracedStep) (v : OpenWait) (t : Wait) (place : ℕ) → IsOpenSince steps x.key v → (mover_of x.call ≢ Some v.ticket.number) → v.ticket ≡ t → slice_get x.tickets place ≡ Some t → IsEndedWait (steps ++ x ∷ []) (record { key = x.key; ticket = t; from = v.since; to = x.index })
ends_here steps x v t place h other same at = record {
  before = h.before;
  began = h.began;
  since = h.since;
  ended = x;
  after = [];
  place = place;
  joined = ap (λ l. l ++ x ∷ []) h.joined;
  at_key = h.at_key;
  begins = h.begins ∙ ap (λ (u : Wait). open_with u v.since ∷ []) same;
  left_open = subst (λ (u : Wait). AllByRecursion (LeavesOpen x.key (open_with u v.since)) h.since) same h.left_open;
  ended_at_key = refl;
  not_moved = subst (λ (u : Wait). mover_of x.call ≢ Some u.number) same other;
  is_let = at;
  index = refl;
}

ticket_ends : (steps : List TracedStep) (x : TracedStep) (ws : List OpenWait) (longest : Option LongestWait) (t : Wait) (place : ℕ) → AllByRecursion (IsOpenSince steps x.key) ws → slice_get x.tickets place ≡ Some t → IfSome longest (IsEndedWait (steps ++ x ∷ [])) → IfSome (with_ended (pending_at x ws) x.key x.index longest t) (IsEndedWait (steps ++ x ∷ []))
ticket_ends steps x ws longest t place all at before = by (find (λ w. same_wait w.ticket t) (pending_at x ws)) refl
  where
    longer : (v : OpenWait) → IsEndedWait (steps ++ x ∷ []) (record { key = x.key; ticket = t; from = v.since; to = x.index }) → IfSome (with_wait longest (record { key = x.key; ticket = t; from = v.since; to = x.index })) (IsEndedWait (steps ++ x ∷ []))
    longer v h = elim (nat_lt (wait_len longest) (x.index - v.since)) as (λ b. IfSome (cond b (Some (record { key = x.key; ticket = t; from = v.since; to = x.index })) longest) (IsEndedWait (steps ++ x ∷ []))) [
      | true ↦ h
      | false ↦ before
    ]

    by : (o : Option OpenWait) → find (λ w. same_wait w.ticket t) (pending_at x ws) ≡ o → IfSome (longer_wait longest (option_map (λ since. record { key = x.key; ticket = t; from = since; to = x.index }) (option_map (λ w. w.since) o))) (IsEndedWait (steps ++ x ∷ []))
    by None e = before
    by (Some v) e =
        let has = find_has (λ w. IsOpenSince steps x.key w × (mover_of x.call ≢ Some w.ticket.number)) (λ w. same_wait w.ticket t) (pending_at x ws) v e (not_moved (IsOpenSince steps x.key) (mover_of x.call) ws all) in
        longer v (ends_here steps x v t place has.0.0 has.0.1 (same_ticket v.ticket t has.1) at)

tickets_end : (steps : List TracedStep) (x : TracedStep) (ws : List OpenWait) (longest : Option LongestWait) (ts : List Wait) → AllByRecursion (IsOpenSince steps x.key) ws → AllByRecursion (λ t. (k : ℕ) × (slice_get x.tickets k ≡ Some t)) ts → IfSome longest (IsEndedWait (steps ++ x ∷ [])) → IfSome (fold (with_ended (pending_at x ws) x.key x.index) longest ts) (IsEndedWait (steps ++ x ∷ []))
tickets_end steps x ws longest [] all places before = before
tickets_end steps x ws longest (t ∷ ts) all places before =
    tickets_end steps x ws (with_ended (pending_at x ws) x.key x.index longest t) ts all places.1 (ticket_ends steps x ws longest t places.0.0 all places.0.1 before)

places_in : (ts all : List Wait) → ((k : ℕ) (t : Wait) → slice_get ts k ≡ Some t → (j : ℕ) × (slice_get all j ≡ Some t)) → AllByRecursion (λ t. (k : ℕ) × (slice_get all k ≡ Some t)) ts
places_in [] all shift = tt
places_in (t ∷ ts) all shift = (shift zero t refl, places_in ts all (λ k u e. shift (suc k) u e))

ended_on : (steps : List TracedStep) (x : TracedStep) (f : Findings) → EntersKey steps x.key (with_key f x.key) → IfSome f.wait (IsEndedWait steps) → IfSome (after_step f x).wait (IsEndedWait (steps ++ x ∷ []))
ended_on steps x f h before =
    tickets_end steps x (with_key f x.key).pending (with_key f x.key).wait x.tickets h.waits (places_in x.tickets x.tickets (λ k t e. (k, e)))
    (subst (λ (o : Option LongestWait). IfSome o (IsEndedWait (steps ++ x ∷ []))) (sym (with_key_keeps f x.key).1) (if_some_more steps x f.wait before))

all_ended : (done rest : List TracedStep) (f : Findings) → AreOpenAt done (slice_get f.keys 0) f.pending → IfSome f.wait (IsEndedWait done) → IfSome (fold after_step f rest).wait (IsEndedWait (done ++ rest))
all_ended done [] f opened before = rw (append-nil done) before
all_ended done (x ∷ rest) f opened before =
    let h = enters done x.key f opened in
    rw (← append_assoc done (x ∷ []) rest) (all_ended (done ++ x ∷ []) rest (after_step f x) (steps_on done x (with_key f x.key) h) (ended_on done x f h before))

pub longest_waits : LongestWaits
longest_waits steps = record { is_ended = all_ended [] steps no_findings tt tt; greatest = greatest steps }
