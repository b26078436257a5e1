-- Each open wait was begun at the latest key, and nothing has ended it since.
use Rattle.std.proofs.Common.{◌≡◌, ◌≢◌, ℕ, Bool, true, false, cond, not, nat_eq, fold, filter, List, [], ◌∷◌, ◌++◌, Option, Some, None, IfSome, slice_get, refl, sym, ap, ◌∙◌, subst, arith}
use Rattle.std.specs.List.{AllByRecursion}
use Rattle.std.proofs.lemmas.List.{append_assoc, append-nil}
use Rattle.std.proofs.lemmas.Slice.Eq.{bytes_eq-Decides}
use Rattle.std.proofs.lemmas.Bool.{false≢true}
use Rattle.std.proofs.lemmas.Bool.Decides.{nat_tests}
use Rattle.lt_rules.specs.declared.call.Call.{Call}
use Rattle.lt_rules.specs.declared.call.Call.TheVariants.{Visit, Acquire, Update, Finish, Leave, Look}
use Rattle.lt_trace_statistics.specs.declared.summary.HotKey.{HotKey}
use Rattle.lt_trace_statistics.specs.declared.waits.OpenWait.{OpenWait}
use Rattle.lt_trace_statistics.specs.Findings.{TracedStep, Findings, is_must_wait, mover_of, without_mover, is_let_through, without_ended, begun_waits, pending_at, pending_after, is_key_of, with_key, with_step, after_step, no_findings, findings_of}
use Rattle.lt_trace_statistics.specs.Laws.{LeavesOpen}

-- ---- what it means

-- A step of the key began the wait: a visit with its ticket and index that was answered `wait`. All later steps leave it
-- open.
pub record IsOpenSince (steps : List TracedStep) (key : List ℕ) (w : OpenWait) : Type 0 where
  pub before : List TracedStep
  pub began : TracedStep
  pub since : List TracedStep
  pub joined : steps ≡ before ++ began ∷ since
  pub at_key : began.key ≡ key
  pub begins : begun_waits began.call began.reply began.index ≡ w ∷ []
  pub left_open : AllByRecursion (LeavesOpen key w) since

-- Each open wait was begun at the latest key, and nothing has ended it since.
abbrev pub OpenWaitsAreOpen : Type 0
OpenWaitsAreOpen = (steps : List TracedStep) →
    IfSome (slice_get (findings_of steps).keys 0) (λ latest. AllByRecursion (IsOpenSince steps latest.key) (findings_of steps).pending)

-- ---- lists

all_of_filter : (P Q : OpenWait → Type 0) (test : OpenWait → Bool) → ((w : OpenWait) → P w → test w ≡ true → Q w) → (ws : List OpenWait) → AllByRecursion P ws → AllByRecursion Q (filter test ws)
all_of_filter P Q test step [] all = tt
all_of_filter P Q test step (w ∷ ws) all = by (test w) refl (all_of_filter P Q test step ws all.1)
  where
    by : (b : Bool) → test w ≡ b → AllByRecursion Q (filter test ws) → AllByRecursion Q (cond b (w ∷ filter test ws) (filter test ws))
    by true e rest = (step w all.0 e, rest)
    by false e rest = rest

all_of_map : (P Q : OpenWait → Type 0) → ((w : OpenWait) → P w → Q w) → (ws : List OpenWait) → AllByRecursion P ws → AllByRecursion Q ws
all_of_map P Q step [] all = tt
all_of_map P Q step (w ∷ ws) all = (step w all.0, all_of_map P Q step ws all.1)

all_of_append : (P : OpenWait → Type 0) (ws vs : List OpenWait) → AllByRecursion P ws → AllByRecursion P vs → AllByRecursion P (ws ++ vs)
all_of_append P [] vs all more = more
all_of_append P (w ∷ ws) vs all more = (all.0, all_of_append P ws vs all.1 more)

all_of_push : (P : TracedStep → Type 0) (xs : List TracedStep) (y : TracedStep) → AllByRecursion P xs → P y → AllByRecursion P (xs ++ y ∷ [])
all_of_push P [] y all here = (here, tt)
all_of_push P (x ∷ xs) y all here = (all.0, all_of_push P xs y all.1 here)

-- ---- one step

-- a wait that was open and that the step leaves open
stays_open : (steps : List TracedStep) (x : TracedStep) (w : OpenWait) → IsOpenSince steps x.key w → LeavesOpen x.key w x → IsOpenSince (steps ++ x ∷ []) x.key w
stays_open steps x w h left = record {
  before = h.before;
  began = h.began;
  since = h.since ++ x ∷ [];
  joined = ap (λ l. l ++ x ∷ []) h.joined ∙ append_assoc h.before (h.began ∷ h.since) (x ∷ []);
  at_key = h.at_key;
  begins = h.begins;
  left_open = all_of_push (LeavesOpen x.key w) h.since x h.left_open left;
}

pub not_true : (b : Bool) → not b ≡ true → b ≡ false
not_true true e = absurd (false≢true e)
not_true false e = refl

-- the waits that are not the mover's
pub not_moved : (P : OpenWait → Type 0) (mover : Option ℕ) (ws : List OpenWait) → AllByRecursion P ws → AllByRecursion (λ w. P w × (mover ≢ Some w.ticket.number)) (without_mover mover ws)
not_moved P None ws all = all_of_map P (λ w. P w × (None ≢ Some w.ticket.number)) (λ w p. (p, λ e. absurd (cc))) ws all
not_moved P (Some n) ws all =
    all_of_filter P (λ w. P w × (Some n ≢ Some w.ticket.number)) (λ w. not (nat_eq w.ticket.number n)) (λ w p e. (p, λ same. other w.ticket.number n (not_true (nat_eq w.ticket.number n) e) (cc))) ws all
  where
    other : (a b : ℕ) → nat_eq a b ≡ false → b ≡ a → ⊥
    other a b e same = grind (arith, nat_tests)

-- the waits of the key that a step leaves open
left_waits : (steps : List TracedStep) (x : TracedStep) (ws : List OpenWait) → AllByRecursion (IsOpenSince steps x.key) ws → AllByRecursion (IsOpenSince (steps ++ x ∷ []) x.key) (without_ended x.tickets (pending_at x ws))
left_waits steps x ws all =
    all_of_filter (λ w. IsOpenSince steps x.key w × (mover_of x.call ≢ Some w.ticket.number)) (IsOpenSince (steps ++ x ∷ []) x.key) (λ w. not (is_let_through x.tickets w.ticket))
    (λ w p e. stays_open steps x w p.0 (record { at_key = refl; not_moved = p.1; not_let = not_true (is_let_through x.tickets w.ticket) e })) (pending_at x ws) (not_moved (IsOpenSince steps x.key) (mover_of x.call) ws all)

-- the wait that a step begins
new_wait : (steps : List TracedStep) (x : TracedStep) (w : OpenWait) → begun_waits x.call x.reply x.index ≡ w ∷ [] → IsOpenSince (steps ++ x ∷ []) x.key w
new_wait steps x w begins = record { before = steps; began = x; since = []; joined = refl; at_key = refl; begins = begins; left_open = tt }

new_waits : (steps : List TracedStep) (x : TracedStep) (call : Call) → call ≡ x.call → AllByRecursion (IsOpenSince (steps ++ x ∷ []) x.key) (begun_waits call x.reply x.index)
new_waits steps x (Visit ticket txn ts access longest) e = by (is_must_wait x.reply) refl
  where
    by : (b : Bool) → is_must_wait x.reply ≡ b → AllByRecursion (IsOpenSince (steps ++ x ∷ []) x.key) (cond b (record { ticket = ticket; since = x.index } ∷ []) [])
    by true waits = (new_wait steps x (record { ticket = ticket; since = x.index }) (rw (← e, waits) refl), tt)
    by false waits = tt
new_waits steps x (Acquire txn ts) e = tt
new_waits steps x (Update txn ts) e = tt
new_waits steps x (Finish txn) e = tt
new_waits steps x (Leave number) e = tt
new_waits steps x (Look number) e = tt

-- ---- the latest key

-- Each open wait is at this latest key, if there is one.
abbrev pub AreOpenAt : List TracedStep → Option HotKey → List OpenWait → Type 0
AreOpenAt steps latest ws = IfSome latest (λ hot. AllByRecursion (IsOpenSince steps hot.key) ws)

-- This is the latest key, and these waits are open there.
pub record EntersKey (steps : List TracedStep) (key : List ℕ) (f : Findings) : Type 0 where
  pub latest : HotKey
  pub is_latest : slice_get f.keys 0 ≡ Some latest
  pub at_key : latest.key ≡ key
  pub waits : AllByRecursion (IsOpenSince steps key) f.pending

enters_same : (steps : List TracedStep) (key : List ℕ) (f : Findings) (latest : Option HotKey) → slice_get f.keys 0 ≡ latest → is_key_of latest key ≡ true → AreOpenAt steps latest f.pending → EntersKey steps key f
enters_same steps key f None is same all = absurd (false≢true same)
enters_same steps key f (Some hot) is same all =
    let e : hot.key ≡ key = (bytes_eq-Decides hot.key key).0 same in
    record { latest = hot; is_latest = is; at_key = e; waits = subst (λ (k : List ℕ). AllByRecursion (IsOpenSince steps k) f.pending) e all }

pub enters : (steps : List TracedStep) (key : List ℕ) (f : Findings) → AreOpenAt steps (slice_get f.keys 0) f.pending → EntersKey steps key (with_key f key)
enters steps key f all = by (is_key_of (slice_get f.keys 0) key) refl
  where
    by : (b : Bool) → is_key_of (slice_get f.keys 0) key ≡ b → EntersKey steps key (cond b f (record f { keys = record { key = key; steps = 0; waits = 0 } ∷ f.keys; pending = [] }))
    by true e = enters_same steps key f (slice_get f.keys 0) refl e all
    by false e = record { latest = record { key = key; steps = 0; waits = 0 }; is_latest = refl; at_key = refl; waits = tt }

-- one step keeps it so
pub steps_on : (steps : List TracedStep) (x : TracedStep) (f : Findings) → EntersKey steps x.key f → AreOpenAt (steps ++ x ∷ []) (slice_get (with_step f x).keys 0) (with_step f x).pending
steps_on steps x f h =
    rw h.is_latest (subst (λ (k : List ℕ). AllByRecursion (IsOpenSince (steps ++ x ∷ []) k) (pending_after x f.pending)) (sym h.at_key)
    (all_of_append (IsOpenSince (steps ++ x ∷ []) x.key) (without_ended x.tickets (pending_at x f.pending)) (begun_waits x.call x.reply x.index) (left_waits steps x f.pending h.waits) (new_waits steps x x.call refl)))

all_steps : (done rest : List TracedStep) (f : Findings) → AreOpenAt done (slice_get f.keys 0) f.pending → AreOpenAt (done ++ rest) (slice_get (fold after_step f rest).keys 0) (fold after_step f rest).pending
all_steps done [] f all = rw (append-nil done) all
all_steps done (x ∷ rest) f all =
    rw (← append_assoc done (x ∷ []) rest) (all_steps (done ++ x ∷ []) rest (after_step f x) (steps_on done x (with_key f x.key) (enters done x.key f all)))

pub open_waits_are_open : OpenWaitsAreOpen
open_waits_are_open steps = all_steps [] steps no_findings tt
