-- The events of a legal history name the holder of the lock, as the record does.
use Rattle.std.proofs.Common.{◌≡◌, ◌≢◌, ℕ, Bool, true, false, cond, List, [], ◌∷◌, ◌++◌, Option, Some, None, IsSome, refl, sym, ap, subst, ◌∙◌, arith, nat_eq, ◌⊎◌, inl, inr}
use Rattle.std.specs.Option.{option_map}
use Rattle.std.specs.declared.cmp.Ordering.{Ordering}
use Rattle.std.specs.declared.cmp.Ordering.TheVariants.{Less, Equal, Greater}
use Rattle.std.specs.Ordering.{nat_cmp, match_ordering}
use mathlib.Core.Bool.{true≢false}
use Rattle.std.proofs.lemmas.Bool.Decides.{nat_tests}
use Rattle.lt_ids.specs.declared.timestamp.Timestamp.{Timestamp}
use Rattle.lt_ids.specs.declared.request.Access.{Access}
use Rattle.lt_ids.specs.declared.request.Access.TheVariants.{Read, Write}
use Rattle.lt_ids.specs.Ids.{Wait, is_below}
use Rattle.lt_rules.specs.declared.queued.Holder.{Holder}
use Rattle.lt_rules.specs.declared.queued.QueuedRequest.{QueuedRequest}
use Rattle.lt_rules.specs.declared.call.Call.{Call}
use Rattle.lt_rules.specs.declared.call.Call.TheVariants.{Visit, Acquire, Update, Finish, Leave, Look}
use Rattle.lt_rules.specs.declared.call.Reply.TheVariants.{Passed, MustWait, TooLong, Other, Kept, Freed}
use Rattle.lt_rules.specs.Rules.{Record, empty, number_of, is_txn, Outcome, unchanged, acquire_from, update_from, finish_from, leave, free, raise_to, is_reserved_by, is_waiting, stop_reading, set_back}
use Rattle.lt_rules.specs.Visit.{visit, visit_lock, is_queued, pass, is_too_long, join_writers, wait_to_write, wait_to_read, displace}
use Rattle.lt_rules.specs.Laws.{stamp_by}
use Rattle.lt_rules.specs.Step.{Event, step, IsLegal, IsLegalFrom, record_after, stamp_after, stamp_from, stamp_of, Holds, later, IsBelowOthers}

-- a step of this record changes the stamp of T as the holder does
abbrev Tells : ℕ → Record → Call → Outcome → Type 0
Tells T r call o = stamp_by T o.after.holder ≡ stamp_after T (stamp_by T r.holder) call o.reply

same_either : {A : Type 0} (b : Bool) (x : A) → cond b x x ≡ x
same_either true x = refl
same_either false x = refl

raised_stamp : (T txn : ℕ) (h : Holder) (ts : Timestamp) → nat_eq h.txn txn ≡ true → is_below h.ts ts ≡ true → cond (nat_eq h.txn T) (Some ts) None ≡ cond (nat_eq txn T) (option_map (λ s. later s ts) (cond (nat_eq h.txn T) (Some h.ts) None)) (cond (nat_eq h.txn T) (Some h.ts) None)
raised_stamp T txn h ts own below = grind (arith, nat_tests)

-- the acquire of a held lock
acquire_held : (T : ℕ) (r : Record) (h : Holder) (txn : ℕ) (ts : Timestamp) → r.holder ≡ Some h → (own : Bool) → nat_eq h.txn txn ≡ own → (below : Bool) → is_below h.ts ts ≡ below →
    stamp_by T (cond own (cond below (raise_to r h ts) (unchanged r Kept)) (unchanged r Other)).after.holder
    ≡ stamp_after T (stamp_by T r.holder) (Acquire txn ts) (cond own (cond below (raise_to r h ts) (unchanged r Kept)) (unchanged r Other)).reply
acquire_held T r h txn ts e false own below b = sym (same_either (nat_eq txn T) _)
acquire_held T r h txn ts e true own false b = sym (same_either (nat_eq txn T) _)
acquire_held T r h txn ts e true own true b = rw e (raised_stamp T txn h ts own b)

acquire_tells : (T : ℕ) (r : Record) (txn : ℕ) (ts : Timestamp) (holder : Option Holder) → r.holder ≡ holder → Tells T r (Acquire txn ts) (acquire_from holder r (record { txn = txn; ts = ts }))
acquire_tells T r txn ts None e = rw e refl
acquire_tells T r txn ts (Some h) e = acquire_held T r h txn ts e (nat_eq h.txn txn) refl (is_below h.ts ts) refl

update_held : (T : ℕ) (r : Record) (h : Holder) (txn : ℕ) (ts : Timestamp) → r.holder ≡ Some h → (own : Bool) → nat_eq h.txn txn ≡ own → (below : Bool) → is_below h.ts ts ≡ below →
    stamp_by T (cond own (cond below (raise_to r h ts) (unchanged r Kept)) (unchanged r Other)).after.holder
    ≡ stamp_after T (stamp_by T r.holder) (Update txn ts) (cond own (cond below (raise_to r h ts) (unchanged r Kept)) (unchanged r Other)).reply
update_held T r h txn ts e false own below b = sym (same_either (nat_eq txn T) _)
update_held T r h txn ts e true own false b = sym (same_either (nat_eq txn T) _)
update_held T r h txn ts e true own true b = rw e (raised_stamp T txn h ts own b)

update_tells : (T : ℕ) (r : Record) (txn : ℕ) (ts : Timestamp) (holder : Option Holder) → r.holder ≡ holder → Tells T r (Update txn ts) (update_from holder r txn ts)
update_tells T r txn ts None e = sym (same_either (nat_eq txn T) _)
update_tells T r txn ts (Some h) e = update_held T r h txn ts e (nat_eq h.txn txn) refl (is_below h.ts ts) refl

freed_stamp : (T txn : ℕ) (h : Holder) → nat_eq h.txn txn ≡ true → None ≡ cond (nat_eq txn T) None (cond (nat_eq h.txn T) (Some h.ts) None)
freed_stamp T txn h own = grind (arith, nat_tests)

finish_held : (T : ℕ) (r : Record) (h : Holder) (txn : ℕ) → r.holder ≡ Some h → (own : Bool) → nat_eq h.txn txn ≡ own →
    stamp_by T (cond own (free (record r { holder = None }) Freed) (unchanged r Other)).after.holder
    ≡ stamp_after T (stamp_by T r.holder) (Finish txn) (cond own (free (record r { holder = None }) Freed) (unchanged r Other)).reply
finish_held T r h txn e false own = sym (same_either (nat_eq txn T) _)
finish_held T r h txn e true own = rw e (freed_stamp T txn h own)

finish_tells : (T : ℕ) (r : Record) (txn : ℕ) (holder : Option Holder) → r.holder ≡ holder → Tells T r (Finish txn) (finish_from holder r txn)
finish_tells T r txn None e = sym (same_either (nat_eq txn T) _)
finish_tells T r txn (Some h) e = finish_held T r h txn e (nat_eq h.txn txn) refl

-- a property of both outcomes holds of the one that a test picks
pub one_of_two : {A : Type 0} (P : A → Type 0) (b : Bool) (o p : A) → P o → P p → P (cond b o p)
one_of_two P true o p x y = x
one_of_two P false o p x y = y

pub either : (P : Outcome → Type 0) (b : Bool) (o p : Outcome) → P o → P p → P (cond b o p)
either P b o p x y = one_of_two P b o p x y

-- the same of three outcomes, one of which a comparison picks
pub one_of_three : (P : Outcome → Type 0) (c : Ordering) (o p q : Outcome) → P o → P p → P q → P (match_ordering c o p q)
one_of_three P Less o p q x y z = x
one_of_three P Equal o p q x y z = y
one_of_three P Greater o p q x y z = z

-- the outcome for a request that would join the writers: it gets `TooLong`, or it waits
pub joined : (P : Outcome → Type 0) (r : Record) (q : QueuedRequest) (longest : ℕ) → P (unchanged r TooLong) → P (wait_to_write r q) → P (join_writers r q longest)
joined P r q longest x y = either P (is_too_long r.writers q longest) _ _ x y

-- the outcome for a request with a smaller number than the reservation's: it takes over the reservation, or it
-- passes
pub displaced : (txn : Option ℕ) (P : Outcome → Type 0) (r : Record) (s q : QueuedRequest) → P (pass r) → P (pass (record r { reservation = Some q; writers = set_back (Some s) ++ r.writers })) → P (displace txn r s q)
displaced None P r s q x y = x
displaced (Some t) P r s q x y = y

-- a visit keeps the holder
pub lock_keeps : (holder : Option Holder) (reservation : Option QueuedRequest) (r : Record) (q : QueuedRequest) (longest : ℕ) (access : Access) → (visit_lock holder reservation r q longest access).after.holder ≡ r.holder
lock_keeps None None r q longest access = refl
lock_keeps None (Some s) r q longest Read = refl
lock_keeps None (Some s) r q longest Write = one_of_three (λ o. o.after.holder ≡ r.holder) (nat_cmp (number_of q) (number_of s)) _ _ _ (displaced q.txn (λ o. o.after.holder ≡ r.holder) r s q refl refl) refl (joined (λ o. o.after.holder ≡ r.holder) r q longest refl refl)
lock_keeps (Some h) s r q longest Read =
    either (λ o. o.after.holder ≡ r.holder) (is_txn q.txn h.txn) _ _ refl
    (either (λ o. o.after.holder ≡ r.holder) (is_below q.ts h.ts) _ _ refl
    (either (λ o. o.after.holder ≡ r.holder) (is_queued r.writers (number_of q)) _ _ refl refl))
lock_keeps (Some h) s r q longest Write = either (λ o. o.after.holder ≡ r.holder) (is_txn q.txn h.txn) _ _ refl (joined (λ o. o.after.holder ≡ r.holder) r q longest refl refl)

pub visit_keeps : (r : Record) (q : QueuedRequest) (longest : ℕ) (access : Access) → (visit r q longest access).after.holder ≡ r.holder
visit_keeps r q longest access = lock_keeps r.holder r.reservation (stop_reading r (number_of q)) q longest access

-- a leave keeps the holder
pub leave_keeps : (r : Record) (n : ℕ) → (leave r n).after.holder ≡ r.holder
leave_keeps r n =
    either (λ o. o.after.holder ≡ r.holder) (is_reserved_by r.reservation n) _ _ refl
    (either (λ o. o.after.holder ≡ r.holder) (is_waiting r n) _ _ refl refl)

pub step_tells : (T : ℕ) (r : Record) (pass : ℕ) (call : Call) → Tells T r call (step r pass call)
step_tells T r pass (Visit ticket txn ts access longest) = ap (stamp_by T) (visit_keeps r _ longest access)
step_tells T r pass (Acquire txn ts) = acquire_tells T r txn ts r.holder refl
step_tells T r pass (Update txn ts) = update_tells T r txn ts r.holder refl
step_tells T r pass (Finish txn) = finish_tells T r txn r.holder refl
step_tells T r pass (Leave number) = ap (stamp_by T) (leave_keeps r number)
step_tells T r pass (Look number) = refl

-- the same from any record
pub history_tells : (T : ℕ) (r : Record) (past rest : List Event) → IsLegalFrom r (past ++ rest) → stamp_from T (stamp_by T r.holder) past ≡ stamp_by T (record_after r past).holder
history_tells T r [] rest legal = refl
history_tells T r (e ∷ past) rest legal =
    let o = step r e.pass e.call in
    let told : stamp_after T (stamp_by T r.holder) e.call e.reply ≡ stamp_by T o.after.holder = ap (stamp_after T (stamp_by T r.holder) e.call) legal.0 ∙ sym (step_tells T r e.pass e.call) in
    ap (λ s. stamp_from T s past) told ∙ history_tells T o.after past rest legal.2

-- the rest of a legal history is legal from there
pub rest_legal : (r : Record) (past rest : List Event) → IsLegalFrom r (past ++ rest) → IsLegalFrom (record_after r past) rest
rest_legal r [] rest legal = legal
rest_legal r (e ∷ past) rest legal = rest_legal (step r e.pass e.call).after past rest legal.2

pub picked : {A : Type 0} (b : Bool) (x : A) → IsSome (cond b (Some x) None) → b ≡ true
picked true x some = refl
picked false x some = absurd (true≢false (sym some))

pub held_is : (T : ℕ) (holder : Option Holder) → IsSome (stamp_by T holder) → (h : Holder) × (holder ≡ Some h) × (h.txn ≡ T)
held_is T None some = absurd (true≢false (sym some))
held_is T (Some h) some = (h, refl, let own : nat_eq h.txn T ≡ true = picked (nat_eq h.txn T) h.ts some in grind (arith, nat_tests))

pub one_holder : (past rest : List Event) (T U : ℕ) → IsLegal (past ++ rest) → Holds past T → Holds past U → T ≡ U
one_holder past rest T U legal t u =
    let a = held_is T (record_after empty past).holder (subst IsSome (history_tells T empty past rest legal) t) in
    let b = held_is U (record_after empty past).holder (subst IsSome (history_tells U empty past rest legal) u) in
    let same : a.0 ≡ b.0 = cc (a.1, b.1) in
    sym a.2 ∙ ap (λ h. h.txn) same ∙ b.2

-- a read of q passes at this holder
abbrev PassesRead : Option Holder → QueuedRequest → Type 0
PassesRead holder q = (T : ℕ) (stamp : Timestamp) → q.txn ≢ Some T → stamp_by T holder ≡ Some stamp → is_below q.ts stamp ≡ true

-- the transaction of a request that passes the test
pub is_own : (txn : Option ℕ) (T : ℕ) → is_txn txn T ≡ true → txn ≡ Some T
is_own None T e = absurd (true≢false (sym e))
is_own (Some t) T e = let same : t ≡ T = grind (arith, nat_tests) in ap Some same

pub is_other : (txn : Option ℕ) (T : ℕ) → is_txn txn T ≡ false → txn ≢ Some T
is_other None T e = λ same. cc
is_other (Some t) T e = λ same. let t≡T : t ≡ T = cc in let own : nat_eq t T ≡ true = grind (arith, nat_tests) in true≢false (sym own ∙ e)

own_passes : (h : Holder) (q : QueuedRequest) → is_txn q.txn h.txn ≡ true → PassesRead (Some h) q
own_passes h q own T stamp other e =
    let own' : nat_eq h.txn T ≡ true = picked (nat_eq h.txn T) h.ts (subst IsSome (sym e) refl) in
    let same : h.txn ≡ T = grind (arith, nat_tests) in
    absurd (other (is_own q.txn h.txn own ∙ ap Some same))

below_passes : (h : Holder) (q : QueuedRequest) → is_below q.ts h.ts ≡ true → PassesRead (Some h) q
below_passes h q below T stamp other e =
    let own : nat_eq h.txn T ≡ true = picked (nat_eq h.txn T) h.ts (subst IsSome (sym e) refl) in
    let same : Some h.ts ≡ Some stamp = rw own at e in
    let at : h.ts ≡ stamp = cc in
    rw (← at) below

not_below_waits : (h : Holder) (q : QueuedRequest) → is_txn q.txn h.txn ≡ false → is_below q.ts h.ts ≡ false → PassesRead (Some h) q → ⊥
not_below_waits h q other above passes =
    let differs : q.txn ≢ Some h.txn = is_other q.txn h.txn other in
    let self : nat_eq h.txn h.txn ≡ true = grind (arith, nat_tests) in
    true≢false (sym (passes h.txn h.ts differs (rw self refl)) ∙ above)

-- the reply to a read, according to the holder
abbrev ReadAnswer : Option Holder → QueuedRequest → Outcome → Type 0
ReadAnswer holder q o = ((o.reply ≡ Passed) × PassesRead holder q) ⊎ ((o.reply ≡ MustWait) × (PassesRead holder q → ⊥))

held_answer : (h : Holder) (r : Record) (q : QueuedRequest) (own : Bool) → is_txn q.txn h.txn ≡ own → (below : Bool) → is_below q.ts h.ts ≡ below →
    ReadAnswer (Some h) q (cond own (pass r) (cond below (pass r) (wait_to_read r q)))
held_answer h r q true own below b = inl (refl, own_passes h q own)
held_answer h r q false own true b = inl (refl, below_passes h q b)
held_answer h r q false own false b = inr (either (λ o. o.reply ≡ MustWait) (is_queued r.writers (number_of q)) _ _ refl refl, not_below_waits h q own b)

read_answer : (holder : Option Holder) (reservation : Option QueuedRequest) (r : Record) (q : QueuedRequest) (longest : ℕ) → ReadAnswer holder q (visit_lock holder reservation r q longest Read)
read_answer None None r q longest = inl (refl, λ T stamp other e. cc e)
read_answer None (Some s) r q longest = inl (refl, λ T stamp other e. cc e)
read_answer (Some h) s r q longest = held_answer h r q (is_txn q.txn h.txn) refl (is_below q.ts h.ts) refl

pub reads_pass : (past rest : List Event) (e : Event) (ticket : Wait) (txn : Option ℕ) (ts : Timestamp) (longest : ℕ) → IsLegal (past ++ e ∷ rest) → e.call ≡ Visit ticket txn ts Read longest →
    ((e.reply ≡ Passed) × IsBelowOthers past txn ts) ⊎ ((e.reply ≡ MustWait) × (IsBelowOthers past txn ts → ⊥))
reads_pass past rest e ticket txn ts longest legal call =
    let r = record_after empty past in
    let q : QueuedRequest = record { ticket = ticket; txn = txn; ts = ts; pass = e.pass } in
    let reply : e.reply ≡ (visit r q longest Read).reply = rw call at (rest_legal empty past (e ∷ rest) legal).0 in
    let told : (T : ℕ) → stamp_of T past ≡ stamp_by T r.holder = λ T. history_tells T empty past (e ∷ rest) legal in
    elim (read_answer r.holder r.reservation (stop_reading r (number_of q)) q longest) [
      | inl a ↦ inl (reply ∙ a.0, λ T stamp other is. a.1 T stamp other (sym (told T) ∙ is))
      | inr a ↦ inr (reply ∙ a.0, λ below. a.1 (λ T stamp other is. below T stamp other (told T ∙ is)))
    ]
