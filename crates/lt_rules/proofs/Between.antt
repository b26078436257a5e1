-- A lock that was taken is freed before it is taken again.
use Rattle.std.proofs.Common.{◌≡◌, ℕ, Bool, true, false, List, [], ◌∷◌, ◌++◌, ◌||◌, Option, Some, None, IsSome, refl, sym, ap, subst, ◌∙◌, nat_eq}
use Rattle.std.specs.List.{list_any, find}
use Rattle.std.specs.Prelude.{is_some}
use Rattle.std.proofs.lemmas.List.{append_assoc}
use mathlib.Core.Bool.{true≢false}
use Rattle.std.specs.Ordering.{nat_cmp}
use Rattle.lt_ids.specs.declared.timestamp.Timestamp.{Timestamp}
use Rattle.lt_ids.specs.declared.request.Access.{Access}
use Rattle.lt_ids.specs.declared.request.Access.TheVariants.{Read, Write}
use Rattle.lt_ids.specs.Ids.{is_below}
use Rattle.lt_rules.specs.declared.queued.Holder.{Holder}
use Rattle.lt_rules.specs.declared.queued.QueuedRequest.{QueuedRequest}
use Rattle.lt_rules.specs.declared.call.Call.{Call}
use Rattle.lt_rules.specs.declared.call.Call.TheVariants.{Visit, Acquire, Update, Finish, Leave, Look}
use Rattle.lt_rules.specs.declared.queued.QueuedWriter.{QueuedWriter}
use Rattle.lt_rules.specs.declared.call.Reply.{Reply}
use Rattle.lt_rules.specs.declared.call.Reply.TheVariants.{Taken, Freed}
use Rattle.lt_rules.specs.Rules.{Record, empty, number_of, writer_number, is_txn, Outcome, acquire_from, update_from, finish_from, leave, is_reserved_by, is_waiting, stop_reading}
use Rattle.lt_rules.specs.Visit.{visit_lock, is_queued}
use Rattle.lt_rules.specs.Step.{Event, step, look, look_waiter, look_writer, look_behind, look_reader, waits_for, waits_for_reserved, IsLegal, IsLegalFrom, record_after, is_freed}
use Rattle.lt_rules.proofs.Holders.{either, one_of_two, one_of_three, joined, displaced, rest_legal, visit_keeps, leave_keeps}

-- ---- a held lock stays held until it is freed

abbrev StaysHeld : Outcome → Type 0
StaysHeld o = is_freed o.reply ≡ false → IsSome o.after.holder

finish_held : (r : Record) (holder : Option Holder) (txn : ℕ) → IsSome r.holder → StaysHeld (finish_from holder r txn)
finish_held r None txn held = λ e. held
finish_held r (Some h) txn held = either StaysHeld (nat_eq h.txn txn) _ _ (λ e. absurd (true≢false e)) (λ e. held)

acquire_held : (r : Record) (holder : Option Holder) (h : Holder) → IsSome r.holder → StaysHeld (acquire_from holder r h)
acquire_held r None h held = λ e. refl
acquire_held r (Some k) h held = either StaysHeld (nat_eq k.txn h.txn) _ _ (either StaysHeld (is_below k.ts h.ts) _ _ (λ e. refl) (λ e. held)) (λ e. held)

update_held : (r : Record) (holder : Option Holder) (txn : ℕ) (ts : Timestamp) → IsSome r.holder → StaysHeld (update_from holder r txn ts)
update_held r None txn ts held = λ e. held
update_held r (Some k) txn ts held = either StaysHeld (nat_eq k.txn txn) _ _ (either StaysHeld (is_below k.ts ts) _ _ (λ e. refl) (λ e. held)) (λ e. held)

step_held : (r : Record) (pass : ℕ) (call : Call) → IsSome r.holder → StaysHeld (step r pass call)
step_held r pass (Visit ticket txn ts access longest) held = λ e. subst IsSome (sym (visit_keeps r _ longest access)) held
step_held r pass (Acquire txn ts) held = acquire_held r r.holder (record { txn = txn; ts = ts }) held
step_held r pass (Update txn ts) held = update_held r r.holder txn ts held
step_held r pass (Finish txn) held = finish_held r r.holder txn held
step_held r pass (Leave number) held = λ e. subst IsSome (sym (leave_keeps r number)) held
step_held r pass (Look number) held = λ e. held

either_false : (a b : Bool) → (a || b) ≡ false → (a ≡ false) × (b ≡ false)
either_false false b e = (refl, e)
either_false true b e = absurd (true≢false e)

still_held : (r : Record) (between rest : List Event) → IsLegalFrom r (between ++ rest) → IsSome r.holder → list_any (λ g. is_freed g.reply) between ≡ false → IsSome (record_after r between).holder
still_held r [] rest legal held none = held
still_held r (g ∷ between) rest legal held none =
    let parts = either_false (is_freed g.reply) (list_any (λ g. is_freed g.reply) between) none in
    still_held (step r g.pass g.call).after between rest legal.2 (step_held r g.pass g.call held (ap is_freed (sym legal.0) ∙ parts.0)) parts.1

-- ---- a transaction that takes a lock finds it free, and then holds it

abbrev TakesFree : Option Holder → Outcome → Type 0
TakesFree holder o = o.reply ≡ Taken → (holder ≡ None) × IsSome o.after.holder

-- whether the reply neither gives a lock to a transaction nor frees one
abbrev is_still : Reply → Bool
is_still Taken = false
is_still Freed = false
is_still _ = true

abbrev IsStill : Reply → Type 0
IsStill reply = is_still reply ≡ true

untaken : (reply : Reply) → IsStill reply → reply ≡ Taken → ⊥
untaken reply still e = true≢false (sym still ∙ ap is_still e)

unfreed : (reply : Reply) → IsStill reply → reply ≡ Freed → ⊥
unfreed reply still e = true≢false (sym still ∙ ap is_still e)

visit_still : (holder : Option Holder) (s : Option QueuedRequest) (r : Record) (q : QueuedRequest) (longest : ℕ) (access : Access) → IsStill (visit_lock holder s r q longest access).reply
visit_still None None r q longest access = refl
visit_still None (Some s) r q longest Read = refl
visit_still None (Some s) r q longest Write = one_of_three (λ o. IsStill o.reply) (nat_cmp (number_of q) (number_of s)) _ _ _ (displaced q.txn (λ o. IsStill o.reply) r s q refl refl) refl (joined (λ o. IsStill o.reply) r q longest refl refl)
visit_still (Some h) s r q longest Read =
    either (λ o. IsStill o.reply) (is_txn q.txn h.txn) _ _ refl
    (either (λ o. IsStill o.reply) (is_below q.ts h.ts) _ _ refl
    (either (λ o. IsStill o.reply) (is_queued r.writers (number_of q)) _ _ refl refl))
visit_still (Some h) s r q longest Write = either (λ o. IsStill o.reply) (is_txn q.txn h.txn) _ _ refl (joined (λ o. IsStill o.reply) r q longest refl refl)

acquire_takes : (r : Record) (holder : Option Holder) (h : Holder) → TakesFree holder (acquire_from holder r h)
acquire_takes r None h = λ e. (refl, refl)
acquire_takes r (Some k) h = either (TakesFree (Some k)) (nat_eq k.txn h.txn) _ _ (either (TakesFree (Some k)) (is_below k.ts h.ts) _ _ (λ e. cc) (λ e. cc)) (λ e. cc)

update_takes : (r : Record) (holder : Option Holder) (txn : ℕ) (ts : Timestamp) → TakesFree holder (update_from holder r txn ts)
update_takes r None txn ts = λ e. cc
update_takes r (Some k) txn ts = either (TakesFree (Some k)) (nat_eq k.txn txn) _ _ (either (TakesFree (Some k)) (is_below k.ts ts) _ _ (λ e. cc) (λ e. cc)) (λ e. cc)

finish_takes : (r : Record) (holder : Option Holder) (txn : ℕ) → TakesFree holder (finish_from holder r txn)
finish_takes r None txn = λ e. cc
finish_takes r (Some k) txn = either (TakesFree (Some k)) (nat_eq k.txn txn) _ _ (λ e. cc) (λ e. cc)

leave_takes : (r : Record) (n : ℕ) → TakesFree r.holder (leave r n)
leave_takes r n = either (TakesFree r.holder) (is_reserved_by r.reservation n) _ _ (λ e. cc) (either (TakesFree r.holder) (is_waiting r n) _ _ (λ e. cc) (λ e. cc))

waits_still : (d : Option ℕ) (n txn : ℕ) (held : Bool) → IsStill (waits_for d n txn held)
waits_still None n txn held = refl
waits_still (Some f) n txn held = one_of_two IsStill (nat_eq f n) _ _ refl refl

reserved_still : (d : Option ℕ) (n : ℕ) (txn : Option ℕ) → IsStill (waits_for_reserved d n txn)
reserved_still d n None = refl
reserved_still d n (Some t) = waits_still d n t false

behind_still : (d : Option ℕ) (q : QueuedRequest) (txn : Option ℕ) → IsStill (look_behind d q txn)
behind_still d q None = refl
behind_still d q (Some t) = one_of_two IsStill (is_txn q.txn t) _ _ refl (waits_still d (number_of q) t false)

writer_still : (r : Record) (q : QueuedRequest) (holder : Option Holder) (s : Option QueuedRequest) → IsStill (look_writer r q holder s)
writer_still r q None None = refl
writer_still r q None (Some s) = behind_still r.distinguished q s.txn
writer_still r q (Some h) s = waits_still r.distinguished (number_of q) h.txn true

reader_still : (r : Record) (n : ℕ) (holder : Option Holder) (s : Option QueuedRequest) → IsStill (look_reader r n holder s)
reader_still r n None None = refl
reader_still r n None (Some s) = reserved_still r.distinguished n s.txn
reader_still r n (Some h) s = waits_still r.distinguished n h.txn true

waiter_still : (r : Record) (n : ℕ) (w : Option QueuedWriter) → IsStill (look_waiter r n w)
waiter_still r n None = one_of_two IsStill (list_any (λ q. nat_eq (number_of q) n) r.readers) _ _ (reader_still r n r.holder r.reservation) refl
waiter_still r n (Some w) = one_of_two IsStill w.active _ _ (writer_still r w.request r.holder r.reservation) refl

look_still : (r : Record) (n : ℕ) → IsStill (look r n)
look_still r n = one_of_two IsStill (is_reserved_by r.reservation n) _ _ refl (waiter_still r n (find (λ w. nat_eq (writer_number w) n) r.writers))

step_takes : (r : Record) (pass : ℕ) (call : Call) → TakesFree r.holder (step r pass call)
step_takes r pass (Visit ticket txn ts access longest) = λ e. absurd (untaken _ (visit_still r.holder r.reservation (stop_reading r ticket.number) (record { ticket = ticket; txn = txn; ts = ts; pass = pass }) longest access) e)
step_takes r pass (Acquire txn ts) = acquire_takes r r.holder (record { txn = txn; ts = ts })
step_takes r pass (Update txn ts) = update_takes r r.holder txn ts
step_takes r pass (Finish txn) = finish_takes r r.holder txn
step_takes r pass (Leave number) = leave_takes r number
step_takes r pass (Look number) = λ e. absurd (untaken _ (look_still r number) e)

-- ---- only a finish frees a lock

abbrev FreesNothing : Outcome → Type 0
FreesNothing o = o.reply ≡ Freed → ⊥

acquire_frees : (r : Record) (holder : Option Holder) (h : Holder) → FreesNothing (acquire_from holder r h)
acquire_frees r None h = λ e. cc
acquire_frees r (Some k) h = either FreesNothing (nat_eq k.txn h.txn) _ _ (either FreesNothing (is_below k.ts h.ts) _ _ (λ e. cc) (λ e. cc)) (λ e. cc)

update_frees : (r : Record) (holder : Option Holder) (txn : ℕ) (ts : Timestamp) → FreesNothing (update_from holder r txn ts)
update_frees r None txn ts = λ e. cc
update_frees r (Some k) txn ts = either FreesNothing (nat_eq k.txn txn) _ _ (either FreesNothing (is_below k.ts ts) _ _ (λ e. cc) (λ e. cc)) (λ e. cc)

leave_frees : (r : Record) (n : ℕ) → FreesNothing (leave r n)
leave_frees r n = either FreesNothing (is_reserved_by r.reservation n) _ _ (λ e. cc) (either FreesNothing (is_waiting r n) _ _ (λ e. cc) (λ e. cc))

pub only_finish_frees : (r : Record) (pass : ℕ) (call : Call) → (step r pass call).reply ≡ Freed → (txn : ℕ) × (call ≡ Finish txn)
only_finish_frees r pass (Visit ticket txn ts access longest) = λ e. absurd (unfreed _ (visit_still r.holder r.reservation (stop_reading r ticket.number) (record { ticket = ticket; txn = txn; ts = ts; pass = pass }) longest access) e)
only_finish_frees r pass (Acquire txn ts) = λ e. absurd (acquire_frees r r.holder (record { txn = txn; ts = ts }) e)
only_finish_frees r pass (Update txn ts) = λ e. absurd (update_frees r r.holder txn ts e)
only_finish_frees r pass (Finish txn) = λ e. (txn, refl)
only_finish_frees r pass (Leave number) = λ e. absurd (leave_frees r number e)
only_finish_frees r pass (Look number) = λ e. absurd (unfreed _ (look_still r number) e)

is_true : (b : Bool) → (b ≡ false → ⊥) → b ≡ true
is_true true fails = refl
is_true false fails = absurd (fails refl)

pub freed_between : (past between rest : List Event) (e f : Event) → IsLegal (past ++ e ∷ between ++ f ∷ rest) → e.reply ≡ Taken → f.reply ≡ Taken → list_any (λ g. is_freed g.reply) between ≡ true
freed_between past between rest e f legal taken again =
    let r = record_after empty past in
    let here = rest_legal empty past (e ∷ between ++ f ∷ rest) (rw append_assoc at legal) in
    let s = (step r e.pass e.call).after in
    let later = rest_legal s between (f ∷ rest) here.2 in
    let held = (step_takes r e.pass e.call (sym here.0 ∙ taken)).1 in
    let free = (step_takes (record_after s between) f.pass f.call (sym later.0 ∙ again)).0 in
    is_true _ (λ none. let still = still_held s between (f ∷ rest) here.2 held none in true≢false (sym still ∙ ap is_some free))
