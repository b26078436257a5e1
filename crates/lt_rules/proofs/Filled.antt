-- The steps that leave no record empty.
use Rattle.std.proofs.Common.{◌≡◌, ℕ, Bool, true, false, ◌&&◌, is_none, List, [], Option, Some, None, IsNone, refl, sym, ap, subst, ◌∙◌, nat_eq}
use mathlib.Core.Bool.{true≢false}
use Rattle.std.specs.Ordering.{nat_cmp}
use Rattle.lt_ids.specs.declared.timestamp.Timestamp.{Timestamp}
use Rattle.lt_ids.specs.declared.request.Access.{Access}
use Rattle.lt_ids.specs.declared.request.Access.TheVariants.{Read, Write}
use Rattle.lt_ids.specs.Ids.{is_below}
use Rattle.lt_rules.specs.declared.queued.Holder.{Holder}
use Rattle.lt_rules.specs.declared.queued.QueuedRequest.{QueuedRequest}
use Rattle.lt_rules.specs.declared.queued.QueuedWriter.{QueuedWriter}
use Rattle.lt_rules.specs.Rules.{Record, is_empty, number_of, eligible, Outcome, acquire, acquire_from, update, update_from, distinguished_of, stop_reading}
use Rattle.lt_rules.specs.Visit.{visit, visit_lock}
use Rattle.lt_rules.specs.Lawful.{IsLawful}
use Rattle.lt_rules.proofs.Holders.{either, one_of_three, joined, displaced, lock_keeps}

-- the lock is neither held nor reserved
abbrev is_free : Option Holder → Option QueuedRequest → Bool
is_free holder s = is_none holder && is_none s

abbrev IsTaken : Outcome → Type 0
IsTaken o = is_free o.after.holder o.after.reservation ≡ false

-- if the lock is neither held nor reserved, no request is queued, so the record is empty
free_parts : (holder : Option Holder) (s : Option QueuedRequest) (ws : List QueuedWriter) (rs : List QueuedRequest) (d : Option ℕ) → is_free holder s ≡ true →
    (IsNone holder → IsNone s → ws ≡ []) → (IsNone holder → rs ≡ []) → distinguished_of d (eligible s rs ws) ≡ d → is_empty (record { holder = holder; reservation = s; writers = ws; readers = rs; distinguished = d }) ≡ true
free_parts (Some h) s ws rs d free w r settled = absurd (true≢false (sym free))
free_parts None (Some s) ws rs d free w r settled = absurd (true≢false (sym free))
free_parts None None ws rs None free w r settled = rw (w refl refl, r refl) refl
free_parts None None ws rs (Some n) free w r settled =
    let none : None ≡ Some n = subst (λ x. distinguished_of (Some n) (eligible None [] x) ≡ Some n) (w refl refl) (subst (λ x. distinguished_of (Some n) (eligible None x ws) ≡ Some n) (r refl) settled) in
    absurd cc

filled_is_taken : (r : Record) → IsLawful r → is_empty r ≡ false → is_free r.holder r.reservation ≡ false
filled_is_taken r l filled = elim (is_free r.holder r.reservation) as (λ b. is_free r.holder r.reservation ≡ b → b ≡ false) [
  | true ↦ λ e. absurd (true≢false (sym (free_parts r.holder r.reservation r.writers r.readers r.distinguished e l.first.free_has_no_writers l.first.unheld_has_no_readers (ap (λ x. x.distinguished) l.first.is_settled)) ∙ filled))
  | false ↦ λ e. refl
] refl

taken_parts : (holder : Option Holder) (s : Option QueuedRequest) (ws : List QueuedWriter) (rs : List QueuedRequest) (d : Option ℕ) → is_free holder s ≡ false → is_empty (record { holder = holder; reservation = s; writers = ws; readers = rs; distinguished = d }) ≡ false
taken_parts None None ws rs d taken = absurd (true≢false taken)
taken_parts None (Some s) ws rs d taken = refl
taken_parts (Some h) s ws rs d taken = refl

taken_is_filled : (r : Record) → is_free r.holder r.reservation ≡ false → is_empty r ≡ false
taken_is_filled r taken = taken_parts r.holder r.reservation r.writers r.readers r.distinguished taken

-- a visit keeps the holder, and leaves a reserved lock reserved
visited : (holder : Option Holder) (s : Option QueuedRequest) (r : Record) (q : QueuedRequest) (longest : ℕ) (access : Access) → r.holder ≡ holder → r.reservation ≡ s → is_free holder s ≡ false → IsTaken (visit_lock holder s r q longest access)
visited None None r q longest access h e taken = absurd (true≢false taken)
visited (Some k) s r q longest access h e taken = rw (lock_keeps (Some k) s r q longest access, h) refl
visited None (Some s) r q longest Read h e taken = rw (h, e) refl
visited None (Some s) r q longest Write h e taken =
    let here : is_free r.holder r.reservation ≡ false = rw (h, e) refl in
    one_of_three IsTaken (nat_cmp (number_of q) (number_of s)) _ _ _ (displaced q.txn IsTaken r s q here (rw h refl)) here (joined IsTaken r q longest here here)

pub visit_filled : (r : Record) (q : QueuedRequest) (longest : ℕ) (access : Access) → IsLawful r → is_empty r ≡ false → is_empty (visit r q longest access).after ≡ false
visit_filled r q longest access l filled = taken_is_filled (visit r q longest access).after
    (visited r.holder r.reservation (stop_reading r (number_of q)) q longest access refl refl (filled_is_taken r l filled))

-- a lock with a holder is not free
raised : (r : Record) (h : Holder) → r.holder ≡ Some h → is_free r.holder r.reservation ≡ false
raised r h e = rw e refl

-- after an acquire, the lock has a holder
acquired : (holder : Option Holder) (r : Record) (h : Holder) → r.holder ≡ holder → IsTaken (acquire_from holder r h)
acquired None r h e = refl
acquired (Some k) r h e = either IsTaken (nat_eq k.txn h.txn) _ _ (either IsTaken (is_below k.ts h.ts) _ _ refl (raised r k e)) (raised r k e)

pub acquire_filled : (r : Record) (txn : ℕ) (ts : Timestamp) → is_empty (acquire r txn ts).after ≡ false
acquire_filled r txn ts = taken_is_filled (acquire r txn ts).after (acquired r.holder r (record { txn = txn; ts = ts }) refl)

updated : (holder : Option Holder) (r : Record) (txn : ℕ) (ts : Timestamp) → r.holder ≡ holder → is_free r.holder r.reservation ≡ false → IsTaken (update_from holder r txn ts)
updated None r txn ts e taken = taken
updated (Some k) r txn ts e taken = either IsTaken (nat_eq k.txn txn) _ _ (either IsTaken (is_below k.ts ts) _ _ refl taken) taken

pub update_filled : (r : Record) (txn : ℕ) (ts : Timestamp) → IsLawful r → is_empty r ≡ false → is_empty (update r txn ts).after ≡ false
update_filled r txn ts l filled = taken_is_filled (update r txn ts).after (updated r.holder r txn ts refl (filled_is_taken r l filled))
