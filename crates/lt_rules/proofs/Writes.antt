-- When a write passes.
use Rattle.std.proofs.Common.{◌≡◌, ◌<◌, ◌≤◌, ℕ, Bool, true, false, cond, List, ◌∷◌, ◌++◌, Option, Some, None, IsSome, IfSome, refl, sym, ap, subst, ◌∙◌, arith, nat_eq, ◌⊎◌, inl, inr}
use Rattle.std.specs.List.{AllByRecursion}
use mathlib.Core.Bool.{true≢false}
use Rattle.std.specs.declared.cmp.Ordering.{Ordering}
use Rattle.std.specs.declared.cmp.Ordering.TheVariants.{Less, Equal, Greater}
use Rattle.std.specs.Ordering.{nat_cmp, match_ordering, MatchOrdering}
use Rattle.std.proofs.lemmas.Cmp.{ranked}
use Rattle.std.proofs.lemmas.Bool.Decides.{nat_tests}
use Rattle.lt_ids.specs.declared.timestamp.Timestamp.{Timestamp}
use Rattle.lt_ids.specs.declared.request.Access.TheVariants.{Write}
use Rattle.lt_ids.specs.Ids.{Wait}
use Rattle.lt_rules.specs.declared.queued.Holder.{Holder}
use Rattle.lt_rules.specs.declared.queued.QueuedRequest.{QueuedRequest}
use Rattle.lt_rules.specs.declared.queued.QueuedWriter.{QueuedWriter}
use Rattle.lt_rules.specs.declared.call.Call.TheVariants.{Visit}
use Rattle.lt_rules.specs.declared.call.Reply.TheVariants.{Passed}
use Rattle.lt_rules.specs.Rules.{Record, empty, number_of, writer_number, is_txn, stop_reading}
use Rattle.lt_rules.specs.Visit.{visit, visit_lock, pass, join_writers, displace}
use Rattle.lt_rules.proofs.Cases.{FitsLock, all_weaker}
use Rattle.lt_rules.specs.Step.{Event, IsLegal, record_after, Holds}
use Rattle.lt_rules.specs.Laws.{stamp_by, NoSmaller, OwnHolds}
use Rattle.lt_rules.proofs.Holders.{history_tells, rest_legal, held_is, is_own, joined}
use Rattle.lt_rules.proofs.Orderly.{IsOrderly, history_orderly}

-- the request's own transaction is the holder
abbrev OwnHeld : Option ℕ → Option Holder → Type 0
OwnHeld None holder = ⊥
OwnHeld (Some txn) holder = IsSome (stamp_by txn holder)

-- what holds at this holder if a write of q passes
abbrev Allows : Option Holder → Option QueuedRequest → List QueuedWriter → QueuedRequest → Type 0
Allows holder s ws q = ((T : ℕ) → IsSome (stamp_by T holder) → q.txn ≡ Some T) × (OwnHeld q.txn holder ⊎ (IfSome s (λ x. number_of q ≤ number_of x) × AllByRecursion (λ w. number_of q ≤ writer_number w) ws))

nobody : (T : ℕ) (txn : Option ℕ) → IsSome (stamp_by T None) → txn ≡ Some T
nobody T txn some = absurd (true≢false (sym some))

reserved_allows : (s q : QueuedRequest) (longest : ℕ) (ws : List QueuedWriter) (r : Record) → AllByRecursion (λ w. number_of s < writer_number w) ws → (c : Ordering) → MatchOrdering c (number_of q < number_of s) (number_of q ≡ number_of s) (number_of s < number_of q) →
    (match_ordering c (displace q.txn r s q) (pass r) (join_writers r q longest)).reply ≡ Passed → Allows None (Some s) ws q
reserved_allows s q longest ws r f Less lt e = (λ T some. nobody T q.txn some, inr (omega arith, all_weaker (λ w. number_of s < writer_number w) (λ w. number_of q ≤ writer_number w) (λ w a. omega arith) ws f))
reserved_allows s q longest ws r f Equal eq e = (λ T some. nobody T q.txn some, inr (omega arith, all_weaker (λ w. number_of s < writer_number w) (λ w. number_of q ≤ writer_number w) (λ w a. omega arith) ws f))
reserved_allows s q longest ws r f Greater lt e = absurd (joined (λ o. o.reply ≡ Passed → ⊥) r q longest (λ e. cc) (λ e. cc) e)

held_allows : (h : Holder) (q : QueuedRequest) (longest : ℕ) (ws : List QueuedWriter) (r : Record) (own : Bool) → is_txn q.txn h.txn ≡ own → (cond own (pass r) (join_writers r q longest)).reply ≡ Passed → Allows (Some h) None ws q
held_allows h q longest ws r false own e = absurd (joined (λ o. o.reply ≡ Passed → ⊥) r q longest (λ e. cc) (λ e. cc) e)
held_allows h q longest ws r true own e =
    let same : q.txn ≡ Some h.txn = is_own q.txn h.txn own in
    let self : nat_eq h.txn h.txn ≡ true = grind (arith, nat_tests) in
    let holds : OwnHeld q.txn (Some h) = subst (λ t. OwnHeld t (Some h)) (sym same) (rw self refl) in
    (λ T some. let t = held_is T (Some h) some in let at : h ≡ t.0 = cc in same ∙ ap Some (ap (λ x. x.txn) at ∙ t.2), inl holds)

write_allows : (holder : Option Holder) (s : Option QueuedRequest) (r : Record) (ws : List QueuedWriter) (rs : List QueuedRequest) (q : QueuedRequest) (longest : ℕ) → FitsLock holder s ws rs → (visit_lock holder s r q longest Write).reply ≡ Passed → Allows holder s ws q
write_allows None None r ws rs q longest f e = (λ T some. nobody T q.txn some, inr (tt, subst (AllByRecursion (λ w. number_of q ≤ writer_number w)) (sym f.0) tt))
write_allows None (Some s) r ws rs q longest f e = reserved_allows s q longest ws r f.0 (nat_cmp (number_of q) (number_of s)) (ranked (number_of q) (number_of s) _ refl) e
write_allows (Some h) None r ws rs q longest f e = held_allows h q longest ws r (is_txn q.txn h.txn) refl e
write_allows (Some h) (Some s) r ws rs q longest f e = absurd f

pub writes_pass : (past rest : List Event) (e : Event) (ticket : Wait) (txn : Option ℕ) (ts : Timestamp) (longest : ℕ) → IsLegal (past ++ e ∷ rest) → e.call ≡ Visit ticket txn ts Write longest → e.reply ≡ Passed →
    ((T : ℕ) → Holds past T → txn ≡ Some T) × (OwnHolds past txn ⊎ NoSmaller (record_after empty past) ticket.number)
writes_pass past rest e ticket txn ts longest legal call passed =
    let r = record_after empty past in
    let q : QueuedRequest = record { ticket = ticket; txn = txn; ts = ts; pass = e.pass } in
    let reply : e.reply ≡ (visit r q longest Write).reply = rw call at (rest_legal empty past (e ∷ rest) legal).0 in
    let o : IsOrderly r = history_orderly past (e ∷ rest) legal in
    let a = write_allows r.holder r.reservation (stop_reading r (number_of q)) r.writers r.readers q longest o.fits (sym reply ∙ passed) in (
      λ T t. a.0 T (subst IsSome (history_tells T empty past (e ∷ rest) legal) t),
      elim a.1 [
        | inl own ↦ inl (own_holds txn own)
        | inr small ↦ inr (record { reserved = small.0; queued = small.1 })
      ],
    )
  where
    own_holds : (txn : Option ℕ) → OwnHeld txn (record_after empty past).holder → OwnHolds past txn
    own_holds None held = held
    own_holds (Some t) held = subst IsSome (sym (history_tells t empty past (e ∷ rest) legal)) held
