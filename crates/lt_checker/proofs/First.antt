-- If each visit has a transaction and no bound, the rules are those of the first version.
use Rattle.std.proofs.Common.{◌≡◌, ◌↔◌, ℕ, true, false, cond, suc, List, [], ◌∷◌, Option, Some, None, IsSome, refl, sym, ap, subst, arith, nat_eq}
use Rattle.std.specs.Prelude.{slice_get, is_some}
use Rattle.std.specs.List.{AllByRecursion, find}
use mathlib.Core.Bool.{true≢false}
use Rattle.std.proofs.lemmas.Bool.Decides.{nat_tests}
use Rattle.lt_ids.specs.Ids.{Wait}
use Rattle.lt_ids.specs.declared.timestamp.Timestamp.{Timestamp}
use Rattle.lt_ids.specs.declared.request.Access.{Access}
use Rattle.lt_ids.specs.declared.request.Access.TheVariants.{Read, Write}
use Rattle.lt_rules.specs.declared.queued.Holder.{Holder}
use Rattle.lt_rules.specs.declared.queued.QueuedRequest.{QueuedRequest}
use Rattle.lt_rules.specs.declared.queued.QueuedWriter.{QueuedWriter}
use Rattle.lt_rules.specs.declared.call.Call.{Call}
use Rattle.lt_rules.specs.declared.call.Call.TheVariants.{Visit, Acquire, Update, Finish, Leave, Look}
use Rattle.lt_rules.specs.declared.call.Reply.{Reply}
use Rattle.lt_rules.specs.declared.call.Reply.TheVariants.{Freed, Left, Other, Absent}
use Rattle.lt_rules.specs.Rules.{Record, empty, has_txn, Outcome, unchanged, settle, free, finish_from, finish_by, leave, leave_by, leading, stop_reading, is_reserved_by, is_waiting, without_reader, without_writer}
use Rattle.lt_rules.specs.Visit.{visit_lock, settled}
use Rattle.lt_rules.specs.Step.{Event, step, IsLegalFrom, IsLegalBy}
use Rattle.lt_checker.specs.First as first
use Rattle.lt_checker.specs.First.{FirstRulesHold}
use Rattle.lt_rules.proofs.Passes.{Each, IsOfCall, step_keeps}

-- Each queued request has a transaction.
abbrev Owned : Record → Type 0
Owned r = Each (λ q. IsSome q.txn) r

-- ---- a release

first_is_next : (ws : List QueuedWriter) → AllByRecursion (λ w. IsSome w.request.txn) ws → (leading ws ≡ 0) × (find has_txn ws ≡ slice_get ws 0)
first_is_next [] a = (refl, refl)
first_is_next (w ∷ ws) a =
    (ap (λ b. cond b 0 (suc (leading ws))) a.0, ap (λ b. cond b (Some w) (find has_txn ws)) a.0)

free_same : (r : Record) (reply : Reply) → AllByRecursion (λ w. IsSome w.request.txn) r.writers → free r reply ≡ first.free r reply
free_same r reply a = let n = first_is_next r.writers a in rw (n.0, n.1) refl

finish_same : (holder : Option Holder) (r : Record) (txn : ℕ) → AllByRecursion (λ w. IsSome w.request.txn) r.writers → finish_from holder r txn ≡ finish_by first.free holder r txn
finish_same None r txn a = refl
finish_same (Some k) r txn a = ap (λ o. cond (nat_eq k.txn txn) o (unchanged r Other)) (free_same (record r { holder = None }) Freed a)

leave_same : (r : Record) (n : ℕ) → AllByRecursion (λ w. IsSome w.request.txn) r.writers → leave r n ≡ leave_by first.free r n
leave_same r n a =
    let left : Outcome = record {
      after = settle (record r { writers = without_writer r.writers n; readers = without_reader r.readers n });
      reply = Left;
      lets = [];
    } in
    ap (λ o. cond (is_reserved_by r.reservation n) o (cond (is_waiting r n) left (unchanged r Absent))) (free_same (record r { reservation = None }) Left a)

-- ---- a visit

lock_same : (holder : Option Holder) (s : Option QueuedRequest) (r : Record) (ticket : Wait) (txn : ℕ) (ts : Timestamp) (pass : ℕ) (access : Access) →
    let q : QueuedRequest = record { ticket = ticket; txn = Some txn; ts = ts; pass = pass } in visit_lock holder s r q 0 access ≡ first.visit_lock holder s r q access
lock_same None None r ticket txn ts pass access = refl
lock_same None (Some s) r ticket txn ts pass Read = refl
lock_same None (Some s) r ticket txn ts pass Write = refl
lock_same (Some h) s r ticket txn ts pass Read = refl
lock_same (Some h) s r ticket txn ts pass Write = refl

visit_same : (r : Record) (pass : ℕ) (ticket : Wait) (txn : Option ℕ) (ts : Timestamp) (access : Access) (longest : ℕ) → first.is_of_first (Visit ticket txn ts access longest) ≡ true →
    step r pass (Visit ticket txn ts access longest) ≡ first.step r pass (Visit ticket txn ts access longest)
visit_same r pass ticket None ts access longest e = absurd (true≢false (sym e))
visit_same r pass ticket (Some txn) ts access longest e =
    let none : longest ≡ 0 = grind (arith, nat_tests) in
    rw none (ap settled (lock_same r.holder r.reservation (stop_reading r ticket.number) ticket txn ts pass access))

-- ---- a step

step_same : (r : Record) (pass : ℕ) (call : Call) → first.is_of_first call ≡ true → Owned r → step r pass call ≡ first.step r pass call
step_same r pass (Visit ticket txn ts access longest) e o = visit_same r pass ticket txn ts access longest e
step_same r pass (Acquire txn ts) e o = refl
step_same r pass (Update txn ts) e o = refl
step_same r pass (Finish txn) e o = finish_same r.holder r txn o.writers
step_same r pass (Leave number) e o = leave_same r number o.writers
step_same r pass (Look number) e o = refl

owner_of_visit : (txn : Option ℕ) (longest : ℕ) → cond (is_some txn) (nat_eq longest 0) false ≡ true → IsSome txn
owner_of_visit None longest e = absurd (true≢false (sym e))
owner_of_visit (Some t) longest e = refl

owner_of : (pass : ℕ) (call : Call) → first.is_of_first call ≡ true → (q : QueuedRequest) → IsOfCall pass call q → IsSome q.txn
owner_of pass (Visit ticket txn ts access longest) e q is = subst IsSome (sym is.1) (owner_of_visit txn longest e)
owner_of pass (Acquire txn ts) e q is = absurd is
owner_of pass (Update txn ts) e q is = absurd is
owner_of pass (Finish txn) e q is = absurd is
owner_of pass (Leave number) e q is = absurd is
owner_of pass (Look number) e q is = absurd is

step_owned : (r : Record) (pass : ℕ) (call : Call) → first.is_of_first call ≡ true → Owned r → Owned (step r pass call).after
step_owned r pass call e o = (step_keeps (λ q. IsSome q.txn) (λ t. Unit {0}) (λ q h. tt) r pass call (owner_of pass call e) o).0

-- ---- a history

legal_same : (es : List Event) (r : Record) → AllByRecursion (λ e. first.is_of_first e.call ≡ true) es → Owned r → IsLegalFrom r es ↔ IsLegalBy first.step r es
legal_same [] r a o = (λ l. l, λ l. l)
legal_same (e ∷ es) r a o =
    let same : step r e.pass e.call ≡ first.step r e.pass e.call = step_same r e.pass e.call a.0 o in
    let rest = legal_same es (step r e.pass e.call).after a.1 (step_owned r e.pass e.call a.0 o) in (
      λ l. subst (λ x. (e.reply ≡ x.reply) × (e.lets ≡ x.lets) × IsLegalBy first.step x.after es) same (l.0, l.1, rest.0 l.2),
      λ l. let old = subst (λ x. (e.reply ≡ x.reply) × (e.lets ≡ x.lets) × IsLegalBy first.step x.after es) (sym same) l in (old.0, old.1, rest.1 old.2),
    )

pub first_rules_hold : FirstRulesHold
first_rules_hold es a = legal_same es empty a (record { reservation = tt; writers = tt; readers = tt })
