-- How many requests are at a key, and the room that a list of lets has for them.
use Rattle.std.proofs.Common.{◌≡◌, ◌+◌, ◌≤◌, inl, inr, ℕ, suc, List, length, Option, Some, None, refl, sym, ap, subst, arith, IfSome, OnOk, OnErr, IfOk, Result, Ok, Err}
use Rattle.lt_ids.specs.declared.request.Access.{Access}
use Rattle.lt_ids.specs.declared.ticket.Through.{Through}
use Rattle.lt_rules.specs.declared.call.Call.{Call}
use Rattle.lt_rules.specs.declared.call.Call.TheVariants.{Visit, Acquire, Update, Finish, Leave, Look}
use Rattle.lt_rules.specs.declared.call.Reply.{Reply}
use Rattle.lt_rules.specs.declared.queued.QueuedRequest.{QueuedRequest}
use Rattle.lt_rules.specs.Rules.{Record, empty, Outcome, IsOutcome, settle, stop_reading, number_of}
use Rattle.lt_rules.specs.Visit.{visit_case}
use Rattle.lt_rules.specs.Step.{step}
use Rattle.lt_rules.specs.Memory.{how_many, GrowsRoom}
use Rattle.lt_rules.proofs.Rooms.{there, how_many_is, stopped_many, visit_many}

-- what holds at all holds after a success, and after an error
pub on_ok : {T E : Type 0} (r : Result T E) (X : Type 0) → X → OnOk r X
on_ok (Ok t) X x = x
on_ok (Err e) X x = tt

pub on_err : {T E : Type 0} (r : Result T E) (X : Type 0) → X → OnErr r X
on_err (Ok t) X x = tt
on_err (Err e) X x = x

few_hold : (s : Option QueuedRequest) → there s ≤ 1
few_hold None = omega arith
few_hold (Some q) = omega arith

-- at most one request holds the reservation
counted : (r : Record) (n : ℕ) → length r.writers + length r.readers + 1 ≤ n → how_many r ≤ n
counted r n few =
    let all = how_many_is r in
    let one = few_hold r.reservation in
    omega (arith, all, one, few)

pub counted_all : (r : Record) (o : Option ℕ) → IfSome o (λ n. length r.writers + length r.readers + 1 ≤ n) → IfSome o (λ n. how_many r ≤ n)
counted_all r None few = tt
counted_all r (Some n) few = counted r n few

-- a request that stops reading makes none more
pub stopped_room : (old new : Record) (number room : ℕ) → new ≡ stop_reading old number → GrowsRoom old new room
stopped_room old new number room is = inl (subst (λ r. how_many r ≤ how_many old) (sym is) (stopped_many old number))

-- the room that a visit leaves
pub visited_room : (old mid : Record) (q : QueuedRequest) (longest : ℕ) (access : Access) (reply : Reply) (lets : List Through) (room more : ℕ) → IsOutcome (visit_case (stop_reading old (number_of q)) q longest access) mid reply lets → GrowsRoom old mid more → room ≤ more → how_many old ≤ room → how_many (settle mid) ≤ more
visited_room old mid q longest access reply lets room more is (inl few) grown has =
    let same : how_many (settle mid) ≡ how_many mid = refl in
    omega (arith, same, few, grown, has)
visited_room old mid q longest access reply lets room more is (inr less) grown has =
    let one_more : how_many mid ≤ suc (how_many old) = subst (λ r. how_many r ≤ suc (how_many old)) (sym is.moved) (visit_many old q longest access) in
    let same : how_many (settle mid) ≡ how_many mid = refl in
    omega (arith, same, one_more, less)

-- the room that another step leaves, which makes no request more
pub room_kept : {E : Type 0} (old new : Record) (o : Outcome) (result : Result Reply E) (lets : List Through) (X : Type 0) (room more : ℕ) → IfOk result (λ reply. IsOutcome o new reply lets) → OnErr result ((new ≡ old) × X) → how_many o.after ≤ how_many old → room ≤ more → how_many old ≤ room → how_many new ≤ more
room_kept old new o (Ok reply) lets X room more ok err few grown has =
    let same : how_many new ≡ how_many o.after = ap (λ r. how_many r) ok.moved in
    omega (arith, same, few, grown, has)
room_kept old new o (Err e) lets X room more ok err few grown has =
    let same : how_many new ≡ how_many old = ap (λ r. how_many r) err.0 in
    omega (arith, same, grown, has)

-- no request comes to a key that has no record
pub none_come : (pass : ℕ) (call : Call) → how_many (step empty pass call).after ≡ 0
none_come pass (Visit ticket txn ts access longest) = refl
none_come pass (Acquire txn ts) = refl
none_come pass (Update txn ts) = refl
none_come pass (Finish txn) = refl
none_come pass (Leave number) = refl
none_come pass (Look number) = refl
