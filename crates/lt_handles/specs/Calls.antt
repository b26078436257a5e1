-- The visit that C asks for, and its first fault.
use Rattle.std.specs.Prelude.{ℕ, ◌||◌, nat_eq, nat_lt, if◌then◌else◌, Option, Some, None}
use Rattle.lt_ids.specs.declared.request.Access.TheVariants.{Read, Write}
use Rattle.lt_rules.specs.declared.call.Call.{Call}
use Rattle.lt_rules.specs.declared.call.Call.TheVariants.{Visit}
use Rattle.lt_handles.specs.declared.pass_call.PassCall.{PassCall}
use Rattle.lt_rules.specs.Rules.{Record, Outcome}
use Rattle.lt_rules.specs.Step.{step}
use Rattle.lt_handles.specs.declared.shapes.LtRequest.{LtRequest}
use Rattle.lt_ids.specs.declared.limits.TheConstants.{MAX_PASS, MAX_REQUEST, MAX_WAIT}

-- a transaction as C names it, where 0 is none
abbrev pub optional_txn : ℕ → Option ℕ
optional_txn txn = if nat_eq txn 0 then None else Some txn

-- the visit that C asks for
abbrev pub requested_visit : LtRequest → Call
requested_visit r = Visit
    (record { number = r.number; wait = r.wait })
    (optional_txn r.txn)
    (record { wall = r.wall; logical = r.logical })
    (if r.writes then Write else Read)
    r.longest

-- what this visit does to the record of its key
abbrev pub visit_act : LtRequest → Record → Outcome
visit_act request = λ r. step r request.pass (requested_visit request)

-- the code of the first number that is out of its range
abbrev pub visit_fault : LtRequest → Option ℕ
visit_fault r =
    if nat_eq r.number 0 || nat_lt MAX_REQUEST r.number then Some 9
    else if nat_eq r.wait 0 || nat_lt MAX_WAIT r.wait then Some 10
    else if nat_eq r.pass 0 || nat_lt MAX_PASS r.pass then Some 11
    else None

-- what a call of this pass does to the record of its key
abbrev pub act_of : PassCall → Record → Outcome
act_of c = λ r. step r c.pass c.call
