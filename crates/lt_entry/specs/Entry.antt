-- How an entry stores the call and the reply of its step.
use Rattle.std.specs.Prelude.{ℕ, Bool, Some, None, List, []}
use Rattle.lt_ids.specs.Ids.{Wait}
use Rattle.lt_ids.specs.declared.timestamp.Timestamp.{Timestamp}
use Rattle.lt_ids.specs.declared.request.Access.{Access}
use Rattle.lt_ids.specs.declared.ticket.Through.{Through}
use Rattle.lt_rules.specs.declared.call.Call.{Call}
use Rattle.lt_rules.specs.declared.call.Call.TheVariants as call
use Rattle.lt_rules.specs.declared.call.Reply.{Reply}
use Rattle.lt_rules.specs.Step.{EntryState}
use Rattle.lt_rules.specs.declared.call.Reply.TheVariants as reply
use Rattle.lt_entry.specs.declared.entry.CallKind.{CallKind}
use Rattle.lt_entry.specs.declared.entry.CallKind.TheVariants.{OwnedVisit, UnownedVisit, Acquire, Update, Finish, Leave, Look}
use Rattle.lt_entry.specs.declared.entry.ReplyRest.{ReplyRest}
use Rattle.lt_entry.specs.declared.entry.ReplyRest.TheVariants.{NoLets, Lets}
use Rattle.lt_entry.specs.declared.entry.ReplyKind.{ReplyKind}
use Rattle.lt_entry.specs.declared.entry.ReplyKind.TheVariants.{Passed, MustWait, TooLong, Taken, Kept, Raised, Other, Freed, Left, Absent, Nothing, Reserved, Idle, WaitFor, WaitFirst, WaitOwn}

-- the call with these parts; a part that the kind does not have is ignored
abbrev pub call_of : CallKind → Wait → ℕ → Timestamp → Access → ℕ → Call
call_of OwnedVisit ticket number ts access longest = call.Visit ticket (Some number) ts access longest
call_of UnownedVisit ticket number ts access longest = call.Visit ticket None ts access longest
call_of Acquire ticket number ts access longest = call.Acquire number ts
call_of Update ticket number ts access longest = call.Update number ts
call_of Finish ticket number ts access longest = call.Finish number
call_of Leave ticket number ts access longest = call.Leave ts.wall
call_of Look ticket number ts access longest = call.Look ts.wall

-- the reply with these parts; a part that the kind does not have is ignored
abbrev pub reply_of : ReplyKind → ℕ → Bool → Reply
reply_of Passed txn held = reply.Passed
reply_of MustWait txn held = reply.MustWait
reply_of TooLong txn held = reply.TooLong
reply_of Taken txn held = reply.Taken
reply_of Kept txn held = reply.Kept
reply_of Raised txn held = reply.Raised
reply_of Other txn held = reply.Other
reply_of Freed txn held = reply.Freed
reply_of Left txn held = reply.Left
reply_of Absent txn held = reply.Absent
reply_of Nothing txn held = reply.Nothing
reply_of Reserved txn held = reply.Reserved
reply_of Idle txn held = reply.Idle
reply_of WaitFor txn held = reply.WaitFor txn held
reply_of WaitFirst txn held = reply.WaitFirst txn held
reply_of WaitOwn txn held = reply.WaitOwn txn

-- the lets of a step whose reply has this rest
abbrev pub lets_in : ReplyRest → List Through
lets_in (NoLets txn) = []
lets_in (Lets room) = room.value.lets.items

-- the transaction that such a reply names, if its kind names one
abbrev pub txn_in : ReplyRest → ℕ
txn_in (NoLets txn) = txn
txn_in (Lets room) = room.value.txn

-- the step with these parts
abbrev pub entry_with : List ℕ → ℕ → Call → Reply → List Through → EntryState
entry_with key pass call reply lets = record { key = key; pass = pass; call = call; reply = reply; lets = lets }
