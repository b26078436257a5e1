-- The numbers that a step can have: the ranges that the types of names, calls and replies ensure.
use Rattle.std.specs.Prelude.{ℕ, ◌^◌, ◌<◌, ◌≤◌, map, Option, Some, None}
use Rattle.std.specs.List.{AllByRecursion}
use Rattle.lt_ids.specs.Key.{IsKey}
use Rattle.lt_ids.specs.Ids.{Wait, IsNumber, IsWaitNumber}
use Rattle.lt_ids.specs.declared.timestamp.Timestamp.{Timestamp}
use Rattle.lt_rules.specs.declared.call.Call.{Call}
use Rattle.lt_rules.specs.declared.call.Call.TheVariants.{Visit, Acquire, Update, Finish, Leave, Look}
use Rattle.lt_rules.specs.declared.call.Reply.{Reply}
use Rattle.lt_rules.specs.declared.call.Reply.TheVariants.{WaitFor, WaitFirst, WaitOwn}
use Rattle.lt_entry.specs.declared.entry.Entry.{Entry}
use Rattle.lt_ids.specs.declared.limits.TheConstants.{MAX_PASS}

abbrev pub IsTxn : ℕ → Type 0
IsTxn n = (1 ≤ n) × (n < 2 ^ 64)

abbrev pub IsOwner : Option ℕ → Type 0
IsOwner None = Unit {0}
IsOwner (Some txn) = IsTxn txn

abbrev pub IsTicket : Wait → Type 0
IsTicket t = IsNumber t.number × IsWaitNumber t.wait

abbrev pub IsTime : Timestamp → Type 0
IsTime ts = (ts.wall < 2 ^ 64) × (ts.logical < 2 ^ 32)

abbrev pub IsCall : Call → Type 0
IsCall (Visit ticket txn ts access longest) = IsTicket ticket × IsOwner txn × IsTime ts × (longest < 2 ^ 32)
IsCall (Acquire txn ts) = IsTxn txn × IsTime ts
IsCall (Update txn ts) = IsTxn txn × IsTime ts
IsCall (Finish txn) = IsTxn txn
IsCall (Leave number) = IsNumber number
IsCall (Look number) = IsNumber number

abbrev pub IsReply : Reply → Type 0
IsReply (WaitFor txn held) = IsTxn txn
IsReply (WaitFirst txn held) = IsTxn txn
IsReply (WaitOwn txn) = IsTxn txn
IsReply _ = Unit {0}

-- The numbers of an entry are in their ranges. The types ensure this for all except the pass and the number of a
-- leave or a look.
pub record IsInRange (e : Entry) : Type 0 where
  pub key : IsKey e.key
  pub pass : (1 ≤ e.pass) × (e.pass ≤ MAX_PASS)
  pub call : IsCall e.call
  pub reply : IsReply e.reply
  pub lets : AllByRecursion IsTicket (map (λ t. t.ticket) e.lets)

-- The number of a leave or a look is one that a request can have.
abbrev pub NamesNumber : Call → Type 0
NamesNumber (Leave number) = IsNumber number
NamesNumber (Look number) = IsNumber number
NamesNumber _ = Unit {0}
