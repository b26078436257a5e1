-- What the statistics of a text say, as functions of the list of its steps.
use Rattle.std.specs.Prelude.{ℕ, ◌+◌, ◌-◌, ◌^◌, Bool, true, false, not, ◌==◌, nat_eq, nat_lt, if◌then◌else◌, min, fold, filter, find, take, drop, slice_get, List, [], ◌∷◌, ◌++◌, Option, Some, None}
use Rattle.std.specs.List.{list_any}
use Rattle.std.specs.Option.{option_map}
use Rattle.std.specs.Ordering.{nat_cmp, is_lt}
use Rattle.std.specs.Cmp.Lexicographic.{slice_cmp, pointwise}
use Rattle.lt_ids.specs.Ids.{Wait, same_wait}
use Rattle.lt_rules.specs.declared.call.Call.{Call}
use Rattle.lt_rules.specs.declared.call.Call.TheVariants.{Visit, Acquire, Update, Finish, Leave, Look}
use Rattle.lt_rules.specs.declared.call.Reply.{Reply}
use Rattle.lt_rules.specs.declared.call.Reply.TheVariants.{MustWait}
use Rattle.lt_checker.specs.declared.line.Line.{Line}
use Rattle.lt_trace_statistics.specs.declared.summary.HotKey.{HotKey}
use Rattle.lt_trace_statistics.specs.declared.summary.LongestQueue.{LongestQueue}
use Rattle.lt_trace_statistics.specs.declared.summary.LongestWait.{LongestWait}
use Rattle.lt_trace_statistics.specs.declared.waits.OpenWait.{OpenWait}

-- ---- steps and counts

-- A step of a text: its key, its index among the steps of the key, its call and reply, the tickets that it let through
-- in order, and how many requests are queued at the key after it.
pub record TracedStep : Type 0 where
  pub key : List ℕ
  pub index : ℕ
  pub call : Call
  pub reply : Reply
  pub tickets : List Wait
  pub queue : ℕ

-- the step of this line, after which so many requests are queued
abbrev pub traced_step : Line → ℕ → TracedStep
traced_step line queue = record {
  key = line.key;
  index = line.step.index;
  call = line.step.call;
  reply = line.step.reply;
  tickets = line.tickets.items;
  queue = queue;
}

-- a count, which stops at the greatest number of 64 bits
abbrev pub capped : ℕ → ℕ
capped n = min n (2 ^ 64 - 1)

abbrev pub is_must_wait : Reply → Bool
is_must_wait MustWait = true
is_must_wait _ = false

-- 1 for the reply `wait`, and 0 for any other
abbrev pub wait_count : Reply → ℕ
wait_count reply = if is_must_wait reply then 1 else 0

-- ---- the longest queue

abbrev pub queue_len : Option LongestQueue → ℕ
queue_len None = 0
queue_len (Some q) = q.requests

-- the queue after the step, if it is longer than the longest one before it
abbrev pub longer_queue : Option LongestQueue → TracedStep → Option LongestQueue
longer_queue longest x =
    if nat_lt (queue_len longest) x.queue then Some (record { key = x.key; index = x.index; requests = x.queue }) else longest

-- ---- the waits at one key

-- the number of the request that visits or leaves
abbrev pub mover_of : Call → Option ℕ
mover_of (Visit ticket txn ts access longest) = Some ticket.number
mover_of (Acquire txn ts) = None
mover_of (Update txn ts) = None
mover_of (Finish txn) = None
mover_of (Leave number) = Some number
mover_of (Look number) = None

-- the open waits, without that of the request that visits or leaves
abbrev pub without_mover : Option ℕ → List OpenWait → List OpenWait
without_mover None pending = pending
without_mover (Some n) pending = filter (λ w. not (nat_eq w.ticket.number n)) pending

abbrev pub is_let_through : List Wait → Wait → Bool
is_let_through tickets ticket = list_any (λ other. same_wait other ticket) tickets

-- the open waits that are not let through
abbrev pub without_ended : List Wait → List OpenWait → List OpenWait
without_ended tickets pending = filter (λ w. not (is_let_through tickets w.ticket)) pending

-- the wait that a step begins: that of a visit with the reply `wait`
abbrev pub begun_waits : Call → Reply → ℕ → List OpenWait
begun_waits (Visit ticket txn ts access longest) reply index =
    if is_must_wait reply then record { ticket = ticket; since = index } ∷ [] else []
begun_waits (Acquire txn ts) reply index = []
begun_waits (Update txn ts) reply index = []
begun_waits (Finish txn) reply index = []
begun_waits (Leave number) reply index = []
begun_waits (Look number) reply index = []

-- the open waits of which the step may end some, given those before it
abbrev pub pending_at : TracedStep → List OpenWait → List OpenWait
pending_at x pending = without_mover (mover_of x.call) pending

-- the open waits after the step, given those before it
abbrev pub pending_after : TracedStep → List OpenWait → List OpenWait
pending_after x pending = without_ended x.tickets (pending_at x pending) ++ begun_waits x.call x.reply x.index

-- ---- the longest wait

-- the index of the visit that began the open wait with this ticket
abbrev pub since_of : List OpenWait → Wait → Option ℕ
since_of pending ticket = option_map (λ w. w.since) (find (λ w. same_wait w.ticket ticket) pending)

-- how many steps of its key the wait took
abbrev pub wait_len : Option LongestWait → ℕ
wait_len None = 0
wait_len (Some w) = w.to - w.from

-- the wait, if it is longer than the longest one before it
abbrev pub with_wait : Option LongestWait → LongestWait → Option LongestWait
with_wait longest w = if nat_lt (wait_len longest) (w.to - w.from) then Some w else longest

abbrev pub longer_wait : Option LongestWait → Option LongestWait → Option LongestWait
longer_wait longest None = longest
longer_wait longest (Some w) = with_wait longest w

-- the open wait with this ticket, which the key's step with this index ended
abbrev pub ended_wait : List OpenWait → List ℕ → ℕ → Wait → Option LongestWait
ended_wait pending key index ticket =
    option_map (λ since. record { key = key; ticket = ticket; from = since; to = index }) (since_of pending ticket)

abbrev pub with_ended : List OpenWait → List ℕ → ℕ → Option LongestWait → Wait → Option LongestWait
with_ended pending key index longest ticket = longer_wait longest (ended_wait pending key index ticket)

-- the longest wait after the step: its lets are looked at one after the other
abbrev pub wait_after : TracedStep → List OpenWait → Option LongestWait → Option LongestWait
wait_after x pending longest = fold (with_ended (pending_at x pending) x.key x.index) longest x.tickets

-- ---- the hottest keys

-- One key comes before the other: it has more steps, or as many and the smaller name.
abbrev pub is_hotter : HotKey → HotKey → Bool
is_hotter one other =
    if nat_eq one.steps other.steps then is_lt (slice_cmp nat_cmp one.key other.key) else nat_lt other.steps one.steps

-- a ranked list with one more key, before the first key that it is hotter than
abbrev pub ranked_with : HotKey → List HotKey → List HotKey
ranked_with hot [] = hot ∷ []
ranked_with hot (other ∷ others) = if is_hotter hot other then hot ∷ other ∷ others else other ∷ ranked_with hot others

-- the keys, hottest first
abbrev pub ranking : List HotKey → List HotKey
ranking [] = []
ranking (hot ∷ others) = ranked_with hot (ranking others)

-- how many keys a summary names at most
abbrev pub most_keys : ℕ
most_keys = 10

abbrev pub hottest_of : List HotKey → List HotKey
hottest_of keys = take most_keys (ranking keys)

-- the hottest keys, with one more key
abbrev pub ranked_after : Option HotKey → List HotKey → List HotKey
ranked_after None ranked = ranked
ranked_after (Some hot) ranked = take most_keys (ranked_with hot ranked)

-- ---- the steps together

-- What the steps so far amount to: their keys, the latest first, the open waits at the latest key, the longest queue and
-- the longest wait.
pub record Findings : Type 0 where
  pub keys : List HotKey
  pub pending : List OpenWait
  pub queue : Option LongestQueue
  pub wait : Option LongestWait

abbrev pub no_findings : Findings
no_findings = record { keys = []; pending = []; queue = None; wait = None }

abbrev pub is_key_of : Option HotKey → List ℕ → Bool
is_key_of None key = false
is_key_of (Some latest) key = pointwise ◌==◌ latest.key key

-- a key before its first step
abbrev pub blank_key : List ℕ → HotKey
blank_key key = record { key = key; steps = 0; waits = 0 }

-- the findings at a step of this key: a new key has no steps yet, and nobody waits there
abbrev pub with_key : Findings → List ℕ → Findings
with_key f key =
    if is_key_of (slice_get f.keys 0) key then f else record f { keys = blank_key key ∷ f.keys; pending = [] }

-- the latest key with one more step
abbrev pub with_count : Reply → Option HotKey → Option HotKey
with_count reply None = None
with_count reply (Some latest) =
    Some (record latest { steps = capped (latest.steps + 1); waits = capped (latest.waits + wait_count reply) })

abbrev pub with_latest : Option HotKey → List HotKey → List HotKey
with_latest None keys = []
with_latest (Some latest) keys = latest ∷ drop 1 keys

-- the findings after a step of the latest key
abbrev pub with_step : Findings → TracedStep → Findings
with_step f x = record {
  keys = with_latest (with_count x.reply (slice_get f.keys 0)) f.keys;
  pending = pending_after x f.pending;
  queue = longer_queue f.queue x;
  wait = wait_after x f.pending f.wait;
}

abbrev pub after_step : Findings → TracedStep → Findings
after_step f x = with_step (with_key f x.key) x

-- what the steps of a text amount to
abbrev pub findings_of : List TracedStep → Findings
findings_of steps = fold after_step no_findings steps
