-- The longest queue and the longest wait only grow, and each step's is within them.
use Rattle.std.proofs.Common.{◌≡◌, ℕ, zero, suc, ◌+◌, ◌-◌, length, ◌<◌, ◌≤◌, Bool, true, false, cond, nat_lt, fold, List, [], ◌∷◌, ◌++◌, Option, Some, None, slice_get, refl, ap, arith}
use Rattle.std.specs.List.{AllByRecursion}
use Rattle.std.proofs.lemmas.Bool.Decides.{nat_tests}
use Rattle.std.proofs.lemmas.List.Sums.{fold-append, sum_by_push}
use Rattle.std.proofs.lemmas.List.{length-append}
use Rattle.lt_ids.specs.Ids.{Wait}
use Rattle.lt_trace_statistics.specs.declared.summary.StepCounts.{StepCounts}
use Rattle.lt_trace_statistics.specs.declared.summary.LongestQueue.{LongestQueue}
use Rattle.lt_trace_statistics.specs.declared.summary.LongestWait.{LongestWait}
use Rattle.lt_trace_statistics.specs.declared.waits.OpenWait.{OpenWait}
use Rattle.lt_trace_statistics.specs.Findings.{TracedStep, Findings, capped, is_must_wait, wait_count, queue_len, longer_queue, wait_len, with_wait, longer_wait, ended_wait, with_ended, since_of, is_key_of, with_key, pending_at, after_step, no_findings, findings_of}
use Rattle.lt_trace_statistics.specs.Laws.{NoLongerQueue}
use Rattle.lt_trace_statistics.specs.Taken.{AreSums}

-- a new key leaves both as they are
pub with_key_keeps : (f : Findings) (key : List ℕ) → ((with_key f key).queue ≡ f.queue) × ((with_key f key).wait ≡ f.wait)
with_key_keeps f key =
    elim (is_key_of (slice_get f.keys 0) key) as (λ b. ((cond b f (record f { keys = record { key = key; steps = 0; waits = 0 } ∷ f.keys; pending = [] })).queue ≡ f.queue) × ((cond b f (record f { keys = record { key = key; steps = 0; waits = 0 } ∷ f.keys; pending = [] })).wait ≡ f.wait)) [
      | true ↦ (refl, refl)
      | false ↦ (refl, refl)
    ]

-- ---- counts

-- one more step is counted
pub sums_pushed : (old new : StepCounts) (steps : List TracedStep) (x : TracedStep) → AreSums old steps → new.steps ≡ capped (old.steps + 1) → new.waits ≡ capped (old.waits + wait_count x.reply) → new.lets ≡ capped (old.lets + length x.tickets)
    → AreSums new (steps ++ x ∷ [])
sums_pushed old new steps x s more waits lets = record {
  steps = omega (arith, s.steps, more, length-append steps (x ∷ []));
  waits = omega (arith, s.waits, waits, sum_by_push (λ y. cond (is_must_wait y.reply) 1 0) steps x);
  lets = omega (arith, s.lets, lets, sum_by_push (λ y. length y.tickets) steps x);
}

-- ---- queues

longer_queue_grows : (longest : Option LongestQueue) (x : TracedStep) → (queue_len longest ≤ queue_len (longer_queue longest x)) × (x.queue ≤ queue_len (longer_queue longest x))
longer_queue_grows longest x = by (nat_lt (queue_len longest) x.queue) refl
  where
    by : (b : Bool) → nat_lt (queue_len longest) x.queue ≡ b → (queue_len longest ≤ queue_len (cond b (Some (record { key = x.key; index = x.index; requests = x.queue })) longest)) × (x.queue ≤ queue_len (cond b (Some (record { key = x.key; index = x.index; requests = x.queue })) longest))
    by true e = let lt : queue_len longest < x.queue = grind (arith, nat_tests) in (omega arith, omega arith)
    by false e = let le : x.queue ≤ queue_len longest = grind (arith, nat_tests) in (omega arith, omega arith)

step_queue_grows : (f : Findings) (x : TracedStep) → (queue_len f.queue ≤ queue_len (after_step f x).queue) × (x.queue ≤ queue_len (after_step f x).queue)
step_queue_grows f x =
    let grown = longer_queue_grows (with_key f x.key).queue x in
    let kept = ap queue_len (with_key_keeps f x.key).0 in
    (omega (arith, grown.0, kept), grown.1)

queues_grow : (f : Findings) (steps : List TracedStep) → (queue_len f.queue ≤ queue_len (fold after_step f steps).queue) × AllByRecursion (λ x. x.queue ≤ queue_len (fold after_step f steps).queue) steps
queues_grow f [] = (omega arith, tt)
queues_grow f (x ∷ steps) =
    let here = step_queue_grows f x in
    let rest = queues_grow (after_step f x) steps in
    (omega (arith, here.0, rest.0), (omega (arith, here.1, rest.0), rest.1))

pub no_longer_queue : NoLongerQueue
no_longer_queue steps = (queues_grow no_findings steps).1

-- ---- waits

with_wait_grows : (longest : Option LongestWait) (w : LongestWait) → (wait_len longest ≤ wait_len (with_wait longest w)) × (w.to - w.from ≤ wait_len (with_wait longest w))
with_wait_grows longest w = by (nat_lt (wait_len longest) (w.to - w.from)) refl
  where
    by : (b : Bool) → nat_lt (wait_len longest) (w.to - w.from) ≡ b → (wait_len longest ≤ wait_len (cond b (Some w) longest)) × (w.to - w.from ≤ wait_len (cond b (Some w) longest))
    by true e = let lt : wait_len longest < w.to - w.from = grind (arith, nat_tests) in (omega arith, omega arith)
    by false e = let le : w.to - w.from ≤ wait_len longest = grind (arith, nat_tests) in (omega arith, omega arith)

longer_wait_grows : (longest : Option LongestWait) (next : Option LongestWait) → wait_len longest ≤ wait_len (longer_wait longest next)
longer_wait_grows longest None = omega arith
longer_wait_grows longest (Some w) = (with_wait_grows longest w).0

waits_grow : (pending : List OpenWait) (key : List ℕ) (index : ℕ) (longest : Option LongestWait) (tickets : List Wait) → wait_len longest ≤ wait_len (fold (with_ended pending key index) longest tickets)
waits_grow pending key index longest [] = omega arith
waits_grow pending key index longest (t ∷ tickets) =
    omega (arith, longer_wait_grows longest (ended_wait pending key index t), waits_grow pending key index (with_ended pending key index longest t) tickets)

-- the wait of one of these tickets is within the longest one
wait_is_within : (pending : List OpenWait) (key : List ℕ) (index : ℕ) (longest : Option LongestWait) (tickets : List Wait) (k : ℕ) (ticket : Wait) (since : ℕ) → slice_get tickets k ≡ Some ticket → since_of pending ticket ≡ Some since → index - since ≤ wait_len (fold (with_ended pending key index) longest tickets)
wait_is_within pending key index longest [] k ticket since at open_since = absurd (cc)
wait_is_within pending key index longest (t ∷ tickets) zero ticket since at open_since =
    let same : t ≡ ticket = cc in
    let ended : ended_wait pending key index t ≡ Some (record { key = key; ticket = t; from = since; to = index }) = rw (same, open_since) refl in
    let here : index - since ≤ wait_len (with_ended pending key index longest t) = rw ended ((with_wait_grows longest (record { key = key; ticket = t; from = since; to = index })).1) in
    omega (arith, here, waits_grow pending key index (with_ended pending key index longest t) tickets)
wait_is_within pending key index longest (t ∷ tickets) (suc k) ticket since at open_since =
    wait_is_within pending key index (with_ended pending key index longest t) tickets k ticket since at open_since

step_wait_grows : (f : Findings) (x : TracedStep) → wait_len f.wait ≤ wait_len (after_step f x).wait
step_wait_grows f x =
    let kept = ap wait_len (with_key_keeps f x.key).1 in
    omega (arith, kept, waits_grow (pending_at x (with_key f x.key).pending) x.key x.index (with_key f x.key).wait x.tickets)

all_waits_grow : (f : Findings) (steps : List TracedStep) → wait_len f.wait ≤ wait_len (fold after_step f steps).wait
all_waits_grow f [] = omega arith
all_waits_grow f (x ∷ steps) = omega (arith, step_wait_grows f x, all_waits_grow (after_step f x) steps)

-- if a step lets a ticket through whose wait is open, then that wait is not longer than the longest one.
abbrev pub NoLongerWait : Type 0
NoLongerWait = (past rest : List TracedStep) (x : TracedStep) (k : ℕ) (ticket : Wait) (since : ℕ) →
    slice_get x.tickets k ≡ Some ticket → since_of (pending_at x (with_key (findings_of past) x.key).pending) ticket ≡ Some since →
    x.index - since ≤ wait_len (findings_of (past ++ x ∷ rest)).wait

pub no_longer_wait : NoLongerWait
no_longer_wait past rest x k ticket since at open_since =
    let f = with_key (findings_of past) x.key in
    let here = wait_is_within (pending_at x f.pending) x.key x.index f.wait x.tickets k ticket since at open_since in
    rw (fold-append after_step no_findings past (x ∷ rest)) (omega (arith, here, all_waits_grow (after_step (findings_of past) x) rest))
