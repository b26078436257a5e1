-- What the statistics hold of the steps that they have taken, and what a summary says of them.
use Rattle.std.specs.Prelude.{ℕ, ◌≡◌, ◌+◌, List, length, count_by, sum_by, slice_get, drop, Some}
use Rattle.std.specs.BTreeMap.{IsEmpty}
use Rattle.lt_trace_statistics.specs.declared.summary.StepCounts.{StepCounts}
use Rattle.lt_trace_statistics.specs.declared.summary.TextSummary.{TextSummary}
use Rattle.lt_trace_statistics.specs.declared.statistics.Statistics.{Statistics}
use Rattle.lt_trace_statistics.specs.Findings.{TracedStep, Findings, capped, is_must_wait, hottest_of, ranked_after, blank_key, findings_of}
use Rattle.lt_trace_statistics.specs.OpenWaits.{HasWaits}

-- The statistics hold these findings. Of the keys before the latest one, they hold the hottest.
pub record AreFindings (s : Statistics) (f : Findings) : Type 0 where
  pub keys : s.counts.keys ≡ capped (length f.keys)
  pub latest : s.latest ≡ slice_get f.keys 0
  pub earlier : s.earlier.items ≡ hottest_of (drop 1 f.keys)
  pub pending : HasWaits s.pending f.pending
  pub queue : s.longest_queue ≡ f.queue
  pub wait : s.longest_wait ≡ f.wait

-- These are the numbers of the steps, of those with the reply `wait`, and of the tickets that they let through.
pub record AreSums (counts : StepCounts) (taken : List TracedStep) : Type 0 where
  pub steps : counts.steps ≡ capped (length taken)
  pub waits : counts.waits ≡ capped (count_by (λ x. is_must_wait x.reply) taken)
  pub lets : counts.lets ≡ capped (sum_by (λ x. length x.tickets) taken)

-- The statistics have taken exactly these steps.
pub record HasGathered (s : Statistics) (steps : List TracedStep) : Type 0 where
  pub findings : AreFindings s (findings_of steps)
  pub sums : AreSums s.counts steps

-- The summary is that of these steps.
pub record Summarizes (steps : List TracedStep) (summary : TextSummary) : Type 0 where
  pub sums : AreSums summary.counts steps
  pub keys : summary.counts.keys ≡ capped (length (findings_of steps).keys)
  pub queue : summary.longest_queue ≡ (findings_of steps).queue
  pub wait : summary.longest_wait ≡ (findings_of steps).wait
  pub hottest : summary.hottest.items ≡ hottest_of (findings_of steps).keys

-- ---- one step

-- All counts but that of the keys are as before.
pub record KeepsSums (old new : StepCounts) : Type 0 where
  pub steps : new.steps ≡ old.steps
  pub waits : new.waits ≡ old.waits
  pub lets : new.lets ≡ old.lets

-- The latest key is ranked, and this key is the latest one, without steps.
pub record StartsKey (old new : Statistics) (key : List ℕ) : Type 0 where
  pub keys : new.counts.keys ≡ capped (old.counts.keys + 1)
  pub latest : new.latest ≡ Some (blank_key key)
  pub earlier : new.earlier.items ≡ ranked_after old.latest old.earlier.items
  pub pending : IsEmpty new.pending
  pub queue : new.longest_queue ≡ old.longest_queue
  pub wait : new.longest_wait ≡ old.longest_wait
