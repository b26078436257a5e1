-- What the definitions of the statistics amount to.
use Rattle.std.specs.Prelude.{ℕ, ◌≡◌, ◌≢◌, ◌-◌, ◌≤◌, false, List, [], ◌∷◌, ◌++◌, Some, IfSome, slice_get, IsPermutation}
use Rattle.std.specs.List.{AllByRecursion}
use Rattle.lt_trace_statistics.specs.declared.summary.HotKey.{HotKey}
use Rattle.lt_trace_statistics.specs.declared.summary.LongestWait.{LongestWait}
use Rattle.lt_trace_statistics.specs.Findings.{TracedStep, findings_of, queue_len, wait_len, is_hotter, ranking, mover_of, is_let_through, begun_waits}
use Rattle.lt_trace_statistics.specs.declared.waits.OpenWait.{OpenWait}

-- After no step is a queue longer than the longest one.
abbrev pub NoLongerQueue : Type 0
NoLongerQueue = (steps : List TracedStep) → AllByRecursion (λ x. x.queue ≤ queue_len (findings_of steps).queue) steps

-- No key is hotter than one before it.
abbrev pub IsHottestFirst : List HotKey → Type 0
IsHottestFirst [] = Unit {0}
IsHottestFirst (hot ∷ others) = AllByRecursion (λ other. is_hotter other hot ≡ false) others × IsHottestFirst others

-- A ranking has the same keys, and no key is hotter than one before it.
abbrev pub RankingIsHottestFirst : Type 0
RankingIsHottestFirst = (keys : List HotKey) → IsPermutation (ranking keys) keys × IsHottestFirst (ranking keys)

-- The step leaves the wait open: it is a step of its key, neither a visit nor a leave of its request, and it does not let
-- its ticket through.
pub record LeavesOpen (key : List ℕ) (w : OpenWait) (x : TracedStep) : Type 0 where
  pub at_key : x.key ≡ key
  pub not_moved : mover_of x.call ≢ Some w.ticket.number
  pub not_let : is_let_through x.tickets w.ticket ≡ false

-- The steps have this wait: a step of its key began it, all steps between leave it open, and then a step of its key, which
-- is neither a visit nor a leave of its request, lets its ticket through.
pub record IsEndedWait (steps : List TracedStep) (w : LongestWait) : Type 0 where
  pub before : List TracedStep
  pub began : TracedStep
  pub since : List TracedStep
  pub ended : TracedStep
  pub after : List TracedStep
  pub place : ℕ
  pub joined : steps ≡ (before ++ began ∷ since) ++ ended ∷ after
  pub at_key : began.key ≡ w.key
  pub begins : begun_waits began.call began.reply began.index ≡ record { ticket = w.ticket; since = w.from } ∷ []
  pub left_open : AllByRecursion (LeavesOpen w.key (record { ticket = w.ticket; since = w.from })) since
  pub ended_at_key : ended.key ≡ w.key
  pub not_moved : mover_of ended.call ≢ Some w.ticket.number
  pub is_let : slice_get ended.tickets place ≡ Some w.ticket
  pub index : ended.index ≡ w.to

-- The longest wait is a wait that a step ended, and no such wait is longer.
pub record LongestWaitIsLongest (steps : List TracedStep) : Type 0 where
  pub is_ended : IfSome (findings_of steps).wait (IsEndedWait steps)
  pub greatest : (w : LongestWait) → IsEndedWait steps w → w.to - w.from ≤ wait_len (findings_of steps).wait

abbrev pub LongestWaits : Type 0
LongestWaits = (steps : List TracedStep) → LongestWaitIsLongest steps
