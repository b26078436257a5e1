-- What the answers of all passes tell, in the final histories.
use Rattle.std.specs.Prelude.{ℕ, ◌≡◌, ◌≢◌, ◌<◌, ◌+◌, List, [], ◌∷◌, ◌++◌, length, map, Some, slice_get, slice_index_or}
use Rattle.std.specs.List.{flat_map, AllByRecursion}
use Rattle.lt_ids.specs.Ids.{Wait}
use Rattle.lt_entry.specs.declared.entry.Entry.{Entry}
use Rattle.lt_words.specs.History.{shard_of, IsLetAmong}
use Rattle.lt_walk.specs.Machine.{Step}
use Rattle.lt_walk.specs.Reported.{steps_at}
use Rattle.lt_runner.specs.Outcomes.{StandsAt}
use Rattle.lt_runner.specs.Machine.{ExecutedLine, numbers_of_executed, lets_of_executed}
use Rattle.lt_runner.specs.Worked.{steps_of_executed}

-- The history of each shard at the end.
abbrev pub Finals : Type 0
Finals = List (List Entry)

abbrev pub final_of : Finals → ℕ → List Entry
final_of finals s = slice_index_or finals s []

-- A step, with the number of the pass that made it.
pub record Made : Type 0 where
  pub pass : ℕ
  pub step : Step

abbrev pub made_by : ℕ → Step → Made
made_by pass x = record { pass = pass; step = x }

-- The steps of the executed lines of the passes from this number on.
abbrev pub made_from : ℕ → List (List ExecutedLine) → List Made
made_from n [] = []
made_from n (ds ∷ dss) = map (made_by n) (flat_map steps_of_executed ds) ++ made_from (n + 1) dss

-- The step is at its index in the final history of its shard.
abbrev pub IsInFinalHistory : ℕ → Finals → Made → Type 0
IsInFinalHistory shards finals m = StandsAt m.pass (final_of finals (shard_of m.step.key shards)) m.step

-- Two steps of one shard never have the same index. If both are of one pass, the second has the greater index.
abbrev pub IsApart : ℕ → Made → Made → Type 0
IsApart shards m n = shard_of m.step.key shards ≡ shard_of n.step.key shards →
    (m.step.answer.at ≢ n.step.answer.at) × (m.pass ≡ n.pass → m.step.answer.at < n.step.answer.at)

abbrev pub Apart : ℕ → List Made → Type 0
Apart shards [] = Unit {0}
Apart shards (m ∷ ms) = AllByRecursion (IsApart shards m) ms × Apart shards ms

-- How many steps the executed lines of the passes made in a shard.
abbrev pub made_at : ℕ → ℕ → List (List ExecutedLine) → ℕ
made_at shards s [] = 0
made_at shards s (ds ∷ dss) = steps_at shards s (flat_map steps_of_executed ds) + made_at shards s dss

-- The final histories hold no other steps: each is exactly as long as the number of steps made in its shard.
abbrev pub AreAll : ℕ → Finals → List (List ExecutedLine) → Type 0
AreAll shards finals dss = (s : ℕ) → s < shards → length (final_of finals s) ≡ made_at shards s dss

abbrev pub NumbersDiffer : List ℕ → Type 0
NumbersDiffer [] = Unit {0}
NumbersDiffer (n ∷ ns) = AllByRecursion (λ m. n ≢ m) ns × NumbersDiffer ns

abbrev pub run_numbers : List ExecutedLine → List ℕ
run_numbers ds = flat_map numbers_of_executed ds

-- Some step of the final histories lets this ticket of this pass through.
pub record IsLetThere (finals : Finals) (pass : ℕ) (t : Wait) : Type 0 where
  pub shard : ℕ
  pub index : ℕ
  pub entry : Entry
  pub stands : slice_get (final_of finals shard) index ≡ Some entry
  pub lets : IsLetAmong entry.lets pass t

-- Each ticket with which a pass proceeded was let through.
abbrev pub TicketsAreLet : Finals → ℕ → List (List ExecutedLine) → Type 0
TicketsAreLet finals n [] = Unit {0}
TicketsAreLet finals n (ds ∷ dss) = AllByRecursion (IsLetThere finals n) (flat_map lets_of_executed ds) × TicketsAreLet finals (n + 1) dss

-- Everything that the answers of the passes from this number on tell is in the final histories. Each step is at its
-- index, with its pass, key, call and reply. No two steps of a shard have the same index, and of one pass and shard
-- the step of the later line has the greater index. No number was drawn twice. Each request that proceeded after a
-- wait was let through.
pub record AllStandAtTheEnd (shards : ℕ) (finals : Finals) (n : ℕ) (dss : List (List ExecutedLine)) : Type 0 where
  pub stand : AllByRecursion (IsInFinalHistory shards finals) (made_from n dss)
  pub apart : Apart shards (made_from n dss)
  pub distinct : NumbersDiffer (flat_map run_numbers dss)
  pub lets : TicketsAreLet finals n dss
