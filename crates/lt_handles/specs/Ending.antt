-- How a shared table ends: its passes come back, and what is left of it.
use Rattle.std.specs.Prelude.{ℕ, ◌≡◌, ◌≢◌, ◌≤◌, ◌<◌, ◌⊎◌, List, [], length, nat_lt, slice_get, if◌then◌else◌, Option, Some, None}
use Rattle.std.specs.List.{All}
use Rattle.std.specs.Arc.{arc_value}
use Rattle.lt_words.specs.Row.{PassState}
use Rattle.lt_shard.specs.declared.holding.Rest.{Rest}
use Rattle.lt_walk.specs.declared.closing.Rests.{Rests}
use Rattle.lt_walk.specs.Closed.{IsClosedRest}
use Rattle.lt_try.specs.Tags.{TableState}
use Rattle.lt_handles.specs.declared.content.Content.TheVariants.{Shared, Pass, Ending, Ended, Steps}
use Rattle.lt_handles.specs.declared.held_shared.HeldShared.{HeldShared}
use Rattle.lt_handles.specs.declared.held_ending.HeldEnding.{HeldEnding}
use Rattle.lt_handles.specs.Content.{ContentState}

-- ---- a pass comes back

-- The call answers that the handle holds no pass that could come back. If it holds one, the pass has come back, or its seat was
-- taken, as it never is.
abbrev pub IsBackUnless : Option ContentState → ℕ → Type 0
IsBackUnless (Some (Pass held)) result = result ≢ 0 → result ≡ 15
IsBackUnless _ result = result ≡ 1

-- ---- the end

-- The table has ended with passes of its own, at least as many as it has. What is left of each shard is its final history from
-- some index on; and one legal history of all shards extends what each of these passes had seen, and has as many draws.
pub record EndsTable (table : TableState) (rests : Rests) : Type 0 where
  pub passes : List PassState
  pub of : All (λ p. p.of ≡ table.of) passes
  pub enough : table.config.passes ≤ length passes
  pub closed : IsClosedRest table.of passes rests.shards.items rests.draws
  pub limit : All (λ r. length r.entries.items ≤ table.config.max_steps) rests.shards.items

-- the table that a handle may end
abbrev pub table_to_end : Option ContentState → Option TableState
table_to_end (Some (Shared held)) = Some (arc_value held.table)
table_to_end (Some (Ending held)) = Some held.table
table_to_end _ = None

-- This table ended, and the handle holds what is left of it.
abbrev pub EndsHere : Option TableState → Option ContentState → ℕ → Type 0
EndsHere (Some table) (Some (Ended rests)) draws = EndsTable table rests × (draws ≡ rests.draws)
EndsHere _ _ draws = ⊥

-- The call answers that the handle holds no table that it could end. If it holds one, it has ended unless passes are out, an
-- allocation fails, or another call has the table; or, as never happens, the counts disagree or a shard is lost.
abbrev pub IsEndedUnless : Option TableState → ℕ → Type 0
IsEndedUnless None result = result ≡ 1
IsEndedUnless (Some table) result = result ≢ 0 → (result ≡ 2) ⊎ ((result ≡ 12) ⊎ ((result ≡ 15) ⊎ ((result ≡ 76) ⊎ (result ≡ 77))))

-- The table was not ended, and is as it was. It may be that no other handle knows it any more; then its passes are all back.
abbrev pub StaysOpen : Option ContentState → Option ContentState → Type 0
StaysOpen (Some (Shared before)) (Some (Ending after)) = after.table ≡ arc_value before.table
StaysOpen (Some (Ending before)) (Some (Ending after)) = (after.table ≡ before.table) × (after.passes.items ≡ before.passes.items)
StaysOpen before after = after ≡ before

-- ---- what is left

-- What was left of the shard with this index is given. Of the other shards and of the draws nothing has changed, and of this one
-- no step is left to give.
pub record GivesRest (shard : ℕ) (given : Rest) (before after : Rests) : Type 0 where
  pub was : slice_get before.shards.items shard ≡ Some given
  pub now : (r : Rest) → slice_get after.shards.items shard ≡ Some r → (r.from ≡ given.from) × (r.entries.items ≡ [])
  pub others : (s : ℕ) → s ≢ shard → slice_get after.shards.items s ≡ slice_get before.shards.items s
  pub draws : after.draws ≡ before.draws

-- The same between handles.
abbrev pub GivesRestFrom : ℕ → Option ContentState → Option ContentState → Option ContentState → Type 0
GivesRestFrom shard (Some (Ended before)) (Some (Ended after)) (Some (Steps given)) = GivesRest shard given before after
GivesRestFrom shard _ _ _ = ⊥

-- why nothing is given of the shard with this index: no table was ended through the handle, or it had no such shard
abbrev pub rest_refusal : Option Rests → ℕ → Option ℕ
rest_refusal None shard = Some 1
rest_refusal (Some rests) shard = if nat_lt shard (length rests.shards.items) then None else Some 27
