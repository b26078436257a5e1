-- What a take of a shard's steps gives.
use Rattle.std.specs.Prelude.{ℕ, ◌≡◌, ◌≢◌, ◌+◌, ◌<◌, ◌≤◌, ◌++◌, List, length, drop, slice_index, slice_index_or}
use mathlib.Core.List.{IsPrefix}
use Rattle.lt_entry.specs.declared.entry.Entry.{Entry}
use Rattle.lt_words.specs.declared.event.Event.{Event}
use Rattle.lt_words.specs.declared.keeping.Keeping.TheVariants.{Streamed}
use Rattle.lt_words.specs.History.{part}
use Rattle.lt_words.specs.Row.{Opening, PassState}
use Rattle.lt_shard.specs.declared.holding.Rest.{Rest}
use Rattle.lt_walk.specs.declared.taking.Reader.{Reader}
use Rattle.lt_walk.specs.Closed.{IsClosedRest}

-- These are all steps of the shard's part of what was seen, from this index on.
pub record IsTaken (shard : ℕ) (seen : List Event) (from : ℕ) (entries : List Entry) : Type 0 where
  pub within : from ≤ length (part shard seen)
  pub are : entries ≡ drop from (part shard seen)

-- the reader once it was given these steps
abbrev pub reader_after : Reader → List Entry → Reader
reader_after reader entries = record reader { next = reader.next + length entries }

-- If the second of two takes of a shard begins at the index at which the first one ended, the steps of both, one
-- after the other, are all steps from the first one's index on: none is missing, and none is there twice.
abbrev pub TakesJoin : Type 0
TakesJoin = (shard from from' : ℕ) (whole seen seen' : List Event) (es es' : List Entry) → IsPrefix seen whole → IsPrefix seen' whole →
    IsTaken shard seen from es → IsTaken shard seen' from' es' → from' ≡ from + length es → IsTaken shard seen' from (es ++ es')

-- If what a close leaves of a shard begins at the index at which a take ended, the steps of the take and then those
-- that are left are the shard's final history from the take's first index on: none is missing, and none is there
-- twice. A pass that was handed back had seen what the take's pass had then seen.
abbrev pub RestJoins : Type 0
RestJoins = (of : Opening) (ps : List PassState) (rests : List Rest) (draws k s from : ℕ) (p : PassState) (seen : List Event) (es : List Entry) (d : Rest) (closed : IsClosedRest of ps rests draws) (here : s < of.shards) →
    k < length ps → p ≡ slice_index_or ps k p → IsPrefix seen p.seen → IsTaken s seen from es → (slice_index_or rests s d).from ≡ from + length es →
    es ++ (slice_index_or rests s d).entries.items ≡ drop from (closed.each s d here).all

-- If only one of the passes took steps out of a shard of a streamed table, what a close leaves of the shard begins where
-- its takes ended: after as many steps as it took.
abbrev pub RestFollowsOneReader : Type 0
RestFollowsOneReader = (of : Opening) (ps : List PassState) (rests : List Rest) (draws k s : ℕ) (p : PassState) (d : Rest) → IsClosedRest of ps rests draws → s < of.shards → of.keeping ≡ Streamed →
    k < length ps → p ≡ slice_index_or ps k p → ((j : ℕ) (q : PassState) → j < length ps → j ≢ k → q ≡ slice_index_or ps j q → slice_index q.taken s ≡ 0) →
    (slice_index_or rests s d).from ≡ slice_index p.taken s
