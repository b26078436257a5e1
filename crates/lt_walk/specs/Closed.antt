-- What a leave gives back, and what is left of a table that is closed.
use Rattle.std.specs.Prelude.{ℕ, true, ◌≡◌, ◌+◌, ◌<◌, ◌≤◌, ◌++◌, List, [], ◌∷◌, map, length, drop, slice_index, slice_index_or, vec_capacity, Result, Ok, Err}
use Rattle.std.specs.Global.{Vec}
use Rattle.std.specs.List.{AllByRecursion}
use mathlib.Core.List.{IsPrefix}
use Rattle.lt_ids.specs.declared.ticket.Through.{Through}
use Rattle.lt_entry.specs.declared.entry.Entry.{Entry}
use Rattle.lt_entry.specs.Legal.{AreLegalKeys}
use Rattle.lt_entry.specs.Ranges.{IsInRange}
use Rattle.lt_words.specs.declared.event.Event.{Event}
use Rattle.lt_words.specs.declared.keeping.Keeping.TheVariants.{Whole, Streamed, Unrecorded}
use Rattle.lt_words.specs.History.{part, draws_of, shard_of, IsLegalHistory}
use Rattle.lt_words.specs.Shown.{AreShown, AreLet}
use Rattle.lt_words.specs.Row.{Opening, PassState}
use Rattle.lt_shard.specs.declared.holding.Rest.{Rest}
use Rattle.lt_shard.specs.Shards.{View}
use Rattle.lt_walk.specs.declared.config.Config.{Config}
use Rattle.lt_walk.specs.declared.closing.Rests.{Rests}
use Rattle.lt_walk.specs.declared.closing.Wanted.{Wanted}
use Rattle.lt_walk.specs.declared.closing.PassCount.{PassCount}
use Rattle.lt_walk.specs.declared.closing.PassCount.TheVariants.{Made, Taken}
use Rattle.lt_walk.specs.declared.closing.CloseError.{CloseError}
use Rattle.lt_walk.specs.declared.closing.CloseError.TheVariants.{PassesOut, Memory, Counts}
use Rattle.lt_walk.specs.declared.leaving.Left.{Left}
use Rattle.lt_walk.specs.declared.leaving.LeaveStopped.{LeaveStopped}
use Rattle.lt_walk.specs.Reported.{GuardState, AllLeft, StoppedLeaving}

-- What a leave answers.
abbrev pub IsLeave : {E : Type 0} → GuardState → Result Left (LeaveStopped E) → Type 0
IsLeave old (Ok left) = AllLeft old left.pass left.answers.items
IsLeave old (Err e) = StoppedLeaving old e.guard

-- the steps that a pass counts for each shard: those that it made there, or those that it took out
abbrev pub tally : PassCount → PassState → List ℕ
tally Made p = p.counts
tally Taken p = p.taken

-- how many of these steps the passes count at a shard, together
abbrev pub tallied_at : PassCount → ℕ → List PassState → ℕ
tallied_at t s [] = 0
tallied_at t s (p ∷ ps) = slice_index (tally t p) s + tallied_at t s ps

-- how many steps these passes made at a shard, together
abbrev pub counts_at : ℕ → List PassState → ℕ
counts_at s ps = tallied_at Made s ps

-- how many steps these passes took out of a shard, together
abbrev pub taken_at : ℕ → List PassState → ℕ
taken_at s ps = tallied_at Taken s ps

-- the passes that are handed back, alone or in a guard, in this order
abbrev pub passes_of : List PassState → List GuardState → List PassState
passes_of passes guards = passes ++ map (λ g. g.pass) guards

-- es is the final history of shard s.
pub record IsFinal (of : Opening) (ps : List PassState) (whole : List Event) (s : ℕ) (es : List Entry) : Type 0 where
  -- it is legal at every key, each step is in the shard of its key, and it can be written in a text of histories
  pub legal : AreLegalKeys es
  pub home : AllByRecursion (λ e. s ≡ shard_of e.key of.shards) es
  pub in_range : AllByRecursion IsInRange es
  -- it has exactly as many steps as the passes made there
  pub counted : length es ≡ counts_at s ps
  -- what each pass had seen of the shard is a prefix of it
  pub seen : AllByRecursion (λ p. IsPrefix (part s p.seen) es) ps
  -- it is a prefix of the shard's part of the one history of all shards
  pub stands : IsPrefix es (part s whole)

-- One history for each shard; one legal history of all shards, which extends what each pass had seen; and one list
-- of the lets that were shown, which extends what each pass had seen shown.
pub record IsClosed (of : Opening) (ps : List PassState) (shards : List (Vec Entry)) (draws : ℕ) : Type 0 where
  pub whole : List Event
  pub legal : IsLegalHistory of.shards whole
  pub seen : AllByRecursion (λ p. IsPrefix p.seen whole) ps
  pub whole_shown : List Through
  pub let_through : AreLet whole whole_shown
  pub shown : AllByRecursion (λ p. IsPrefix p.shown whole_shown) ps
  pub draws_are : draws ≡ draws_of whole
  pub many : length shards ≡ of.shards
  pub each : (s : ℕ) (d : Vec Entry) → s < of.shards → IsFinal of ps whole s (slice_index_or shards s d).items
  -- each let of these histories was shown to the pass that waited
  pub lets_shown : (s : ℕ) (d : Vec Entry) → s < of.shards → AllByRecursion (λ e. AreShown whole_shown e.lets) (slice_index_or shards s d).items

-- What is left of a shard: its final history from this index on.
pub record IsRest (of : Opening) (ps : List PassState) (whole : List Event) (whole_shown : List Through) (s from : ℕ) (es : List Entry) : Type 0 where
  -- the whole final history; its first steps may be gone
  pub all : List Entry
  pub final : IsFinal of ps whole s all
  -- each of its lets was shown to the pass that waited
  pub lets_shown : AllByRecursion (λ e. AreShown whole_shown e.lets) all
  pub within : from ≤ length all
  pub rest : es ≡ drop from all
  -- nothing of a whole table is gone, and nothing of an unrecorded one is left
  pub is_whole : of.keeping ≡ Whole → from ≡ 0
  pub unrecorded : of.keeping ≡ Unrecorded → es ≡ []
  -- of a streamed table exactly the steps are gone that the passes took out
  pub streamed : of.keeping ≡ Streamed → from ≡ taken_at s ps

-- What is left of each shard; one legal history of all shards, which extends what each pass had seen; and one list
-- of the lets that were shown, which extends what each pass had seen shown.
pub record IsClosedRest (of : Opening) (ps : List PassState) (rests : List Rest) (draws : ℕ) : Type 0 where
  pub whole : List Event
  pub legal : IsLegalHistory of.shards whole
  pub seen : AllByRecursion (λ p. IsPrefix p.seen whole) ps
  pub whole_shown : List Through
  pub let_through : AreLet whole whole_shown
  pub shown : AllByRecursion (λ p. IsPrefix p.shown whole_shown) ps
  pub draws_are : draws ≡ draws_of whole
  pub many : length rests ≡ of.shards
  pub each : (s : ℕ) (d : Rest) → s < of.shards → IsRest of ps whole whole_shown s (slice_index_or rests s d).from (slice_index_or rests s d).entries.items

-- This is what is left of a table that is closed with these passes and guards.
abbrev pub AreRestsOf : Opening → List PassState → List GuardState → Rests → Type 0
AreRestsOf of passes guards rests = IsClosedRest of (passes_of passes guards) rests.shards.items rests.draws

-- The vector is empty and has room for this many items.
abbrev pub IsRoomFor : {A : Type 0} → ℕ → Vec A → Type 0
IsRoomFor n v = (v.items ≡ []) × (n ≤ vec_capacity v)

-- No steps of any shard are gone.
abbrev pub AreWhole : Opening → List Rest → Type 0
AreWhole of rests = (s : ℕ) (d : Rest) → s < of.shards → (slice_index_or rests s d).from ≡ 0

-- Why a table with this configuration is not closed when this many passes are handed back. Counts names one of its
-- shards.
abbrev pub IsUnclosed : CloseError → ℕ → Config → Type 0
IsUnclosed (PassesOut missing) handed c = (0 < missing) × (handed + missing ≡ c.passes)
IsUnclosed Memory handed c = c.passes ≤ handed
IsUnclosed (Counts index) handed c = (c.passes ≤ handed) × (index < c.shards)

-- A close of the table with configuration c, with passes ps and guards gs, was refused with this error, and what came
-- back, a table with configuration d, passes qs and guards hs, is as it was.
pub record IsGivenBack (c : Config) (ps : List PassState) (gs : List GuardState) (e : CloseError) (d : Config) (qs : List PassState) (hs : List GuardState) : Type 0 where
  pub reason : IsUnclosed e (length ps + length gs) c
  pub table : d ≡ c
  pub passes : qs ≡ ps
  pub guards : hs ≡ gs

-- ---- while a table is being closed

-- The shard has this index and has made as many steps as these passes made there. It may hold as many steps as is
-- wanted, and it holds all of its steps if that is wanted. A streamed table's shard holds all but those that the passes
-- took out.
pub record IsCounted (wanted : Wanted) (ps : List PassState) (s : ℕ) (v : View) : Type 0 where
  pub index : v.index ≡ s
  pub counted : length v.stored ≡ counts_at s ps
  pub limit : v.max_steps ≡ wanted.max_steps
  pub whole : wanted.whole ≡ true → v.before ≡ 0
  pub streamed : wanted.keeping ≡ Streamed → v.before ≡ taken_at s ps

-- The first n of these shards are counted in this sense.
abbrev pub AreCounted : Wanted → List PassState → List View → ℕ → Type 0
AreCounted wanted ps vs n = (s : ℕ) (v : View) → s < n → IsCounted wanted ps s (slice_index_or vs s v)

-- The error names the first of these shards that is not counted.
abbrev pub IsMiscount : Wanted → List PassState → List View → CloseError → Type 0
IsMiscount wanted ps vs (Counts index) = (index < length vs) × AreCounted wanted ps vs index × ((v : View) → IsCounted wanted ps index (slice_index_or vs index v) → ⊥)
IsMiscount wanted ps vs (PassesOut missing) = ⊥
IsMiscount wanted ps vs Memory = ⊥

-- A pass met a shard: what it had seen of the shard is a prefix of the shard's history, which is a prefix of what
-- the pass has then seen of the shard.
pub record IsMet (of : Opening) (old new : PassState) (s : ℕ) (es : List Entry) : Type 0 where
  pub legal : AreLegalKeys es
  pub home : AllByRecursion (λ e. s ≡ shard_of e.key of.shards) es
  pub in_range : AllByRecursion IsInRange es
  pub within : IsPrefix (part s old.seen) es
  pub behind : IsPrefix es (part s new.seen)
  -- the pass has then seen that each let of the shard's history was shown
  pub shown : AllByRecursion (λ e. AreShown new.shown e.lets) es

-- The pass met this shard, and t is what is left of the shard.
pub record IsEnded (of : Opening) (old new : PassState) (s : ℕ) (v : View) (t : Rest) : Type 0 where
  pub met : IsMet of old new s v.stored
  pub from : t.from ≡ v.before
  pub entries : t.entries.items ≡ v.held
  pub within : v.before ≤ length v.stored
  pub held : v.held ≡ drop v.before v.stored
  pub whole : of.keeping ≡ Whole → v.before ≡ 0
  pub unrecorded : of.keeping ≡ Unrecorded → v.held ≡ []
  pub limit : length t.entries.items ≤ v.max_steps

-- The pass met each of these shards, and rests is what is left of them.
pub record AreEnded (of : Opening) (old new : PassState) (shards : List View) (rests : List Rest) : Type 0 where
  pub many : length rests ≡ length shards
  pub each : (s : ℕ) (v : View) (t : Rest) → s < length shards → IsEnded of old new s (slice_index_or shards s v) (slice_index_or rests s t)
