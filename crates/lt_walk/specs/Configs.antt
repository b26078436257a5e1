-- The numbers with which a table is opened, their ranges, and what a table is opened over.
use Rattle.std.specs.Prelude.{ℕ, ◌≡◌, ◌⊎◌, ◌&&◌, ◌<◌, ◌≤◌, Bool, nat_le, if◌then◌else◌, Option, Some, None, List, length, slice_index_or}
use Rattle.lt_words.specs.Row.{Opening}
use Rattle.lt_shard.specs.Shards.{View, new_shard}
use Rattle.lt_walk.specs.declared.config.Config.{Config}
use Rattle.lt_walk.specs.declared.config.PrepareError.{PrepareError}
use Rattle.lt_walk.specs.declared.config.PrepareError.TheVariants.{Shards, Passes, Steps, Requests, Waits, Memory}
use Rattle.lt_ids.specs.declared.limits.TheConstants.{MAX_PASS, MAX_REQUEST, MAX_SHARDS, MAX_STEPS, MAX_WAIT}

abbrev pub is_between : ℕ → ℕ → ℕ → Bool
is_between low high n = nat_le low n && nat_le n high

-- the first number that is out of its range
abbrev pub fault : Config → Option PrepareError
fault c =
    if is_between 1 MAX_SHARDS c.shards
    then if is_between 1 MAX_PASS c.passes
    then if is_between 1 MAX_STEPS c.max_steps
    then if is_between 1 MAX_REQUEST c.max_requests
    then if is_between 1 MAX_WAIT c.max_waits then None else Some Waits
    else Some Requests
    else Some Steps
    else Some Passes
    else Some Shards

-- Why a book with this configuration is not prepared: its first number that is out of its range. If there is none,
-- memory ran out.
abbrev pub IsUnprepared : Config → PrepareError → Type 0
IsUnprepared c e = (fault c ≡ Some e) ⊎ ((fault c ≡ None) × (e ≡ Memory))

-- Each number is in its range.
pub record IsConfig (c : Config) : Type 0 where
  pub some_shards : 1 ≤ c.shards
  pub few_shards : c.shards ≤ MAX_SHARDS
  pub some_passes : 1 ≤ c.passes
  pub few_passes : c.passes ≤ MAX_PASS
  pub some_steps : 1 ≤ c.max_steps
  pub few_steps : c.max_steps ≤ MAX_STEPS
  pub some_requests : 1 ≤ c.max_requests
  pub few_requests : c.max_requests ≤ MAX_REQUEST
  pub some_waits : 1 ≤ c.max_waits
  pub few_waits : c.max_waits ≤ MAX_WAIT

-- Each number is in its range, and the book has the configuration's numbers of shards and passes.
pub record IsOpened (c : Config) (of : Opening) : Type 0 where
  pub config : IsConfig c
  pub shards : of.shards ≡ c.shards
  pub passes : of.passes ≡ c.passes

-- what contracts see of a prepared book whose passes are not handed out yet
pub record ReadyState : Type 0 where
  pub config : Config
  pub of : Opening

-- Each of these shards has its index, may hold max_steps steps, and has made none.
abbrev pub AreNewShards : Opening → ℕ → List View → Type 0
AreNewShards of max_steps vs = (s : ℕ) (v : View) → s < length vs → slice_index_or vs s v ≡ new_shard of s max_steps
