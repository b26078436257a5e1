-- Why a call of the table is refused.
use Rattle.std.specs.Prelude.{◌≡◌, ◌≢◌, true}
use Rattle.lt_rules.specs.declared.call.Call.{Call}
use Rattle.lt_rules.specs.Memory.{gives_up}
use Rattle.lt_words.specs.declared.keeping.Keeping.{Keeping}
use Rattle.lt_words.specs.declared.keeping.Keeping.TheVariants.{Unrecorded}
use Rattle.lt_shard.specs.declared.answer.OnceError.{OnceError}
use Rattle.lt_shard.specs.declared.answer.OnceError.TheVariants as once
use Rattle.lt_try.specs.declared.error.TryError.{TryError}
use Rattle.lt_try.specs.declared.error.TryError.TheVariants.{HistoryFull, Memory, Lost}

-- the error of a shard's step
abbrev pub of_once : OnceError → TryError
of_once once.HistoryFull = HistoryFull
of_once once.Memory = Memory
of_once once.Lost = Lost

-- A table that keeps its steps in this way may refuse the step of this call so. An unrecorded table is never full, and
-- memory is never refused there to a call that gives something up.
abbrev pub RefusesCallWith : Keeping → Call → TryError → Type 0
RefusesCallWith keeping call e = keeping ≡ Unrecorded → (e ≢ HistoryFull) × (e ≡ Memory → gives_up call ≢ true)

-- An unrecorded table refuses a call only because another caller is in the shard, or because the shard was lost.
abbrev pub RefusesForOthers : Keeping → TryError → Type 0
RefusesForOthers keeping e = keeping ≡ Unrecorded → (e ≢ HistoryFull) × (e ≢ Memory)
