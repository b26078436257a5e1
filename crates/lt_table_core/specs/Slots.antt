-- In which order the shards of a table stand behind their locks.
use Rattle.std.specs.Prelude.{ℕ, ◌≡◌, ◌<◌, List, length, slice_index_or}
use Rattle.lt_table_core.specs.declared.table.Label.{Label}

-- The slots with these labels were opened with one shard each, in the order of their indices. Each shard may hold
-- max_steps steps.
abbrev pub AreInPlace : ℕ → List Label → Type 0
AreInPlace max_steps labels = (s : ℕ) (d : Label) → s < length labels → slice_index_or labels s d ≡ record { index = s; max_steps = max_steps }
