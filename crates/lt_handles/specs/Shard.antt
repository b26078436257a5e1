-- How keys are spread over shards.
use Rattle.std.specs.Prelude.{ℕ, ◌%◌, List, sum}

-- the sum of the bytes modulo the number of shards
abbrev pub shard_of_bytes : List ℕ → ℕ → ℕ
shard_of_bytes key shards = sum key % shards
