-- The record of a key with the front of its queues alone.
use Rattle.std.specs.Prelude.{ℕ, take}
use Rattle.lt_rules.specs.Rules.{Record}

-- the record with at most this many writers and at most as many readers, the first ones of each queue
abbrev pub front_of : ℕ → Record → Record
front_of most r = record r { writers = take most r.writers; readers = take most r.readers }
