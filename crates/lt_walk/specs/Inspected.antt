-- What a look into a running table gives.
use Rattle.std.specs.Prelude.{ℕ, List}
use Rattle.lt_rules.specs.Rules.{Record}
use Rattle.lt_words.specs.declared.event.Event.{Event}
use Rattle.lt_words.specs.History.{part, key_record, shard_of}

-- the record of the key after the steps of its shard in what was seen
abbrev pub seen_record : List ℕ → ℕ → List Event → Record
seen_record key shards seen = key_record key (part (shard_of key shards) seen)
