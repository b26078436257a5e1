use Rattle.std.proofs.Common.{◌≡◌, vec_capacity}
use Rattle.lt_words.specs.Row.{SeesMore}
use Rattle.lt_walk.specs.Closed.{AreEnded}
use Rattle.lt_try.proofs.closing.end_shards.Given as goal

abbrev pub invariant-loop-shard : goal.invariant-loop-shard
invariant-loop-shard g l =
    SeesMore l.initial.last l.last × AreEnded l.book l.initial.last l.last l.yielded l.rests.items × (vec_capacity l.rests ≡ vec_capacity l.initial.rests)
