use Rattle.std.proofs.Common.{◌≡◌, ◌+◌, ◌≤◌, length, vec_capacity}
use Rattle.example_values.specs.Values.{AreWords}
use Rattle.example_values.proofs.log.ValueBook.open.Given as goal

abbrev pub invariant-loop-shard : goal.invariant-loop-shard
invariant-loop-shard l = record {
  book : l.pens.book ≡ l.seen.book;
  next : l.pens.next ≡ l.shard;
  left : l.pens.left + l.shard ≡ 64;
  many : length l.words.items ≡ l.shard;
  room : 64 ≤ vec_capacity l.words;
  words : AreWords l.seen.book l.words.items;
}
