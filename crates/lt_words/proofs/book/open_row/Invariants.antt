use Rattle.std.proofs.Common.{◌≡◌, ℕ, ◌+◌, ◌<◌, length, get_or}
use Rattle.lt_words.specs.declared.cache_line.CacheLine.{CacheLine}
use Rattle.lt_words.specs.Rules.{word_at}
use Rattle.lt_words.proofs.book.open_row.Given as goal

abbrev pub invariant-loop-i : goal.invariant-loop-i
invariant-loop-i l = record {
  book : l.pens.book ≡ l.start.book;
  next : l.pens.next ≡ l.i;
  left : l.pens.left + l.i ≡ l.many;
  many : length l.lines.items ≡ l.i;
  each : (k : ℕ) (d : CacheLine) → k < length l.lines.items → (get_or l.lines.items k d).word ≡ word_at l.start.book k;
}
