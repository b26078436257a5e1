use Rattle.std.proofs.Common.{◌≡◌, length, vec_capacity}
use Rattle.lt_words.specs.Row.{fresh_passes}
use Rattle.lt_words.proofs.book.Book.all_passes.Given as goal

abbrev pub invariant-loop-i : goal.invariant-loop-i
invariant-loop-i l = (l.all.items ≡ fresh_passes l.self l.i) × (length l.all.items ≡ l.i) × (vec_capacity l.all ≡ l.passes)
