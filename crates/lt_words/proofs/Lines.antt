-- The word at an index of the row is the book's word there.
use Rattle.std.proofs.Common.{◌≡◌, ℕ, ◌<◌, List, length, get_or, ap, ◌∙◌}
use Rattle.logbook.specs.Pages.{Book}
use Rattle.lt_words.specs.declared.cache_line.CacheLine.{CacheLine}
use Rattle.lt_words.specs.Rules.{word_at}
use Rattle.lt_words.specs.Row.{Opening, IsWordRow}

pub word_of : (of : Opening) (lines : List CacheLine) (book : Book) (k : ℕ) (line : CacheLine) → IsWordRow of lines → of.book ≡ book → k < length lines → line ≡ get_or lines k line → line.word ≡ word_at book k
word_of of lines book k line row same inside at = ap (λ l. l.word) at ∙ (row.each k line inside ∙ ap (λ b. word_at b k) same)
