use Rattle.std.proofs.Common.{rules}
use Rattle.lt_words.proofs.book.Book.open.Goals as goal

pub returns-clause-whole : goal.returns-clause-whole
returns-clause-whole c = search rules
