use Rattle.lt_text.proofs.Cuts.{position_of_first}
use Rattle.lt_text.proofs.words.line_end.Goals as goal

pub returns : goal.returns
returns c = position_of_first 10 c.args.bytes.now c.memchr.result c.memchr.ensures
