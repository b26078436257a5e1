use Rattle.std.proofs.Common.{rules}
use Rattle.lt_links.proofs.ends.join.Goals as goal

pub returns : goal.returns
returns c = search rules
