use Rattle.std.proofs.Common.{rules}
use Rattle.lt_links.proofs.txns.retally.Goals as goal

pub returns-clause-ok : goal.returns-clause-ok
returns-clause-ok c = (λ same. search rules, λ apart. record { between = c.tally_in.new.txns; comes = c.in_ok-tally_in.ensures.ok; goes = c.tally_out.ensures })
