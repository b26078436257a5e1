use Rattle.std.proofs.Common.{◌∙◌, sym, arith}
use Rattle.lt_lock.proofs.LeastKeys.{no_place}
use Rattle.lt_lock.proofs.keys.has_no_place.Goals as goal

pub returns-in-Some : goal.returns-in-Some
returns-in-Some c t = no_place c.args.at_most c.args.least.now.keys c.args.key.now c.in-Some.last.now (omega arith) (sym c.le.ensures ∙ t) c.in-Some.ensures.all_up_to
