use Rattle.std.proofs.Common.{◌∙◌, ap, sym, option_copied}
use Rattle.lt_rules.specs.Table.{comes_after}
use Rattle.lt_lock.proofs.LeastKeys.{least_of, least_keys}
use Rattle.lt_lock.proofs.keys.least_keys.Goals as goal

pub returns : goal.returns
returns c =
    ap (least_of (comes_after (option_copied c.args.after)) c.args.at_most c.loop-key.least.keys) (sym c.in-None.ensures.steps.0)
    ∙ c.loop-key.invariant.0
    ∙ least_keys c.args.links.now c.args.rows.now (option_copied c.args.after) c.args.at_most
