use Rattle.std.proofs.Common.{◌∙◌, sym, ap, nat_le}
use Rattle.std.proofs.lemmas.List.{length-map}
use Rattle.lt_links.specs.Maps.{queue}
use Rattle.lt_row.specs.Row.{stand_at}
use Rattle.lt_row.proofs.queue_walk.has_at_least.Goals as goal

pub returns : goal.returns
returns c = ap (nat_le c.args.count) (c.len.ensures.len ∙ sym (length-map (queue c.args.links.now c.args.queue.now) (stand_at c.args.links.now)))
