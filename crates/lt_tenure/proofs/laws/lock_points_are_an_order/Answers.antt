use Rattle.lt_tenure.proofs.Lists.{prefixes_are_an_order}
use Rattle.lt_tenure.proofs.laws.lock_points_are_an_order.Goals as goal

pub returns : goal.returns
returns c = prefixes_are_an_order
