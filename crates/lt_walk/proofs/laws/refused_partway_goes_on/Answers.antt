use Rattle.lt_walk.proofs.Resumed.{refused_partway_goes_on}
use Rattle.lt_walk.proofs.laws.refused_partway_goes_on.Goals as goal

pub returns : goal.returns
returns c = refused_partway_goes_on
