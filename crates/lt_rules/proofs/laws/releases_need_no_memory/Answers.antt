use Rattle.lt_rules.proofs.Rooms.{releases_need_no_memory}
use Rattle.lt_rules.proofs.laws.releases_need_no_memory.Goals as goal

pub returns : goal.returns
returns c = releases_need_no_memory
