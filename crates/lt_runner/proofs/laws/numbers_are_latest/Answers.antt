use Rattle.lt_runner.proofs.Latest.{numbers_latest}
use Rattle.lt_runner.proofs.laws.numbers_are_latest.Goals as goal

pub returns : goal.returns
returns c = numbers_latest
