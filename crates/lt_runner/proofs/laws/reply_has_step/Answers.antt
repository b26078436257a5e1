use Rattle.lt_runner.proofs.Replying.{reply_step}
use Rattle.lt_runner.proofs.laws.reply_has_step.Goals as goal

pub returns : goal.returns
returns c = reply_step
