use Rattle.std.proofs.Common.{rules}
use Rattle.lt_runner.proofs.act.poll_answer.Goals as goal

pub returns-in-Idle : goal.returns-in-Idle
returns-in-Idle c = search rules
