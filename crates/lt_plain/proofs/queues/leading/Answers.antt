use Rattle.std.proofs.Common.{◌∙◌}
use Rattle.lt_rules.proofs.Queue.{leading_is_prefix}
use Rattle.lt_plain.proofs.queues.leading.Goals as goal

pub returns-clause-leading : goal.returns-clause-leading
returns-clause-leading c = c.alone_in_front.ensures.front ∙ leading_is_prefix c.args.writers.now
