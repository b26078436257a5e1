use Rattle.std.proofs.Common.{◌<◌, ◌∙◌, subst, length, List, vec_capacity}
use Rattle.lt_ids.specs.declared.ticket.Through.{Through}
use Rattle.lt_plain.proofs.Sent.{sent_of}
use Rattle.lt_plain.proofs.queues.collect_of_txn.Goals as goal

pub returns-in-Ok-clause-ok : goal.returns-in-Ok-clause-ok
returns-in-Ok-clause-ok c = (rw c.requires at c.in-Ok.ensures.ok) ∙ sent_of c.args.txn c.args.writers.now

pub returns-in-Err-clause-full : goal.returns-in-Err-clause-full
returns-in-Err-clause-full c =
    subst (λ (ts : List Through). vec_capacity c.args.lets.now < length ts) (sent_of c.args.txn c.args.writers.now) (rw c.requires at c.in-Err.ensures.full)
