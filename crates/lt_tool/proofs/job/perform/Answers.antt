use Rattle.lt_tool.proofs.job.perform.Goals as goal

pub returns-in-Ok-clause-unread : goal.returns-in-Ok-clause-unread
returns-in-Ok-clause-unread g c = λ no. c.work.ensures.unread (λ reads. no (record { job = c.in-Ok.job; read = c.in-Ok.ensures.read; reads = reads }))
