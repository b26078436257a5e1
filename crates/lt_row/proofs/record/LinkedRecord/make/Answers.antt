use Rattle.lt_row.proofs.Records.{row_after}
use Rattle.lt_row.proofs.record.LinkedRecord.make.Goals as goal

pub invariant_of-self : goal.invariant_of-self
invariant_of-self c = row_after _ c.step.new.links _ c.step.new.row c.args.pass c.args.call.now c.step.new.lets.items c.step.result _ (λ kept. (kept.0, kept.1)) c.self.invariant c.step.ensures.ok c.step.ensures.err
