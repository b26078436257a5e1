use Rattle.std.proofs.Common.{◌≡◌, sym, subst, IfOk, ◌∙◌}
use Rattle.lt_plain.proofs.Trees.{found, missing}
use Rattle.lt_plain.proofs.plain_table.state_at.Goals as goal

pub returns-in-None : goal.returns-in-None
returns-in-None c = c.empty.ensures ∙ sym (missing c.args.records.now c.args.key.now c.in-None.ensures.value)

pub returns-in-Some : goal.returns-in-Some
returns-in-Some c = subst (λ r. IfOk c.state.result (λ state. state ≡ r)) (sym (found c.args.records.now c.args.key.now c.in-Some.record.now c.in-Some.ensures.value)) c.state.ensures
