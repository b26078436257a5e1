use Rattle.std.proofs.Common.{◌≡◌, sym, subst, IfOk, ◌∙◌}
use Rattle.lt_lock.proofs.Tables.{found, missing, row_is}
use Rattle.lt_lock.proofs.row_table.state_at.Goals as goal

pub state-requires : goal.state-requires
state-requires c = (row_is c.args.links.now c.args.rows.now c.args.key.now c.in-Some.row.now c.requires c.in-Some.ensures.value).linked

pub returns-in-None : goal.returns-in-None
returns-in-None c = c.empty.ensures ∙ sym (missing c.args.links.now c.args.rows.now c.args.key.now c.in-None.ensures.value)

pub returns-in-Some : goal.returns-in-Some
returns-in-Some c = subst (λ r. IfOk c.state.result (λ state. state ≡ r)) (sym (found c.args.links.now c.args.rows.now c.args.key.now c.in-Some.row.now c.in-Some.ensures.value)) c.state.ensures
