use Rattle.std.proofs.Common.{ap, sym, ◌∙◌}
use Rattle.lt_rules.specs.Step.{look}
use Rattle.lt_lock.proofs.Tables.{found, missing, row_is}
use Rattle.lt_lock.proofs.row_table.look_at.Goals as goal

pub look-requires : goal.look-requires
look-requires c = row_is c.args.links.now c.args.rows.now c.args.key.now c.in-Some.row.now c.requires c.in-Some.ensures.value

pub returns-in-None : goal.returns-in-None
returns-in-None c = ap (λ r. look r c.args.number) (sym (missing c.args.links.now c.args.rows.now c.args.key.now c.in-None.ensures.value))

pub returns-in-Some : goal.returns-in-Some
returns-in-Some c = c.look.ensures ∙ ap (λ r. look r c.args.number) (sym (found c.args.links.now c.args.rows.now c.args.key.now c.in-Some.row.now c.in-Some.ensures.value))
