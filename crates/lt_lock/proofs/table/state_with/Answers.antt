use Rattle.std.proofs.Common.{sym, ◌∙◌}
use Rattle.lt_lock.proofs.LoneLocks.{record_lone, record_apart}
use Rattle.lt_lock.proofs.table.state_with.Goals as goal

pub returns-in-Some : goal.returns-in-Some
returns-in-Some c = c.held_state.ensures ∙ rw c.in-Some.is (record_lone c.in-Some.alone c.args.key.now (sym c.eq.ensures ∙ c.if-eq.true))

pub returns-in-Some-2 : goal.returns-in-Some-2
returns-in-Some-2 c = c.empty.ensures ∙ rw c.in-Some.is (record_apart c.in-Some.alone c.args.key.now (sym c.eq.ensures ∙ c.if-eq.false))
