use Rattle.std.proofs.Common.{sym, ◌∙◌, rules}
use Rattle.lt_walk.specs.Machine.{Step}
use Rattle.lt_walk.specs.Reported.{GuardState, Reported}
use Rattle.lt_walk.proofs.Going.{next_visit-is}
use Rattle.lt_walk.proofs.UnderWay.{IsUnderWay-more}
use Rattle.lt_walk.proofs.Partway.{tells_partway}
use Rattle.lt_walk.proofs.scan_and_poll.visit_on.Goals as goal

pub loop-guard-preserved : goal.loop-guard-preserved
loop-guard-preserved g c =
    let x : Step = record { key = c.key.result.now; call = c.visit-visit.result; answer = c.in_ok-answer.answer } in
    let begun : GuardState = record { pass = c.read-word.new.pass; walk = c.begin_scan.new.self } in
    let now : GuardState = record { pass = c.loop-guard.guard-inside.pass; walk = c.loop-guard.guard-inside.walk } in
    let reported : Reported now.pass c.step.new.pass x = search rules in
    IsUnderWay-more begun c.args.max_waits now x c.step.new.pass c.meet.new.self c.loop-guard.invariant
    (next_visit-is now.walk.asked c.args.max_waits now.walk.progress x.key x.call (sym c.has_visit.ensures ∙ c.loop-guard-test.true) c.key.ensures c.visit-visit.ensures)
    c.meet.ensures reported

pub returns-in_err-answer-clause-scan : goal.returns-in_err-answer-clause-scan
returns-in_err-answer-clause-scan g c =
    tells_partway c.args.max_waits c.args.guard.now (record { pass = c.step.new.pass; walk = c.loop-guard.guard-inside.walk }) c.from_residual.result c.from_residual.ensures.0 (λ e. search rules)
