use Rattle.std.proofs.Common.{sym, ◌∙◌}
use Rattle.lt_runner.specs.Machine.{Rules, rules_of}
use Rattle.lt_runner.specs.Gates.{GateAnswers}
use Rattle.lt_runner.proofs.Lines.{worked_none, worked_mine, worked_other, is_same, is_other}
use Rattle.lt_runner.proofs.worker.work.Goals.{then-number+in_ok-next_line, else-number}
use Rattle.lt_runner.proofs.worker.work.Goals as goal

pub loop-command-init : goal.loop-command-init
loop-command-init g c = worked_none (rules_of c.args.host.now.table.now c.args.plan.now.turns) (g.G.Gate.may_answer c.args.plan.now.gate.now) c.args.pass c.in_ok-begun.begun c.in_ok-begun.ensures

pub loop-command-preserved : goal.loop-command-preserved
loop-command-preserved g c =
    let rules : Rules = rules_of c.args.host.now.table.now c.args.plan.now.turns in
    let gate : GateAnswers = g.G.Gate.may_answer c.args.plan.now.gate.now in
    elim c.if-number.branch [
      | then-number+in_ok-next_line w ↦
          rw w.work-is (worked_mine rules gate c.args.pass c.args.plan.now.commands.now c.loop-command.command-index c.command-item.result c.loop-command.work w.next_line.new.work
          c.loop-command-test.true c.command-item.is (is_same c.command-item.result.pass c.args.pass.number (sym c.number.ensures.value ∙ w.if-number.true ∙ c.number-number.ensures.number)) c.loop-command.invariant w.in_ok-next_line.ensures)
      | else-number w ↦
          rw w.work-is (worked_other rules gate c.args.pass c.args.plan.now.commands.now c.loop-command.command-index c.command-item.result c.loop-command.work
          c.loop-command-test.true c.command-item.is (is_other c.command-item.result.pass c.args.pass.number (λ e. w.if-number.false (c.number.ensures.value ∙ e ∙ sym c.number-number.ensures.number))) c.loop-command.invariant)
    ]
