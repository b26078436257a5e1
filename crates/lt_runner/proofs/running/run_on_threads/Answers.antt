use Rattle.std.proofs.lemmas.Result.{IfOk-weaker}
use Rattle.lt_runner.specs.Machine.{Rules, rules_of}
use Rattle.lt_runner.proofs.Slots.{worked_all}
use Rattle.lt_runner.proofs.running.run_on_threads.Goals as goal

pub returns : goal.returns
returns g c =
    let rules : Rules = rules_of c.args.host.now.table.now c.args.plan.now.turns in
    IfOk-weaker c.collect.result _ _ (λ works same. worked_all rules (g.G.Gate.may_answer c.args.plan.now.gate.now) c.args.plan.now.commands.now c.args.passes.items c.in_ok-done.done.items works.items c.in_ok-done.ensures same) c.collect.ensures
