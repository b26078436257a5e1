use Rattle.std.proofs.Common.{List, sym, subst, ◌∙◌}
use Rattle.std.proofs.lemmas.Result.{IfOk-weaker}
use Rattle.lt_words.specs.Row.{PassState}
use Rattle.lt_runner.specs.Machine.{Rules, rules_of}
use Rattle.lt_runner.specs.Gates.{GateAnswers}
use Rattle.lt_runner.specs.Turns.{AreWorked, HaveRunInOrder}
use Rattle.lt_runner.proofs.Slots.{on_threads, in_turn}
use Rattle.lt_runner.proofs.whole.run_lines.Goals as goal

pub returns-then-is_some : goal.returns-then-is_some
returns-then-is_some g c =
    let rules : Rules = rules_of c.args.host.now.table.now c.args.plan.now.turns in
    let gate : GateAnswers = g.G.Gate.may_answer c.args.plan.now.gate.now in
    IfOk-weaker c.run_on_threads.result _ _ (λ works a. on_threads rules gate g.N.Name.of.shards c.args.plan.now.commands.now c.args.passes.items works.items (sym c.is_some.ensures ∙ c.if-is_some.true) (subst (λ (ps : List PassState). AreWorked rules gate c.args.plan.now.commands.now ps works.items) c.in_ok-seats.ensures a)) c.run_on_threads.ensures

pub returns-else-is_some : goal.returns-else-is_some
returns-else-is_some g c =
    let rules : Rules = rules_of c.args.host.now.table.now c.args.plan.now.turns in
    let gate : GateAnswers = g.G.Gate.may_answer c.args.plan.now.gate.now in
    IfOk-weaker c.run_in_turn.result _ _ (λ works a. in_turn rules gate g.N.Name.of.shards c.args.plan.now.commands.now c.args.passes.items works.items (subst (λ (ps : List PassState). HaveRunInOrder rules gate g.N.Name.of.shards c.args.plan.now.commands.now ps works.items) c.in_ok-seats.ensures a)) c.run_in_turn.ensures
