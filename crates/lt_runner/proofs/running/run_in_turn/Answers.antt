use Rattle.std.proofs.Common.{◌≡◌, ◌≤◌, ◌-◌, ◌+◌, ◌<◌, List, Option, length, take, arith, subst, sym, ap}
use Rattle.std.proofs.lemmas.Result.{IfOk-weaker}
use Rattle.std.proofs.lemmas.List.{take_all, with_items_is}
use Rattle.lt_words.specs.Row.{Opening}
use Rattle.lt_script.specs.declared.command.Command.{Command}
use Rattle.lt_runner.specs.declared.outcome.Work.{Work}
use Rattle.lt_runner.specs.Machine.{Rules, rules_of}
use Rattle.lt_runner.specs.Turns.{IsAmong, IsReady, slot_at, TakesTurn}
use Rattle.lt_runner.specs.Gates.{GateAnswers}
use Rattle.lt_runner.proofs.Slots.{RunInOrder, all_at, slots_length, slots_ready, none_in_order, turn_taken, all_run}
use Rattle.lt_runner.proofs.running.run_in_turn.Goals as goal

pub take_turn-requires-clause-high : goal.take_turn-requires-clause-high
take_turn-requires-clause-high g c =
    let rules : Rules = rules_of c.args.host.now.table.now c.args.plan.now.turns in
    let among : IsAmong (length c.args.passes.items) c.command-item.result = all_at (IsAmong (length c.args.passes.items)) c.args.plan.now.commands.now c.loop-command.command-index c.command-item.result c.requires.among c.loop-command-test.true c.command-item.is in
    let many : length c.loop-command.slots.items ≡ length c.args.passes.items = slots_length rules (g.G.Gate.may_answer c.args.plan.now.gate.now) (take c.loop-command.command-index c.args.plan.now.commands.now) c.args.passes.items c.loop-command.invariant.lines_done c.loop-command.slots.items c.loop-command.invariant.slots in
    let high : c.command-item.result.pass ≤ length c.args.passes.items = among.high in
    let same : c.deref_mut.result.now ≡ c.loop-command.slots.items = c.deref_mut.ensures.value in
    omega (arith, ap length same)

pub take_turn-requires-clause-ready : goal.take_turn-requires-clause-ready
take_turn-requires-clause-ready g c =
    let rules : Rules = rules_of c.args.host.now.table.now c.args.plan.now.turns in
    let among : IsAmong (length c.args.passes.items) c.command-item.result = all_at (IsAmong (length c.args.passes.items)) c.args.plan.now.commands.now c.loop-command.command-index c.command-item.result c.requires.among c.loop-command-test.true c.command-item.is in
    let low : 1 ≤ c.command-item.result.pass = among.low in
    let high : c.command-item.result.pass ≤ length c.args.passes.items = among.high in
    let lt : c.command-item.result.pass - 1 < length c.args.passes.items = omega arith in
    let same : c.deref_mut.result.now ≡ c.loop-command.slots.items = c.deref_mut.ensures.value in
    subst (λ (ss : List (Option Work)). IsReady g.N.Name.of (slot_at ss (c.command-item.result.pass - 1))) (sym same)
    (slots_ready rules (g.G.Gate.may_answer c.args.plan.now.gate.now) g.N.Name.of (take c.loop-command.command-index c.args.plan.now.commands.now) c.args.passes.items c.loop-command.invariant.lines_done c.loop-command.slots.items (c.command-item.result.pass - 1) c.requires.of c.loop-command.invariant.slots lt)

pub loop-command-init : goal.loop-command-init
loop-command-init g c = none_in_order (rules_of c.args.host.now.table.now c.args.plan.now.turns) (g.G.Gate.may_answer c.args.plan.now.gate.now) g.N.Name.of c.args.passes.items c.in_ok-slots.slots.items c.args.seen c.in_ok-slots.ensures c.requires.seen

pub loop-command-preserved : goal.loop-command-preserved
loop-command-preserved g c =
    let rules : Rules = rules_of c.args.host.now.table.now c.args.plan.now.turns in
    let gate : GateAnswers = g.G.Gate.may_answer c.args.plan.now.gate.now in
    let of : Opening = g.N.Name.of in
    let among : IsAmong (length c.args.passes.items) c.command-item.result = all_at (IsAmong (length c.args.passes.items)) c.args.plan.now.commands.now c.loop-command.command-index c.command-item.result c.requires.among c.loop-command-test.true c.command-item.is in
    let here : TakesTurn rules gate c.command-item.result c.loop-command.seen c.deref_mut.result.now c.take_turn.new.slots c.take_turn.new.seen = c.in_ok-take_turn.ensures in
    let takes : TakesTurn rules gate c.command-item.result c.loop-command.seen c.loop-command.slots.items c.take_turn.new.slots c.take_turn.new.seen = subst (λ (ss : List (Option Work)). TakesTurn rules gate c.command-item.result c.loop-command.seen ss c.take_turn.new.slots c.take_turn.new.seen) c.deref_mut.ensures.value here in
    let after : RunInOrder rules gate of (take (c.loop-command.command-index + 1) c.args.plan.now.commands.now) c.args.passes.items c.take_turn.new.slots c.take_turn.new.seen =
    turn_taken rules gate of c.args.plan.now.commands.now c.loop-command.command-index c.command-item.result c.args.passes.items c.loop-command.slots.items c.take_turn.new.slots c.loop-command.seen c.take_turn.new.seen c.requires.of c.requires.numbered c.loop-command-test.true c.command-item.is among.low c.loop-command.invariant takes in
    let before : length c.loop-command.slots.items ≡ length c.args.passes.items = slots_length rules gate (take c.loop-command.command-index c.args.plan.now.commands.now) c.args.passes.items c.loop-command.invariant.lines_done c.loop-command.slots.items c.loop-command.invariant.slots in
    let many : length c.take_turn.new.slots ≡ length c.args.passes.items = slots_length rules gate (take (c.loop-command.command-index + 1) c.args.plan.now.commands.now) c.args.passes.items after.lines_done c.take_turn.new.slots after.slots in
    let len : length c.take_turn.new.slots ≡ c.loop-command.slots.len = omega (arith, before, many, c.loop-command.slots.ok.0) in
    subst (λ (ss : List (Option Work)). RunInOrder rules gate of (take (c.loop-command.command-index + 1) c.args.plan.now.commands.now) c.args.passes.items ss c.take_turn.new.seen) (sym (with_items_is c.loop-command.slots c.take_turn.new.slots len)) after

pub returns : goal.returns
returns g c =
    let rules : Rules = rules_of c.args.host.now.table.now c.args.plan.now.turns in
    let all : take c.loop-command.command-index c.args.plan.now.commands.now ≡ c.args.plan.now.commands.now = take_all c.loop-command.command-index c.args.plan.now.commands.now (omega arith) in
    let gate : GateAnswers = g.G.Gate.may_answer c.args.plan.now.gate.now in
    let run : RunInOrder rules gate g.N.Name.of c.args.plan.now.commands.now c.args.passes.items c.loop-command.slots.items c.loop-command.seen = subst (λ (cs : List Command). RunInOrder rules gate g.N.Name.of cs c.args.passes.items c.loop-command.slots.items c.loop-command.seen) all c.loop-command.invariant in
    IfOk-weaker c.finish_all.result _ _ (λ works e. all_run rules gate g.N.Name.of c.args.plan.now.commands.now c.args.passes.items c.loop-command.slots.items c.loop-command.seen works.items run e) c.finish_all.ensures
