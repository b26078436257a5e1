use Rattle.std.proofs.Common.{take}
use Rattle.lt_runner.specs.Machine.{rules_of}
use Rattle.lt_runner.proofs.Slots.{RunInOrder}
use Rattle.lt_runner.proofs.running.run_in_turn.Given as goal

abbrev pub invariant-loop-command : goal.invariant-loop-command
invariant-loop-command g l = RunInOrder (rules_of l.fn.host.table.now l.fn.plan.turns) (g.G.Gate.may_answer l.fn.plan.gate.now) g.N.Name.of (take l.command-index l.commands) l.fn.passes.items l.slots.items l.seen
