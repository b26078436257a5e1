use Rattle.std.proofs.Common.{take}
use Rattle.lt_runner.specs.Worked.{IsWorked, pass_lines}
use Rattle.lt_runner.specs.Machine.{rules_of}
use Rattle.lt_runner.proofs.worker.work.Given as goal

abbrev pub invariant-loop-command : goal.invariant-loop-command
invariant-loop-command g l = IsWorked (rules_of l.fn.host.table.now l.fn.plan.turns) (g.G.Gate.may_answer l.fn.plan.gate.now) l.fn.pass (pass_lines l.fn.pass.number (take l.command-index l.commands)) l.work
