use Rattle.std.proofs.Common.{ℕ, subst}
use Rattle.lt_runner.specs.Ran.{IsRan, run_rules}
use Rattle.lt_tool.proofs.Outputs.{is_output}
use Rattle.lt_tool.proofs.table_run.run_commands.Goals as goal

pub returns-in-Ok-composed : goal.returns-in-Ok-composed
returns-in-Ok-composed g c =
    is_output c.args.options.now (g.G.Gate.may_answer c.args.gate.now) c.args.script c.as_slice.result.now c.turns_of.result c.in_ok-ran.ran c.in-Ok-composed.outcome.text.items c.in-Ok-composed.outcome.finish c.turns_of.ensures c.as_slice.ensures
    (subst (λ (n : ℕ). IsRan (run_rules c.args.options.now.steps c.turns_of.result) (g.G.Gate.may_answer c.args.gate.now) n c.as_slice.result.now c.in_ok-ran.ran) c.in-Ok.ensures.many c.in_ok-ran.ensures)
    c.in-Ok-composed.ensures
