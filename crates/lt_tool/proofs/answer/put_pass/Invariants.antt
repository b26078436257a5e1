use Rattle.std.proofs.Common.{◌≡◌, ◌++◌, take}
use Rattle.lt_tool.specs.Answers.{pass_text}
use Rattle.lt_tool.proofs.answer.put_pass.Given as goal

abbrev pub invariant-loop-line : goal.invariant-loop-line
invariant-loop-line l = l.out.items ≡ l.initial.out.items ++ pass_text l.pass (take l.line-index l.lines)
