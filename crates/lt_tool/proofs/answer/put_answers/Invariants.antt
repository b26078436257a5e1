use Rattle.std.proofs.Common.{◌≡◌, ◌+◌, ◌++◌, take}
use Rattle.lt_tool.specs.Answers.{answers_text}
use Rattle.lt_tool.proofs.answer.put_answers.Given as goal

abbrev pub invariant-loop-lines : goal.invariant-loop-lines
invariant-loop-lines l = (l.pass ≡ l.lines-index + 1) × (l.out.items ≡ l.initial.out.items ++ answers_text (take l.lines-index l.passes))
