use Rattle.std.proofs.Common.{◌≡◌, ◌+◌, ◌≤◌, length}
use Rattle.lt_script.specs.Script.{commands_from, commands_of, with_prefix}
use Rattle.lt_script.proofs.read.read_script.Given as goal

abbrev pub invariant-loop-bytes : goal.invariant-loop-bytes
invariant-loop-bytes l =
    (goal.iterator-loop-bytes).can_next l.lines × (goal.iterator-loop-bytes).is_finite l.lines
    × (with_prefix l.commands.items (commands_from l.line l.lines) ≡ commands_of l.fn.text) × (l.line + length l.lines ≤ length l.fn.text + 1)
