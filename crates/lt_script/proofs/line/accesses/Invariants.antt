use Rattle.std.proofs.Common.{◌≡◌, length}
use Rattle.lt_script.specs.Script.{accesses_of}
use Rattle.lt_script.proofs.Onward.{behind}
use Rattle.lt_script.proofs.line.accesses.Given as goal

abbrev pub invariant-loop-word : goal.invariant-loop-word
invariant-loop-word l = behind l.list.items (accesses_of l.words) ≡ accesses_of l.fn.words

abbrev pub decreases-loop-word : goal.decreases-loop-word
decreases-loop-word l = length l.words
