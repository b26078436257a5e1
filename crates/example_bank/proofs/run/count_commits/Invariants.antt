use Rattle.std.proofs.Common.{◌≡◌, length, take}
use Rattle.example_cells.specs.Committing.{all_commits}
use Rattle.example_bank.proofs.run.count_commits.Given as goal

abbrev pub invariant-loop-log : goal.invariant-loop-log
invariant-loop-log g l = l.commits ≡ length (all_commits (take l.log-index l.logs.items))
