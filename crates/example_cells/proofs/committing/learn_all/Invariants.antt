use Rattle.std.proofs.Common.{take}
use Rattle.std.specs.List.{All}
use mathlib.Core.List.{IsPrefix}
use Rattle.lt_words.specs.Row.{SeesMore}
use Rattle.example_cells.proofs.committing.learn_all.Given as goal

abbrev pub invariant-loop-lock : goal.invariant-loop-lock
invariant-loop-lock g l = SeesMore l.initial.pass l.pass × All (λ k. IsPrefix k.seen.seen l.pass.seen) (take l.lock-index l.locks.items)
