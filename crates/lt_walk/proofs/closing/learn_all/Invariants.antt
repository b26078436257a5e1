use Rattle.std.proofs.Common.{take}
use Rattle.std.specs.List.{AllByRecursion}
use mathlib.Core.List.{IsPrefix}
use Rattle.lt_words.specs.Row.{SeesMore}
use Rattle.lt_walk.proofs.closing.learn_all.Given as goal

abbrev pub invariant-loop-pass : goal.invariant-loop-pass
invariant-loop-pass l = SeesMore l.initial.last l.last × AllByRecursion (λ p. IsPrefix p.seen l.last.seen) (take l.pass-index l.passes) × AllByRecursion (λ p. IsPrefix p.shown l.last.shown) (take l.pass-index l.passes)
