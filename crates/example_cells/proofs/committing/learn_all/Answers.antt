use Rattle.std.proofs.Common.{◌≡◌, take, rules, subst}
use Rattle.std.specs.List.{All}
use Rattle.std.proofs.lemmas.List.{take_all}
use mathlib.Core.List.{IsPrefix}
use Rattle.example_cells.specs.declared.held.HeldLock.{HeldLock}
use Rattle.example_cells.proofs.Learning.{sees_on, learned_next}
use Rattle.example_cells.proofs.committing.learn_all.Goals as goal

pub loop-lock-preserved : goal.loop-lock-preserved
loop-lock-preserved g c = (
  sees_on c.args.pass.now c.loop-lock.pass c.learn.new.self c.loop-lock.invariant.0 c.learn.ensures.more,
  learned_next (λ (k : HeldLock g.row.N.Denot g.N.Name g.N.ValueName). k.seen.seen) c.args.locks.now.items c.loop-lock.lock-index c.lock-item.result c.loop-lock.pass.seen c.learn.new.self.seen (search rules) (search rules) c.loop-lock.invariant.1 c.learn.ensures.more.seen c.learn.ensures.that,
)

pub returns-clause-all : goal.returns-clause-all
returns-clause-all g c =
    let whole : take c.loop-lock.lock-index c.args.locks.now.items ≡ c.args.locks.now.items = take_all c.loop-lock.lock-index c.args.locks.now.items (search rules) in
    subst (All (λ k. IsPrefix k.seen.seen c.loop-lock.pass.seen)) whole c.loop-lock.invariant.1
