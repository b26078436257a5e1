use Rattle.std.proofs.Common.{add-one}
use mathlib.Core.List.{IsPrefix}
use Rattle.lt_walk.proofs.Ends.{learnt, sees_on}
use Rattle.lt_walk.proofs.closing.learn_all.Goals as goal

pub loop-pass-preserved : goal.loop-pass-preserved
loop-pass-preserved c =
    let so_far = c.loop-pass.invariant in
    let old = c.loop-pass.last in
    let new = c.learn-in-loop-pass.new.self in
    let pass = c.pass-item.result in
    let more = c.learn-in-loop-pass.ensures.more in
    let that : IsPrefix pass.seen new.seen = rw (← c.seen.ensures.seen) c.learn-in-loop-pass.ensures.that in
    let shown : IsPrefix pass.shown new.shown = rw (← c.seen.ensures.shown) c.learn-in-loop-pass.ensures.shown in (
      sees_on c.args.last.now old new so_far.0 more,
      rw add-one (learnt (λ q. q.seen) c.args.passes.now c.loop-pass.pass-index pass old.seen new.seen so_far.1 c.loop-pass-test.true c.pass-item.is more.seen that),
      rw add-one (learnt (λ q. q.shown) c.args.passes.now c.loop-pass.pass-index pass old.shown new.shown so_far.2 c.loop-pass-test.true c.pass-item.is more.shown shown),
    )
