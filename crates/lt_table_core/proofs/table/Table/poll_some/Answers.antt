use Rattle.std.proofs.Common.{◌≡◌, rules, subst}
use Rattle.lt_walk.specs.declared.scan_results.Poll.TheVariants.{Waiting}
use Rattle.lt_walk.specs.Reported.{IsPoll}
use Rattle.lt_walk.proofs.Waits.{poll_then}
use Rattle.lt_table_core.proofs.table.Table.poll_some.Goals as goal

pub loop-preserved : goal.loop-preserved
loop-preserved g c =
    let waits : c.loop.found ≡ Waiting = search rules in
    let before : IsPoll c.args.guard.now c.loop.guard Waiting = subst (λ r. IsPoll c.args.guard.now c.loop.guard r) waits c.loop.invariant.0 in
    (poll_then c.args.guard.now c.loop.guard c.poll-found-in-loop.new.guard c.poll-found-in-loop.result before c.poll-found-in-loop.ensures.poll, c.poll-found-in-loop.ensures.through)
