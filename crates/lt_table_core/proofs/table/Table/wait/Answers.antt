use Rattle.std.proofs.Common.{◌≡◌, rules, subst}
use Rattle.lt_walk.specs.declared.scan_results.Poll.TheVariants.{Waiting}
use Rattle.lt_walk.specs.Reported.{IsPoll}
use Rattle.lt_walk.proofs.Waits.{poll_then}
use Rattle.lt_table_core.proofs.table.Table.wait.Goals as goal

pub loop-preserved : goal.loop-preserved
loop-preserved g c =
    let waits : c.loop.found ≡ Waiting = search rules in
    let before : IsPoll c.args.guard.now c.loop.guard Waiting = subst (λ r. IsPoll c.args.guard.now c.loop.guard r) waits c.loop.invariant.2 in
    (search rules, search rules, poll_then c.args.guard.now c.loop.guard c.poll_or_sleep-found.new.guard c.poll_or_sleep-found.result before c.poll_or_sleep-found.ensures.poll, c.poll_or_sleep-found.ensures.through)
