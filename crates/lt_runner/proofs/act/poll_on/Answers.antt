use Rattle.std.proofs.Common.{◌≡◌, subst, rules}
use Rattle.lt_walk.specs.declared.scan_results.Poll.TheVariants as polls
use Rattle.lt_runner.specs.Execution.{Polls}
use Rattle.lt_runner.proofs.Scans.{one_poll, polls_then}
use Rattle.lt_runner.proofs.act.poll_on.Goals as goal

pub loop-polled-init : goal.loop-polled-init
loop-polled-init g c = one_poll c.args.guard.now c.poll-found.new.guard c.poll-found.result c.poll-found.ensures.poll c.poll-found.ensures.through

pub loop-polled-preserved : goal.loop-polled-preserved
loop-polled-preserved g c =
    let waits : c.loop-polled.found ≡ polls.Waiting = search rules in
    polls_then c.args.guard.now c.loop-polled.guard c.poll-found-in-loop-polled.new.guard c.poll-found-in-loop-polled.result
    (subst (λ r. Polls c.args.guard.now r c.loop-polled.guard) waits c.loop-polled.invariant)
    (one_poll c.loop-polled.guard c.poll-found-in-loop-polled.new.guard c.poll-found-in-loop-polled.result c.poll-found-in-loop-polled.ensures.poll c.poll-found-in-loop-polled.ensures.through)
