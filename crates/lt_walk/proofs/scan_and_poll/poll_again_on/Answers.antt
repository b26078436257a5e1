use Rattle.std.proofs.Common.{sym, ◌∙◌, length}
use Rattle.lt_walk.proofs.UnderWay.{after_status_tells, through_is_let}
use Rattle.lt_walk.proofs.scan_and_poll.poll_again_on.Goals as goal

pub invariant_of-guard : goal.invariant_of-guard
invariant_of-guard c =
    after_status_tells c.guard.inside.walk c.poll.new.self c.look_again-word.result.0 c.guard.inside.pass.seen c.look_again-word.new.pass.seen c.guard.inside.pass.number c.look_again-word.new.pass.number (length c.guard.inside.walk.answers)
    c.poll.ensures.after c.look_again-word.ensures.more.number c.look_again-word.ensures.more.seen c.sound.ensures.number c.sound.ensures.sound c.look_again-word.ensures.status c.guard.invariant

pub returns-clause-through : goal.returns-clause-through
returns-clause-through c = λ e. invariant_of-guard c (through_is_let c.poll.new.self.progress.mode (sym c.poll.ensures.result ∙ e))
