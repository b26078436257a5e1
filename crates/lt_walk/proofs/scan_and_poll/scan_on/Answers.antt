use Rattle.std.proofs.Common.{ap, subst}
use Rattle.lt_walk.specs.Sound.{IsSoundWalk}
use Rattle.lt_walk.proofs.Partway.{tells_went_on, tells_was_let, tells_stays, tells_waits_inside, tells_too_long, tells_long_inside}
use Rattle.lt_walk.proofs.scan_and_poll.scan_on.Goals as goal

pub returns-clause-went_on : goal.returns-clause-went_on
returns-clause-went_on g c = tells_went_on c.args.max_waits c.args.guard.now c.visit_on-result.new.guard c.visit_on-result.result c.visit_on-result.ensures.scan c.visit_on-result.ensures.number c.visit_on-result.ensures.sound

pub returns-clause-was_let : goal.returns-clause-was_let
returns-clause-was_let g c = λ held. tells_was_let c.args.max_waits c.args.guard.now c.visit_on-result.new.guard c.visit_on-result.result c.visit_on-result.ensures.scan (c.let_through.ensures held)

pub returns-clause-waiting : goal.returns-clause-waiting
returns-clause-waiting g c = λ index.
    let sound : IsSoundWalk c.visit_on-result.new.guard.walk = subst IsSoundWalk (ap (λ s. s.walk) c.guard.view_is) c.sound.ensures.sound in
    tells_waits_inside c.args.max_waits c.args.guard.now c.visit_on-result.new.guard c.visit_on-result.result index c.visit_on-result.ensures.scan sound

pub returns-clause-stopped : goal.returns-clause-stopped
returns-clause-stopped g c = λ index. tells_long_inside c.args.max_waits c.args.guard.now c.visit_on-result.new.guard c.visit_on-result.result index c.visit_on-result.ensures.scan

pub returns-clause-too_long : goal.returns-clause-too_long
returns-clause-too_long g c = λ index. tells_too_long c.args.max_waits c.args.guard.now c.visit_on-result.new.guard c.visit_on-result.result index c.visit_on-result.ensures.scan

pub returns-clause-stays : goal.returns-clause-stays
returns-clause-stays g c = tells_stays c.args.max_waits c.args.guard.now c.visit_on-result.new.guard c.visit_on-result.result c.visit_on-result.ensures.scan
