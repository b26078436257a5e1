use Rattle.std.proofs.Common.{subst}
use Rattle.lt_words.specs.Row.{PassState}
use Rattle.lt_runner.specs.Worked.{IsBegun}
use Rattle.lt_runner.proofs.Slots.{begun_more}
use Rattle.lt_runner.proofs.running.begin_all.Goals as goal

pub loop-seat-preserved : goal.loop-seat-preserved
loop-seat-preserved c = begun_more c.loop-seat.yielded c.loop-seat.slots.items c.push.new.self.items c.in-Some.seat c.in_ok-begun.begun c.loop-seat.invariant (subst (λ (p : PassState). IsBegun p c.in_ok-begun.begun) c.into_pass-pass.ensures c.in_ok-begun.ensures) c.in-Ok.ensures.items
