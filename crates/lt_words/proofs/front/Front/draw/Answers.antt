use Rattle.std.proofs.Common.{◌≢◌, ◌≤◌, Bool, MatchBool, subst, arith}
use Rattle.lt_words.specs.History.{draws_of}
use Rattle.lt_words.proofs.Draws.{draws_later}
use Rattle.lt_words.proofs.Passes.{grows_on}
use Rattle.lt_words.proofs.front.Front.draw.Goals as goal

pub loop-old-smaller : goal.loop-old-smaller
loop-old-smaller c =
    let other : draws_of c.try_draw.new.self.seen ≢ c.loop-old.old = subst (λ (b : Bool). MatchBool b (Unit {0}) (draws_of c.try_draw.new.self.seen ≢ c.loop-old.old)) c.if-try_draw.false c.try_draw.ensures.other in
    let one : draws_of c.loop-old.self.seen ≤ draws_of c.try_draw.new.self.seen = draws_later c.loop-old.self.seen c.try_draw.new.self.seen c.try_draw.ensures.more.seen in
    let two : draws_of c.try_draw.new.self.seen ≤ draws_of c.drawn-old-in-loop-old.new.self.seen = draws_later c.try_draw.new.self.seen c.drawn-old-in-loop-old.new.self.seen c.drawn-old-in-loop-old.ensures.more.seen in
    omega (arith, other, one, two, c.loop-old.invariant.1, c.drawn-old-in-loop-old.ensures.count, c.loop-old-test.true)

pub loop-old-preserved : goal.loop-old-preserved
loop-old-preserved c = (
  grows_on c.args.self.now c.loop-old.self c.drawn-old-in-loop-old.new.self c.loop-old.invariant.0 (grows_on c.loop-old.self c.try_draw.new.self c.drawn-old-in-loop-old.new.self c.try_draw.ensures.more c.drawn-old-in-loop-old.ensures.more),
  c.drawn-old-in-loop-old.ensures.count,
)
