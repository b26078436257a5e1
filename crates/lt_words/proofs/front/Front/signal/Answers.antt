use Rattle.std.proofs.Common.{◌≢◌, ◌≤◌, Bool, MatchBool, subst, arith}
use Rattle.lt_words.specs.Shown.{word_of, IsShown}
use Rattle.lt_words.proofs.Histories.{let_later}
use Rattle.lt_words.proofs.Showing.{word_later}
use Rattle.lt_words.proofs.front.Front.signal.Goals as goal

pub try_signal-requires-clause-through : goal.try_signal-requires-clause-through
try_signal-requires-clause-through c = let_later c.args.self.now.seen c.loop-old.self.seen c.args.pass c.args.ticket c.loop-old.invariant.0.seen c.requires.through

pub loop-old-smaller : goal.loop-old-smaller
loop-old-smaller c =
    let mid = c.try_signal.new.self.shown in
    let last = c.read-old-in-loop-old.new.self.shown in
    let other : word_of c.args.pass mid ≢ c.loop-old.old = subst (λ (b : Bool). MatchBool b (IsShown mid c.args.pass c.args.ticket) (word_of c.args.pass mid ≢ c.loop-old.old)) c.if-try_signal.false c.try_signal.ensures.shown in
    let one : word_of c.args.pass c.loop-old.self.shown ≤ word_of c.args.pass mid = word_later c.args.pass c.loop-old.self.shown mid c.try_signal.ensures.more.shown in
    let two : word_of c.args.pass mid ≤ word_of c.args.pass last = word_later c.args.pass mid last c.read-old-in-loop-old.ensures.more.shown in
    omega (arith, other, one, two, c.loop-old.invariant.1, c.read-old-in-loop-old.ensures.word, c.loop-old-test.true, c.value.ensures.value)
