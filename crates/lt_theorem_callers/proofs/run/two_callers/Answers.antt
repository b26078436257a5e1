use Rattle.std.proofs.Common.{◌≢◌}
use Rattle.lt_theorem_callers.specs.Heard.{HasNoted}
use Rattle.lt_theorem_callers.proofs.Concluding.{two_begin}
use Rattle.lt_theorem_callers.proofs.run.two_callers.Given as given
use Rattle.lt_theorem_callers.proofs.run.two_callers.Goals as goal

begin : (g : given.Over) (c : goal.After-new-2 g) → (c.in_ok-one.one.number ≢ c.in_ok-one.two.number) × HasNoted g.N.Name.of c.in_ok-one.one c.new.result × HasNoted g.N.Name.of c.in_ok-one.two c.new-2.result
begin g c = two_begin c.fresh_have_heard_nothing.ensures g.N.Name.of g.N.Name.of.passes c.in_ok-one.one c.in_ok-one.two c.args.passes.items c.new.result c.new-2.result c.requires.fresh c.requires.of c.in_ok-one.ensures c.new.ensures.answers c.new.ensures.lets c.new-2.ensures.answers c.new-2.ensures.lets

pub returns-clause-differ : goal.returns-clause-differ
returns-clause-differ g c = (begin g c).0

pub returns-clause-one : goal.returns-clause-one
returns-clause-one g c = (begin g c).1

pub returns-clause-two : goal.returns-clause-two
returns-clause-two g c = (begin g c).2
