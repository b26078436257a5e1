use Rattle.std.proofs.Common.{◌≡◌, map, arith}
use Rattle.std.proofs.lemmas.Bool.Decides.{nat_tests}
use Rattle.lt_walk.proofs.Ends.{all_tallied, more_than_steps, more_than_left, some_left}
use Rattle.lt_walk.proofs.closing.are_tallied.Goals as goal

pub returns-clause-yes : goal.returns-clause-yes
returns-clause-yes c = λ yes.
    let none : c.in-Some-without_guards.rest ≡ 0 = grind (arith, nat_tests) in
    all_tallied c.args.which c.args.index c.args.passes.now (map (λ g. g.pass) c.args.guards.now) c.in-Some.left c.in-Some-without_guards.rest c.args.steps c.in-Some.ensures.some c.in-Some-without_guards.ensures.some none

pub returns-in_default-clause-no : goal.returns-in_default-clause-no
returns-in_default-clause-no c = λ no. more_than_steps c.args.which c.args.index c.args.passes.now (map (λ g. g.pass) c.args.guards.now) c.args.steps c.in_default.ensures.none

pub returns-in_default-without_guards-clause-no : goal.returns-in_default-without_guards-clause-no
returns-in_default-without_guards-clause-no c = λ no. more_than_left c.args.which c.args.index c.args.passes.now (map (λ g. g.pass) c.args.guards.now) c.in-Some.left c.args.steps c.in-Some.ensures.some c.in_default-without_guards.ensures.none

pub returns-clause-no : goal.returns-clause-no
returns-clause-no c = λ no. some_left c.args.which c.args.index c.args.passes.now (map (λ g. g.pass) c.args.guards.now) c.in-Some.left c.in-Some-without_guards.rest c.args.steps c.in-Some.ensures.some c.in-Some-without_guards.ensures.some no
