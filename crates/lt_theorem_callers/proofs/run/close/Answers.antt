use Rattle.std.proofs.Common.{◌≢◌, ◌∙◌, ap}
use Rattle.lt_theorem_callers.specs.Heard.{WasTold}
use Rattle.lt_theorem_callers.proofs.Concluding.{two_of, closed_with, concluded}
use Rattle.lt_theorem_callers.proofs.run.close.Goals as goal

pub close_rest-requires-clause-passes : goal.close_rest-requires-clause-passes
close_rest-requires-clause-passes g c =
    two_of g.N.Name.of c.into_parts-pass.result.0 c.into_parts-other.result.0 c.in_ok-passes.passes.items c.in_ok-passes.ensures
    (ap (λ p. p.of) c.into_parts-pass.ensures.pass ∙ c.requires.one.table)
    (ap (λ p. p.of) c.into_parts-other.ensures.pass ∙ c.requires.two.table)

pub returns-in-Ok : goal.returns-in-Ok
returns-in-Ok g c = λ d.
    let one = c.into_parts-pass.result in
    let two = c.into_parts-other.result in
    let differ : one.0.number ≢ two.0.number = rw (c.into_parts-pass.ensures.pass, c.into_parts-other.ensures.pass) c.requires.differ in
    let told : WasTold one.0 one.1.answers.items one.1.lets.items = rw (c.into_parts-pass.ensures.pass, c.into_parts-pass.ensures.notes) c.requires.one.told in
    let other : WasTold two.0 two.1.answers.items two.1.lets.items = rw (c.into_parts-other.ensures.pass, c.into_parts-other.ensures.notes) c.requires.two.told in
    concluded c.main_theorem.ensures c.rest_is_end.ensures g.N.Name.of one.0 two.0 _ _ _ _ c.in-Ok.rests.shards.items c.in-Ok.rests.draws d
    (ap (λ p. p.of) c.into_parts-pass.ensures.pass ∙ c.requires.one.table)
    (ap (λ p. p.of) c.into_parts-other.ensures.pass ∙ c.requires.two.table)
    differ told other
    (closed_with g.N.Name.of one.0 two.0 c.in_ok-passes.passes.items c.new.result.items c.in-Ok.rests.shards.items c.in-Ok.rests.draws c.in_ok-passes.ensures c.new.ensures.items c.in-Ok.ensures.closed)
