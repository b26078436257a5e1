use Rattle.std.proofs.Common.{◌≡◌, rules}
use Rattle.std.proofs.lemmas.List.{map-append}
use Rattle.example_store.specs.Closing.{IsLogOf}
use Rattle.example_store.proofs.Passes.{all_more, zip_more}
use Rattle.example_store.proofs.closing.all_parts_of.Goals as goal

pub loop-session-preserved : goal.loop-session-preserved
loop-session-preserved g c = record {
  of = rw c.push_reserved.ensures.items (all_more (λ p. p.of ≡ g.N.Name.of) c.loop-session.passes.items c.in-Some-parts_of.pass c.loop-session.invariant.of c.in-Some-parts_of.ensures.of);
  each = rw (c.push_reserved.ensures.items, c.push_reserved-in-loop-session.ensures.items) (zip_more IsLogOf c.loop-session.passes.items c.loop-session.logs.items c.in-Some-parts_of.pass c.in-Some-parts_of.log c.loop-session.invariant.each c.in-Some-parts_of.ensures.log);
  logs = search (rules, map-append);
  room = search rules;
  log_room = search rules;
}
