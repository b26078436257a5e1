use Rattle.std.proofs.Common.{◌≡◌, rules}
use Rattle.std.specs.Vec.Iter.{into_iter_items}
use Rattle.std.proofs.lemmas.List.Elements.{All-rest}
use Rattle.example_store.proofs.session.sessions_of.Goals as goal

pub loop-pass-preserved : goal.loop-pass-preserved
loop-pass-preserved g c = record {
  room = search rules;
  of = All-rest (λ p. p.of ≡ g.N.Name.of) c.in-Some.pass (into_iter_items c.next.new.self) (into_iter_items c.loop-pass.rest) (search rules) c.loop-pass.invariant.of;
}
