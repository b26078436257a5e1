use Rattle.std.proofs.Common.{◌≡◌, ◌+◌, ◌≤◌, length, vec_capacity}
use Rattle.std.specs.List.{All}
use Rattle.std.specs.Vec.Iter.{into_iter_items, into_iter_len}
use Rattle.example_store.proofs.session.sessions_of.Given as goal

abbrev pub invariant-loop-pass : goal.invariant-loop-pass
invariant-loop-pass g l = record {
  room : length l.sessions.items + into_iter_len l.rest ≤ vec_capacity l.sessions;
  of : All (λ p. p.of ≡ g.N.Name.of) (into_iter_items l.rest);
}

abbrev pub decreases-loop-pass : goal.decreases-loop-pass
decreases-loop-pass g l = into_iter_len l.rest
