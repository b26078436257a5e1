use Rattle.std.proofs.Common.{◌≡◌, ◌+◌, ◌≤◌, length, map, vec_capacity}
use Rattle.std.specs.List.{All, AllZip}
use Rattle.std.specs.Vec.Iter.{into_iter_len}
use Rattle.example_store.specs.Closing.{IsLogOf}
use Rattle.example_store.proofs.closing.all_parts_of.Given as goal

abbrev pub invariant-loop-session : goal.invariant-loop-session
invariant-loop-session g l = record {
  of : All (λ p. p.of ≡ g.N.Name.of) l.passes.items;
  each : AllZip IsLogOf l.passes.items l.logs.items;
  logs : l.logs.items ≡ map (λ s. s.log) l.yielded;
  room : length l.passes.items + into_iter_len l.session-iterator ≤ vec_capacity l.passes;
  log_room : length l.logs.items + into_iter_len l.session-iterator ≤ vec_capacity l.logs;
}
