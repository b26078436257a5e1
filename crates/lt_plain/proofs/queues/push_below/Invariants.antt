use Rattle.std.proofs.Common.{◌≡◌, ◌≤◌, ◌++◌, take, vec_capacity}
use Rattle.std.specs.List.{flat_map}
use Rattle.lt_ids.specs.Ids.{is_below}
use Rattle.lt_plain.specs.Plain.{let_if}
use Rattle.lt_plain.proofs.queues.push_below.Given as goal

abbrev pub invariant-loop-q : goal.invariant-loop-q
invariant-loop-q l = record {
  items : l.lets.items ≡ l.initial.lets.items ++ flat_map (λ q. let_if (is_below q.ts l.ts) q) (take l.q-index l.readers);
  room : vec_capacity l.initial.lets ≤ vec_capacity l.lets;
}
