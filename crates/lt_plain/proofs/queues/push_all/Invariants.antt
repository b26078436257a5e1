use Rattle.std.proofs.Common.{◌≡◌, ◌≤◌, ◌++◌, true, take, vec_capacity}
use Rattle.std.specs.List.{flat_map}
use Rattle.lt_plain.specs.Plain.{let_if}
use Rattle.lt_plain.proofs.queues.push_all.Given as goal

abbrev pub invariant-loop-q : goal.invariant-loop-q
invariant-loop-q l = record {
  items : l.lets.items ≡ l.initial.lets.items ++ flat_map (λ q. let_if true q) (take l.q-index l.requests);
  room : vec_capacity l.initial.lets ≤ vec_capacity l.lets;
}
