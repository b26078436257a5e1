use Rattle.std.proofs.Common.{◌≡◌, ◌≤◌, ◌++◌, take, vec_capacity}
use Rattle.std.specs.List.{flat_map}
use Rattle.lt_plain.specs.Plain.{let_if}
use Rattle.lt_plain.proofs.queues.push_active.Given as goal

abbrev pub invariant-loop-w : goal.invariant-loop-w
invariant-loop-w l = record {
  items : l.lets.items ≡ l.initial.lets.items ++ flat_map (λ w. let_if w.active w.request) (take l.w-index l.writers);
  room : vec_capacity l.initial.lets ≤ vec_capacity l.lets;
}
