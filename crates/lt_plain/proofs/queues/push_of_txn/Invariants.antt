use Rattle.std.proofs.Common.{◌≡◌, ◌≤◌, ◌&&◌, ◌++◌, take, vec_capacity}
use Rattle.std.specs.List.{flat_map}
use Rattle.lt_rules.specs.Rules.{is_of}
use Rattle.lt_plain.specs.Plain.{let_if}
use Rattle.lt_plain.proofs.queues.push_of_txn.Given as goal

abbrev pub invariant-loop-w : goal.invariant-loop-w
invariant-loop-w l = record {
  items : l.lets.items ≡ l.initial.lets.items ++ flat_map (λ w. let_if (is_of l.txn w && w.active) w.request) (take l.w-index l.writers);
  room : vec_capacity l.initial.lets ≤ vec_capacity l.lets;
}
