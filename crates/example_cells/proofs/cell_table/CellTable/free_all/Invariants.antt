use Rattle.std.proofs.Common.{◌≡◌, ◌+◌, ◌≤◌, length, vec_capacity}
use Rattle.std.specs.List.{All, AllZip}
use Rattle.std.specs.Vec.Iter.{into_iter_items, into_iter_len}
use mathlib.Core.List.{IsPrefix}
use Rattle.example_cells.specs.Committing.{IsFreed}
use Rattle.example_cells.specs.Leaving.{IsPutLeft}
use Rattle.example_cells.proofs.cell_table.CellTable.free_all.Given as goal

abbrev pub invariant-loop-lock : goal.invariant-loop-lock
invariant-loop-lock g l = record {
  of : l.pass.of ≡ g.N.Name.of;
  number : l.pass.number ≡ l.initial.pass.number;
  more : IsPrefix l.initial.pass.seen l.pass.seen;
  room : length l.done.items + into_iter_len l.lock-iterator ≤ vec_capacity l.done;
  took : All (λ k. IsPrefix k.seen.seen l.point.seen) (into_iter_items l.lock-iterator);
  freed : AllZip (λ k t. IsFreed g.N.Name.of.shards l.pass.seen l.point.seen k.key k.txn k.taken k.put t) l.yielded l.done.items;
  left : AllZip (λ k t. IsPutLeft g.N.Name.of.shards g.N.ValueName.values k.put t) l.yielded l.done.items;
}
