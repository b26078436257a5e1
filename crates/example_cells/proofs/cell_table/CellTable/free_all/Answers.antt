use Rattle.std.proofs.Common.{◌≡◌, rules, refl, [], ◌∷◌, ◌++◌, sym, subst}
use Rattle.std.specs.List.{All, AllZip}
use Rattle.std.proofs.lemmas.List.{append-nil}
use Rattle.std.specs.Vec.Iter.{into_iter_items}
use Rattle.std.proofs.lemmas.List.Elements.{All-rest, All-head}
use mathlib.Core.List.{IsPrefix}
use Rattle.example_cells.specs.declared.held.HeldLock.{HeldLock}
use Rattle.example_cells.specs.declared.committed.LockTenure.{LockTenure}
use Rattle.example_cells.specs.Committing.{IsFreed}
use Rattle.example_cells.specs.Leaving.{IsPutLeft}
use Rattle.example_cells.proofs.Freed.{zip_more, zip_map, followed, freed_on}
use Rattle.example_cells.proofs.cell_table.CellTable.free_all.Goals as goal

pub loop-lock-preserved : goal.loop-lock-preserved
loop-lock-preserved g c = record {
  of = c.in_ok-tenure.ensures.of;
  number = search rules;
  more = followed c.args.pass.now.seen c.loop-lock.pass.seen c.free_one.new.pass.seen c.loop-lock.invariant.more c.in_ok-tenure.ensures.more;
  room = search rules;
  took = All-rest (λ k. IsPrefix k.seen.seen c.args.point.now.seen) c.in-Some.lock (into_iter_items c.next.new.self) (into_iter_items c.loop-lock.lock-iterator) (search rules) c.loop-lock.invariant.took;
  freed =
      let R = λ (k : HeldLock g.row.N.Denot g.N.Name g.N.ValueName) (t : LockTenure). IsFreed g.N.Name.of.shards c.loop-lock.pass.seen c.args.point.now.seen k.key k.txn k.taken k.put t in
      let S = λ (k : HeldLock g.row.N.Denot g.N.Name g.N.ValueName) (t : LockTenure). IsFreed g.N.Name.of.shards c.free_one.new.pass.seen c.args.point.now.seen k.key k.txn k.taken k.put t in
      subst (AllZip S (c.loop-lock.yielded ++ c.in-Some.lock ∷ [])) (sym c.push_reserved.ensures.items) (zip_more S c.loop-lock.yielded c.loop-lock.done.items c.in-Some.lock c.in_ok-tenure.tenure
      (zip_map R S c.loop-lock.yielded c.loop-lock.done.items (λ k t f. freed_on c.tenures_stay.ensures c.parts_begin.ensures g.N.Name.of.shards c.loop-lock.pass.seen c.free_one.new.pass.seen c.args.point.now.seen k.key k.txn k.taken k.put t c.in_ok-tenure.ensures.more f) c.loop-lock.invariant.freed)
      c.in_ok-tenure.ensures.freed);
  left =
      let R = λ (k : HeldLock g.row.N.Denot g.N.Name g.N.ValueName) (t : LockTenure). IsPutLeft g.N.Name.of.shards g.N.ValueName.values k.put t in
      subst (AllZip R (c.loop-lock.yielded ++ c.in-Some.lock ∷ [])) (sym c.push_reserved.ensures.items) (zip_more R c.loop-lock.yielded c.loop-lock.done.items c.in-Some.lock c.in_ok-tenure.tenure c.loop-lock.invariant.left c.in_ok-tenure.ensures.left);
}

pub loop-lock-init : goal.loop-lock-init
loop-lock-init g c = record {
  of = c.requires.pass;
  number = refl;
  more = ([], append-nil c.args.pass.now.seen);
  room = search rules;
  took =
      let items : c.args.locks.items ≡ into_iter_items c.into_iter-lock-iterator.result = search rules in
      subst (All (λ k. IsPrefix k.seen.seen c.args.point.now.seen)) items c.requires.took;
  freed = rw c.requires.none tt;
  left = rw c.requires.none tt;
}

pub free_one-requires-clause-took : goal.free_one-requires-clause-took
free_one-requires-clause-took g c =
    let rest : into_iter_items c.loop-lock.lock-iterator ≡ c.in-Some.lock ∷ into_iter_items c.next.new.self = search rules in
    All-head (λ k. IsPrefix k.seen.seen c.args.point.now.seen) c.in-Some.lock (into_iter_items c.next.new.self) (subst (All (λ k. IsPrefix k.seen.seen c.args.point.now.seen)) rest c.loop-lock.invariant.took)
