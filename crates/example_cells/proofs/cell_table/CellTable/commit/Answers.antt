use Rattle.std.proofs.Common.{sym, subst}
use Rattle.std.specs.List.{AllZip}
use mathlib.Core.List.{IsPrefix}
use Rattle.example_cells.specs.declared.held.HeldLock.{HeldLock}
use Rattle.example_cells.specs.declared.committed.LockTenure.{LockTenure}
use Rattle.example_cells.specs.Committing.{IsFreed}
use Rattle.example_cells.proofs.Freed.{followed}
use Rattle.example_cells.proofs.Learning.{held_at_once}
use Rattle.example_cells.proofs.cell_table.CellTable.commit.Goals as goal

pub free_all-requires-clause-took : goal.free_all-requires-clause-took
free_all-requires-clause-took g c = λ k d below.
    subst (IsPrefix _) (sym c.seen-point.ensures.seen) (followed _ c.learn.new.self.seen c.learn-2.new.self.seen (followed _ c.learn_all.new.pass.seen c.learn.new.self.seen (c.learn_all.ensures.all k d below) c.learn.ensures.more.seen) c.learn-2.ensures.more.seen)

pub invariant_of-result : goal.invariant_of-result
invariant_of-result g c =
    let point = c.seen-point.ensures.seen in
    let seen = c.seen.ensures.seen in
    let freed : AllZip (λ (l : HeldLock g.row.N.Denot g.N.Name g.N.ValueName) (t : LockTenure). IsFreed g.N.Name.of.shards c.seen.result.seen c.seen-point.result.seen l.key l.txn l.taken l.put t) c.args.txn.locks.items c.in_ok-tenures.tenures.items =
    subst (λ s. AllZip (λ (l : HeldLock g.row.N.Denot g.N.Name g.N.ValueName) (t : LockTenure). IsFreed g.N.Name.of.shards s c.seen-point.result.seen l.key l.txn l.taken l.put t) c.args.txn.locks.items c.in_ok-tenures.tenures.items) (sym seen) c.in_ok-tenures.ensures.freed in
    record {
      began = subst (IsPrefix c.args.txn.name.began.seen) (sym point) (followed c.args.txn.name.began.seen c.learn.new.self.seen c.learn-2.new.self.seen c.learn.ensures.that c.learn-2.ensures.more.seen);
      above = c.args.txn.name.above;
      counted = c.args.txn.name.counted;
      drew = c.args.txn.name.drew;
      named = subst (IsPrefix c.args.txn.name.seen.seen) (sym point) c.learn-2.ensures.that;
      two_phase = record {
        within = subst (IsPrefix c.seen-point.result.seen) (sym seen) (subst (λ p. IsPrefix p c.free_all.new.pass.seen) (sym point) c.in_ok-tenures.ensures.more);
        held = held_at_once (λ (l : HeldLock g.row.N.Denot g.N.Name g.N.ValueName). l.key) (λ (l : HeldLock g.row.N.Denot g.N.Name g.N.ValueName). l.txn) (λ (l : HeldLock g.row.N.Denot g.N.Name g.N.ValueName). l.taken) (λ (l : HeldLock g.row.N.Denot g.N.Name g.N.ValueName). l.put) g.N.Name.of.shards c.seen.result.seen c.seen-point.result.seen c.args.txn.name.id c.args.txn.locks.items c.in_ok-tenures.tenures.items c.args.txn.own freed;
      };
    }

pub returns-clause-freed : goal.returns-clause-freed
returns-clause-freed g c = subst (λ s. AllZip (λ (l : HeldLock g.row.N.Denot g.N.Name g.N.ValueName) (t : LockTenure). IsFreed g.N.Name.of.shards s c.seen-point.result.seen l.key l.txn l.taken l.put t) c.args.txn.locks.items c.in_ok-tenures.tenures.items) (sym c.seen.ensures.seen) c.in_ok-tenures.ensures.freed
