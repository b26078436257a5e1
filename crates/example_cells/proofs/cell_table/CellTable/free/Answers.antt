use Rattle.std.proofs.Common.{◌≡◌, ◌≤◌, ◌+◌, true, Some, length, take, sym, subst, ◌∙◌}
use Rattle.std.specs.Prelude.{IfSome}
use Rattle.example_values.specs.Values.{ValuesState}
use Rattle.lt_words.specs.History.{part, shard_of}
use Rattle.example_cells.specs.declared.cells.Cells.{Cells}
use Rattle.example_cells.specs.declared.cell.PastTenure.{PastTenure}
use Rattle.example_cells.specs.Knowing.{last_of, cell_at, CellsKnow, InstallsWith, value_bytes}
use Rattle.example_cells.specs.Leaving.{LeftAt}
use Rattle.example_cells.proofs.Freed.{was_held, installs, if_freed, some_at}
use Rattle.example_cells.proofs.cell_table.CellTable.free.Goals as goal

pub returns-clause-held : goal.returns-clause-held
returns-clause-held g c = if_freed _ c.freed_of.result (λ f is.
    let told = c.in_ok-installed in
    let a = some_at _ c.finish_at_last-answer.result.1 told.installed told.was c.finish_at_last-answer.ensures.changed in
    let lock = c.args.lock.now in
    let shards = g.N.Name.of.shards in
    let es = part (shard_of lock.key shards) c.finish_at_last-answer.new.pass.seen in
    let past : told.installed.last ≡ Some (record { txn = lock.txn; taken = lock.taken; freed = f.at }) = some_at (λ f. told.installed.last ≡ Some (record { txn = lock.txn; taken = lock.taken; freed = f.at })) c.freed_of.result f is c.freed_of.ensures.past in
    let index = some_at (λ f. c.finish_at_last-answer.result.0.at ≡ f.at) c.freed_of.result f is c.freed_of.ensures.at in
    let last : last_of (cell_at a.0.map lock.key) ≡ Some (record { txn = lock.txn; taken = lock.taken; freed = f.at }) = subst (λ (w : Cells g.row.N.Denot g.N.Name g.N.ValueName). last_of (cell_at w.map lock.key) ≡ Some (record { txn = lock.txn; taken = lock.taken; freed = f.at })) a.2.shows (sym a.2.met.1.1.0 ∙ past) in
    let since = subst (λ o. length (part (shard_of lock.key o.shards) c.args.pass.now.seen) ≤ c.finish_at_last-answer.result.0.at) c.requires.pass c.finish_at_last-answer.ensures.ok.reports.later in
    was_held c.parts_begin.ensures c.tenure_lasts.ensures shards c.args.pass.now.seen c.finish_at_last-answer.new.pass.seen c.args.point.now.seen lock.seen.seen lock.key lock.txn lock.ts lock.taken f.at a.0.map
    c.was_taken.ensures.took c.requires.took c.requires.point (subst (λ n. length (part (shard_of lock.key shards) c.args.pass.now.seen) ≤ n) index since) (subst (λ n. CellsKnow (take (n + 1) es) a.0.map) index a.3) last)

pub returns-clause-installs : goal.returns-clause-installs
returns-clause-installs g c = if_freed _ c.freed_of.result (λ f is.
    let told = c.in_ok-installed in
    let a = some_at _ c.finish_at_last-answer.result.1 told.installed told.was c.finish_at_last-answer.ensures.changed in
    let lock = c.args.lock.now in
    let left = told.installed.left in
    let es = part (shard_of lock.key g.N.Name.of.shards) c.finish_at_last-answer.new.pass.seen in
    let past : told.installed.last ≡ Some (record { txn = lock.txn; taken = lock.taken; freed = f.at }) = some_at (λ f. told.installed.last ≡ Some (record { txn = lock.txn; taken = lock.taken; freed = f.at })) c.freed_of.result f is c.freed_of.ensures.past in
    let index = some_at (λ f. c.finish_at_last-answer.result.0.at ≡ f.at) c.freed_of.result f is c.freed_of.ensures.at in
    let last : last_of (cell_at a.0.map lock.key) ≡ Some (record { txn = lock.txn; taken = lock.taken; freed = f.at }) = subst (λ (w : Cells g.row.N.Denot g.N.Name g.N.ValueName). last_of (cell_at w.map lock.key) ≡ Some (record { txn = lock.txn; taken = lock.taken; freed = f.at })) a.2.shows (sym a.2.met.1.1.0 ∙ past) in
    let at_new : InstallsWith left a.0.map a.1.map lock.key c.args.put = subst (λ (w : Cells g.row.N.Denot g.N.Name g.N.ValueName). InstallsWith left a.0.map w.map lock.key c.args.put) a.2.leaves (subst (λ (v : Cells g.row.N.Denot g.N.Name g.N.ValueName). InstallsWith left v.map a.2.left.now.map lock.key c.args.put) a.2.shows a.2.met.0) in
    installs left es lock.key f.at c.args.put a.0.map a.1.map _ (subst (λ n. CellsKnow (take (n + 1) es) a.0.map) index a.3) at_new (subst (λ n. CellsKnow (take (n + 1) es) a.1.map) index a.4) last)

pub returns-clause-book : goal.returns-clause-book
returns-clause-book g c = if_freed _ c.freed_of.result (λ f is.
    let told = c.in_ok-installed in
    let a = some_at _ c.finish_at_last-answer.result.1 told.installed told.was c.finish_at_last-answer.ensures.changed in
    let same : f.values ≡ told.installed.values = some_at (λ f. f.values ≡ told.installed.values) c.freed_of.result f is c.freed_of.ensures.values in
    subst (λ (s : ValuesState). s.book ≡ g.N.ValueName.values) (sym same) a.2.met.1.1.1.0)

pub returns-clause-left : goal.returns-clause-left
returns-clause-left g c = if_freed _ c.freed_of.result (λ f is.
    let told = c.in_ok-installed in
    let lock = c.args.lock.now in
    let shards = g.N.Name.of.shards in
    let a = some_at _ c.finish_at_last-answer.result.1 told.installed told.was c.finish_at_last-answer.ensures.changed in
    let same : f.values ≡ told.installed.values = some_at (λ f. f.values ≡ told.installed.values) c.freed_of.result f is c.freed_of.ensures.values in
    let done : told.installed.left ≡ true = some_at (λ f. told.installed.left ≡ true) c.freed_of.result f is c.freed_of.ensures.left in
    let tenure : PastTenure = record { txn = lock.txn; taken = lock.taken; freed = f.at } in
    let past : told.installed.last ≡ Some tenure = some_at (λ f. told.installed.last ≡ Some (record { txn = lock.txn; taken = lock.taken; freed = f.at })) c.freed_of.result f is c.freed_of.ensures.past in
    subst (λ (s : ValuesState). IfSome c.args.put (λ p. LeftAt shards s.log lock.key f.at (value_bytes p))) (sym same)
    (some_at (λ (t : PastTenure). IfSome c.args.put (λ p. LeftAt shards told.installed.values.log lock.key t.freed (value_bytes p))) told.installed.last tenure past (a.2.met.1.1.1.1 done)))
