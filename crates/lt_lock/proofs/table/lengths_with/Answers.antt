use Rattle.std.proofs.Common.{◌≡◌, true, is_some, length, ap, sym, rules}
use Rattle.lt_lock.proofs.LoneLocks.{lone_writers, lone_readers}
use Rattle.lt_lock.proofs.table.lengths_with.Goals as goal

pub returns-then-is_some-clause-writers : goal.returns-then-is_some-clause-writers
returns-then-is_some-clause-writers c =
    let some : is_some c.args.lone.now ≡ true = search rules in
    sym (ap length (lone_writers c.args.lone.now c.args.rows.now c.args.key.now some))

pub returns-then-is_some-clause-readers : goal.returns-then-is_some-clause-readers
returns-then-is_some-clause-readers c =
    let some : is_some c.args.lone.now ≡ true = search rules in
    sym (ap length (lone_readers c.args.lone.now c.args.rows.now c.args.key.now some))
