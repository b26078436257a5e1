use Rattle.std.proofs.Common.{◌≡◌, true, is_some, rules}
use Rattle.lt_lock.proofs.LoneLocks.{look_lone}
use Rattle.lt_lock.proofs.table.look_with.Goals as goal

pub returns-then-is_some : goal.returns-then-is_some
returns-then-is_some c =
    let some : is_some c.args.lone.now ≡ true = search rules in
    look_lone c.args.lone.now c.args.rows.now c.args.key.now c.args.number some
