use Rattle.std.proofs.Common.{subst}
use Rattle.std.specs.List.Sorted.{IsPermutation}
use Rattle.lt_lock.proofs.SortedKeys.{sorted_keys}
use Rattle.lt_lock.proofs.row_table.all_keys.Goals as goal

pub returns : goal.returns
returns c =
    sorted_keys c.args.links.now c.args.rows.now c.sort_unstable.new.self.items c.copied_keys.ensures.distinct
    (subst (λ ks. IsPermutation ks c.sort_unstable.new.self.items) c.in_ok-all.ensures.copied c.sort_unstable.ensures.permutation)
    c.sort_unstable.ensures.sorted
