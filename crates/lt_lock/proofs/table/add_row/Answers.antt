use Rattle.std.proofs.Common.{◌≡◌, IsSome, subst, sym, refl}
use Rattle.std.specs.FinMap as finmap
use Rattle.lt_rules.specs.Rules.{take_lock}
use Rattle.lt_lock.specs.Lone.{held}
use Rattle.lt_lock.proofs.LoneLocks.{is_one}
use Rattle.lt_lock.proofs.table.add_row.Goals as goal

pub returns-clause-same : goal.returns-clause-same
returns-clause-same c =
    let none : c.args.rows.now ≡ finmap.empty = c.requires.with_lone.alone (subst IsSome (sym c.in-Some.is) refl) in
    let step = rw none at c.in_ok-add_held.ensures.ok in
    rw c.in-Some.is (is_one c.add_held.new.self c.in-Some.alone.key (λ r. take_lock r c.in-Some.alone.holder) _ _ (held c.in-Some.alone.holder) step refl refl)
