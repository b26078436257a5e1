use Rattle.lt_writer.proofs.Sorting.{rises, same_parts}
use Rattle.lt_writer.proofs.composer.by_key.Goals as goal

pub returns-clause-rising : goal.returns-clause-rising
returns-clause-rising c = rises _ c.in_ok-sort_by_key.ensures.sorted

pub returns-clause-parts : goal.returns-clause-parts
returns-clause-parts c = same_parts _ _ _ c.sort_by_key.ensures.stable c.in_ok-entries.ensures
