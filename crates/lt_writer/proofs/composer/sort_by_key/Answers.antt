use Rattle.std.proofs.Common.{rules}
use Rattle.std.proofs.lemmas.Cmp.{nat_list_cmp_total}
use Rattle.std.proofs.lemmas.List.Sorted.{ranks_by, answers_always}
use Rattle.lt_writer.proofs.composer.sort_by_key.Goals as goal

pub returns-clause-sorted : goal.returns-clause-sorted
returns-clause-sorted c = c.in_ok-sort_by.ensures.sorted _ (ranks_by nat_list_cmp_total (λ e. e.entry.now.key)) (answers_always _ _ _ (λ f a r g h. search rules))

pub returns-clause-stable : goal.returns-clause-stable
returns-clause-stable c = c.sort_by.ensures.stable _ (ranks_by nat_list_cmp_total (λ e. e.entry.now.key)) (answers_always _ _ _ (λ f a r g h. search rules))
