use Rattle.std.proofs.lemmas.List.Sorted.{Contains-permutation}
use Rattle.lt_trace_show.proofs.Numbers.{rises_sorted}
use Rattle.lt_trace_show.proofs.change.in_order.Goals as goal

pub returns-clause-kept : goal.returns-clause-kept
returns-clause-kept c = λ n there. Contains-permutation c.args.numbers.items c.sort_unstable.new.self.items n c.sort_unstable.ensures.permutation there

pub returns-clause-rises : goal.returns-clause-rises
returns-clause-rises c = rises_sorted c.sort_unstable.new.self.items c.sort_unstable.ensures.sorted
