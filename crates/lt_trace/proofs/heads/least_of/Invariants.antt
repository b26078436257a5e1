use Rattle.std.proofs.Common.{◌≡◌, option_map}
use Rattle.lt_trace.specs.Heads.{keys_of_heads}
use Rattle.lt_trace.proofs.HeadLaws.{LeastUpTo}
use Rattle.lt_trace.proofs.heads.least_of.Given as goal

abbrev pub invariant-loop-head : goal.invariant-loop-head
invariant-loop-head l = record {
  counts : l.i ≡ l.head-index;
  least : LeastUpTo (keys_of_heads l.heads) l.i (option_map (λ x. (x.0, x.1.now)) l.least);
}
