use Rattle.std.proofs.Common.{ℕ, ◌≡◌, ◌≤◌, drop, length, nat_eq}
use Rattle.std.specs.BTreeMap.{get}
use Rattle.std.specs.Ordering.{nat_cmp}
use Rattle.std.specs.Option.{option_or, option_map}
use Rattle.std.specs.List.{find}
use Rattle.lt_rules.specs.Rules.{number_of}
use Rattle.lt_trace_show.specs.Phases.{reader_phase}
use Rattle.lt_trace_show.proofs.phase_map.put_readers.Given as goal

abbrev pub invariant-loop-left : goal.invariant-loop-left
invariant-loop-left l = record {
  within : l.left ≤ length l.readers;
  put : (n : ℕ) → get nat_cmp l.phases n ≡ option_or (option_map reader_phase (find (λ q. nat_eq (number_of q) n) (drop l.left l.readers))) (get nat_cmp l.initial.phases n);
}

abbrev pub decreases-loop-left : goal.decreases-loop-left
decreases-loop-left l = l.left
