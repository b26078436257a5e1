-- How a map from the numbers of requests stands for the queues of a key.
use Rattle.std.specs.Prelude.{ℕ, ◌≡◌}
use Rattle.std.specs.Option.{unwrap_or}
use Rattle.std.specs.BTreeMap.{BTreeMap, get}
use Rattle.std.specs.Ordering.{nat_cmp}
use Rattle.lt_rules.specs.Rules.{Record}
use Rattle.lt_trace_show.specs.declared.timeline.Phase.{Phase}
use Rattle.lt_trace_show.specs.declared.timeline.Phase.TheVariants.{Out}
use Rattle.lt_trace_show.specs.Phases.{queued_phase}

-- The map has the phase of each queued request, and of no other.
abbrev pub IsPhaseMap : BTreeMap ℕ Phase → Record → Type 0
IsPhaseMap phases r = (n : ℕ) → unwrap_or (get nat_cmp phases n) Out ≡ queued_phase n r.writers r.readers
