use Rattle.std.proofs.Common.{◌≡◌, []}
use Rattle.lockbench_parts.proofs.taking.take_round.Given as goal

abbrev pub invariant-loop-index : goal.invariant-loop-index
invariant-loop-index g l = (l.pass.of ≡ g.N.Name.of) × (l.room.items ≡ [])
