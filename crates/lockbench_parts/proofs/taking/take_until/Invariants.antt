use Rattle.std.proofs.Common.{◌≡◌, []}
use Rattle.lockbench_parts.proofs.taking.take_until.Given as goal

abbrev pub invariant-loop : goal.invariant-loop
invariant-loop g l = (l.pass.of ≡ g.N.Name.of) × (l.room.items ≡ [])
