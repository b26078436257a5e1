use Rattle.std.proofs.Common.{◌≡◌, map, Ok}
use Rattle.lt_runner.proofs.running.collect.Given as goal

abbrev pub invariant-loop-tried : goal.invariant-loop-tried
invariant-loop-tried l = l.yielded ≡ map Ok l.works.items
