use Rattle.std.proofs.Common.{vec_len}
use Rattle.lt_walk.proofs.closing.abandon_guards.Given as goal

abbrev pub decreases-loop-guard : goal.decreases-loop-guard
decreases-loop-guard l = vec_len l.guards
