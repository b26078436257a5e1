use Rattle.std.proofs.Common.{length}
use Rattle.example_store.proofs.closing.«+differ».Given as goal

abbrev pub decreases-differ : goal.decreases-differ
decreases-differ l = length l.passes.now
