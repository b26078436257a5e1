use Rattle.std.proofs.Common.{rules}
use Rattle.lt_walk.proofs.closing.CloseErrorFromAllocError.from.Goals as goal

pub returns : goal.returns
returns c = search rules
