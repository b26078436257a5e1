use Rattle.std.proofs.Common.{refl}
use Rattle.lt_walk.proofs.Noted.{handed_are_of}
use Rattle.lt_try.proofs.opening.TryTable+T+M.open.Goals as goal

pub returns-clause-of : goal.returns-clause-of
returns-clause-of g c = handed_are_of c.args.ready.of c.args.ready.of c.args.ready.config.passes c.parts_of-book.result.passes.items c.parts_of-book.ensures.passes refl
