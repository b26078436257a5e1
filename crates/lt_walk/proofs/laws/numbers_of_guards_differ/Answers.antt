use Rattle.lt_walk.proofs.InPlace.{numbers_of_guards_differ}
use Rattle.lt_walk.proofs.laws.numbers_of_guards_differ.Goals as goal

pub returns : goal.returns
returns c = numbers_of_guards_differ
