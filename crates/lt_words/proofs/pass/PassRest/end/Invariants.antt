use Rattle.std.proofs.Common.{vec_len}
use Rattle.lt_words.proofs.pass.PassRest.end.Given as goal

abbrev pub decreases-loop-owed : goal.decreases-loop-owed
decreases-loop-owed l = vec_len l.noted
