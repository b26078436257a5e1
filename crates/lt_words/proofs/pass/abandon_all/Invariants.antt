use Rattle.std.proofs.Common.{vec_len}
use Rattle.lt_words.proofs.pass.abandon_all.Given as goal

abbrev pub decreases-loop-pass : goal.decreases-loop-pass
decreases-loop-pass l = vec_len l.passes
