use Rattle.std.proofs.Common.{Some}
use Rattle.clap.specs.Words.{found_of}
use Rattle.lockrun_words.proofs.Commands.{runs_with}
use Rattle.lockrun_words.proofs.words.run_of.Goals as goal

pub returns-clause-named : goal.returns-clause-named
returns-clause-named c = runs_with (found_of c.args.matches.now) _ (Some c.in_ok-options.options) c.get_str.ensures c.in_ok-options.ensures.said
