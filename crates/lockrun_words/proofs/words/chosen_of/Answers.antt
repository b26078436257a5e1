use Rattle.clap.specs.Words.{found_of}
use Rattle.lockrun_words.proofs.Commands.{chosen}
use Rattle.lockrun_words.proofs.words.chosen_of.Goals as goal

pub returns-clause-said : goal.returns-clause-said
returns-clause-said c = chosen (found_of c.args.matches.now) _ _ _ _ c.options_of.result c.get_str.ensures c.get_str-2.ensures c.get_str-3.ensures c.get_str-4.ensures c.options_of.ensures.said
