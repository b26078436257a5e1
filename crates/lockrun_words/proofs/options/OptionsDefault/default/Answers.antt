use Rattle.std.proofs.Common.{rules}
use Rattle.lockrun_words.proofs.options.OptionsDefault.default.Goals as goal

pub returns : goal.returns
returns c = search rules
