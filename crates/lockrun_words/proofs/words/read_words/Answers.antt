use Rattle.std.proofs.Common.{◌∙◌, ◌^◌, true, ap, arith}
use Rattle.std.specs.Fmt.{decimal}
use Rattle.lockrun_words.specs.Options.{default_options}
use Rattle.lockrun_words.specs.Words.{run as runs, check as checks, upgrade as upgrades, texts, faults, named}
use Rattle.std.proofs.Common.{None, Some}
use Rattle.lockrun_words.proofs.Literals as literals
use Rattle.lockrun_words.proofs.Ranges.{plain_decimal}
use Rattle.lockrun_words.proofs.Told.{gives, helps, refuses, unnamed}
use Rattle.lockrun_words.proofs.words.read_words.Goals as goal

pub returns-clause-none : goal.returns-clause-none
returns-clause-none c = λ e. gives (texts c.args.words.now) c.parsed.result (runs None default_options) (ap faults e ∙ literals.none_faults) (ap named e ∙ literals.none_named) c.parsed.ensures.read

pub returns-clause-run : goal.returns-clause-run
returns-clause-run c = λ e. gives (texts c.args.words.now) c.parsed.result (runs None default_options) (ap faults e ∙ literals.run_faults) (ap named e ∙ literals.run_named) c.parsed.ensures.read

pub returns-clause-script : goal.returns-clause-script
returns-clause-script c = λ file plain e.
    gives (texts c.args.words.now) c.parsed.result (runs (Some file) default_options) (ap faults e ∙ literals.script_faults file plain) (ap named e ∙ literals.script_named file plain) c.parsed.ensures.read

pub returns-clause-check : goal.returns-clause-check
returns-clause-check c = λ e. gives (texts c.args.words.now) c.parsed.result (checks None) (ap faults e ∙ literals.check_faults) (ap named e ∙ literals.check_named) c.parsed.ensures.read

pub returns-clause-histories : goal.returns-clause-histories
returns-clause-histories c = λ file plain e.
    gives (texts c.args.words.now) c.parsed.result (checks (Some file)) (ap faults e ∙ literals.histories_faults file plain) (ap named e ∙ literals.histories_named file plain) c.parsed.ensures.read

pub returns-clause-help : goal.returns-clause-help
returns-clause-help c = λ e. helps (texts c.args.words.now) c.parsed.result (ap faults e ∙ literals.help_faults) c.parsed.ensures.read

pub returns-clause-help_of : goal.returns-clause-help_of
returns-clause-help_of c = λ name is_command e. helps (texts c.args.words.now) c.parsed.result (ap faults e ∙ literals.help_of_faults name is_command) c.parsed.ensures.read

pub returns-clause-stray : goal.returns-clause-stray
returns-clause-stray c = λ word rest is_stray e. refuses (texts c.args.words.now) c.parsed.result _ _ (ap faults e ∙ literals.stray_faults word rest is_stray) literals.no_help_of_two c.parsed.ensures.read

pub returns-clause-two : goal.returns-clause-two
returns-clause-two c = λ name first second is_command f s e.
    refuses (texts c.args.words.now) c.parsed.result _ _ (ap faults e ∙ literals.two_faults name first second is_command f s) literals.no_help_of_one c.parsed.ensures.read

pub returns-clause-threads : goal.returns-clause-threads
returns-clause-threads c = λ e.
    gives (texts c.args.words.now) c.parsed.result (runs None (record default_options { threads = true })) (ap faults e ∙ literals.flag_faults) (ap named e ∙ literals.flag_named) c.parsed.ensures.read

pub returns-clause-shards : goal.returns-clause-shards
returns-clause-shards c = λ n some few e.
    gives (texts c.args.words.now) c.parsed.result (runs None (record default_options { shards = n })) (ap faults e ∙ literals.shards_faults (decimal n) (plain_decimal n 64 some few (omega arith)))
    (ap named e ∙ literals.shards_given n some few) c.parsed.ensures.read

pub returns-clause-steps : goal.returns-clause-steps
returns-clause-steps c = λ n some few e.
    gives (texts c.args.words.now) c.parsed.result (runs None (record default_options { steps = n })) (ap faults e ∙ literals.steps_faults (decimal n) (plain_decimal n (2 ^ 32) some few (omega arith)))
    (ap named e ∙ literals.steps_given n some few) c.parsed.ensures.read

pub returns-clause-turns : goal.returns-clause-turns
returns-clause-turns c = λ n some few e.
    gives (texts c.args.words.now) c.parsed.result (runs None (record default_options { turns = n })) (ap faults e ∙ literals.turns_faults (decimal n) (plain_decimal n 1000000000 some few (omega arith)))
    (ap named e ∙ literals.turns_given n some few) c.parsed.ensures.read

pub returns-clause-together : goal.returns-clause-together
returns-clause-together c = λ file plain e.
    gives (texts c.args.words.now) c.parsed.result (runs (Some file) (record default_options { shards = 1; steps = 2 })) (ap faults e ∙ literals.together_faults file plain) (ap named e ∙ literals.together_named file plain) c.parsed.ensures.read

pub returns-clause-out_of_range : goal.returns-clause-out_of_range
returns-clause-out_of_range c = λ name word most is_number plain beside e.
    unnamed (texts c.args.words.now) c.parsed.result (ap faults e ∙ literals.number_faults name word most is_number plain) (ap named e ∙ literals.none_named_beyond name word most is_number plain beside) c.parsed.ensures.read

pub returns-clause-option_of_check : goal.returns-clause-option_of_check
returns-clause-option_of_check c = λ command name word most reads is_number e.
    refuses (texts c.args.words.now) c.parsed.result _ _ (ap faults e ∙ literals.check_option_faults command name word most reads is_number) literals.no_help_of_one c.parsed.ensures.read

pub returns-clause-upgrade : goal.returns-clause-upgrade
returns-clause-upgrade c = λ e. gives (texts c.args.words.now) c.parsed.result (upgrades None) (ap faults e ∙ literals.upgrade_faults) (ap named e ∙ literals.upgrade_named) c.parsed.ensures.read

pub returns-clause-upgraded : goal.returns-clause-upgraded
returns-clause-upgraded c = λ file plain e.
    gives (texts c.args.words.now) c.parsed.result (upgrades (Some file)) (ap faults e ∙ literals.upgraded_faults file plain) (ap named e ∙ literals.upgraded_named file plain) c.parsed.ensures.read
