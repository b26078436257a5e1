-- The output of a script ends with a text that a check accepts.
use Rattle.std.proofs.Common.{◌≡◌, ℕ, List, Option, length, refl, subst, inr}
use Rattle.lt_checker.proofs.Verdicts.{all_of_latest}
use Rattle.lt_script.specs.declared.command.Command.{Command}
use Rattle.lt_runner.specs.declared.outcome.Finish.{Finish}
use Rattle.lt_runner.specs.declared.outcome.Ran.{Ran}
use Rattle.lt_runner.specs.Ran.{IsRan, all_entries, run_rules}
use Rattle.lt_runner.specs.Gates.{GateAnswers}
use Rattle.lockrun_words.specs.declared.options.Options.{Options}
use Rattle.lt_tool.specs.Output.{IsComposed, IsOutput, rules_of_options, turns_of}

written : (options : Options) (gate : GateAnswers) (commands : List Command) (ran : Ran) (text : List ℕ) (finish : Finish) → IsRan (rules_of_options options) gate options.shards commands ran → IsComposed ran text finish
    → IsOutput options gate commands text finish
written options gate commands ran text finish is_ran composed = record {
  ran = ran;
  is_ran = is_ran;
  finish_is = composed.finish_is;
  histories = composed.histories;
  report = record { version = 2; keys = length composed.is_text.keys; steps = length (all_entries ran.histories.items) };
  latest = refl;
  legal = record {
    is_version = inr refl;
    entries = all_entries ran.histories.items;
    in_range = is_ran.in_range;
    of_version = all_of_latest (all_entries ran.histories.items);
    legal = is_ran.legal;
    is_text = composed.is_text;
    keys = refl;
    steps = refl;
  };
  entries_are = refl;
  whole = composed.whole;
}

pub is_output : (options : Options) (gate : GateAnswers) (commands given : List Command) (turns : Option ℕ) (ran : Ran) (text : List ℕ) (finish : Finish) → turns ≡ turns_of options → given ≡ commands
    → IsRan (run_rules options.steps turns) gate options.shards given ran → IsComposed ran text finish → IsOutput options gate commands text finish
is_output options gate commands given turns ran text finish said same is_ran composed =
    written options gate commands ran text finish
    (subst (λ (cs : List Command). IsRan (rules_of_options options) gate options.shards cs ran) same
    (subst (λ (t : Option ℕ). IsRan (run_rules options.steps t) gate options.shards given ran) said is_ran)) composed
