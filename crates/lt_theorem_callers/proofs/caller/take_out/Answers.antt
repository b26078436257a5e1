use Rattle.std.proofs.Common.{◌∙◌}
use Rattle.lt_theorem_callers.proofs.Hearing.{told_without}
use Rattle.lt_theorem_callers.proofs.caller.take_out.Goals as goal

pub returns-clause-noted : goal.returns-clause-noted
returns-clause-noted g c = record {
  number = c.take_history-before.ensures.more.number;
  noted = record {
    table = c.take_history-before.ensures.more.of ∙ c.requires.noted.table;
    told = told_without c.hearing_goes_on.ensures _ _ _ _ c.take_history-before.ensures.more c.requires.noted.told;
  };
}
