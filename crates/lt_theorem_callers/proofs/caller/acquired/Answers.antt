use Rattle.std.proofs.Common.{rules}
use Rattle.lt_theorem_callers.proofs.Hearing.{told_call}
use Rattle.lt_theorem_callers.proofs.caller.acquired.Goals as goal

pub returns-then-note_all-clause-noted : goal.returns-then-note_all-clause-noted
returns-then-note_all-clause-noted g c = record {
  number = search rules;
  noted = record {
    table = search rules;
    told = rw c.if-note_all.ensures (told_call c.hearing_goes_on.ensures _ _ _ _ _ _ c.in-Ok.answer c.in-Ok.ensures.ok c.requires.noted.told);
  };
}
