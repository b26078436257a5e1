use Rattle.std.proofs.Common.{rules}
use Rattle.lt_theorem_callers.proofs.Hearing.{told_call}
use Rattle.lt_theorem_callers.proofs.caller.finished.Goals as goal

pub returns-then-note_all : goal.returns-then-note_all
returns-then-note_all g c = record {
  noted = record {
    number = search rules;
    noted = record {
      table = search rules;
      told = rw c.if-note_all.ensures (told_call c.hearing_goes_on.ensures _ _ _ _ _ _ c.in-Ok.answer c.in-Ok.ensures.ok c.requires.noted.told);
    };
  };
}
