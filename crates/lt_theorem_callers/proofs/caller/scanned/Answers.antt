use Rattle.std.proofs.Common.{rules}
use Rattle.lt_theorem_callers.proofs.Hearing.{told_scan}
use Rattle.lt_theorem_callers.proofs.caller.scanned.Goals as goal

pub returns-then-note_all-clause-noted : goal.returns-then-note_all-clause-noted
returns-then-note_all-clause-noted g c = record {
  number = search rules;
  noted = record {
    table = search rules;
    told = rw (c.if-note_all.ensures, c.answers.ensures) (told_scan c.hearing_goes_on.ensures _ _ c.scan.new.guard c.in-Ok.scan _ _ c.in-Ok.ensures.scan c.requires.noted.told);
  };
}
