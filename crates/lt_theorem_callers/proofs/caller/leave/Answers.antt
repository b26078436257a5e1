use Rattle.std.proofs.Common.{rules}
use Rattle.lt_theorem_callers.proofs.Hearing.{told_left}
use Rattle.lt_theorem_callers.proofs.caller.leave.Goals as goal

pub returns-then-note_all : goal.returns-then-note_all
returns-then-note_all g c = record {
  noted = record {
    number = search rules;
    noted = record {
      table = search rules;
      told =
          rw (c.if-note_all.ensures, c.deref.ensures.value, c.into_parts-guard.ensures.notes)
          (told_left c.hearing_goes_on.ensures c.args.requester.guard c.into_parts-guard.result.0 c.in-Ok.field-0.pass _ _ _ c.into_parts-guard.ensures.guard c.requires.staying c.in-Ok.ensures.leave c.requires.noted.told);
    };
  };
}
