use Rattle.std.proofs.Common.{refl, rules}
use Rattle.lt_theorem_callers.proofs.Hearing.{told_poll}
use Rattle.lt_theorem_callers.proofs.caller.waited.Goals as goal

pub returns-then-note_let-clause-noted : goal.returns-then-note_let-clause-noted
returns-then-note_let-clause-noted g c = record {
  number = search rules;
  noted = record {
    table = search rules;
    told = rw c.if-note_let.ensures (told_poll c.hearing_goes_on.ensures c.args.guard.now c.wait.new.guard _ _ _ _ c.in-Through.ensures.poll (c.in-Through.ensures.through refl) c.number.ensures.number c.requires.noted.told);
  };
}
