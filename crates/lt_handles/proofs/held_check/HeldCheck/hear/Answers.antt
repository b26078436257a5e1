use Rattle.std.proofs.Common.{◌∙◌, sym, ap}
use Rattle.lt_handles.specs.CheckPieces.{check_code}
use Rattle.lt_handles.proofs.Hearing.{over_goes_on}
use Rattle.lt_handles.proofs.held_check.HeldCheck.hear.Goals as goal

pub returns-in-Over : goal.returns-in-Over
returns-in-Over c = record {
  heard = λ text h fits. over_goes_on c.args.self.now.check c.in-Over.error c.args.self.now.pending.items text c.args.piece.now c.in-Over.is h;
  code_is = c.refusal_code.ensures ∙ sym (ap check_code c.in-Over.is);
}
