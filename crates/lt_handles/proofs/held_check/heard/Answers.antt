use Rattle.std.proofs.Common.{◌≡◌, ◌++◌, List, ℕ, sym, subst, rules}
use Rattle.lt_handles.specs.CheckPieces.{HasHeard}
use Rattle.lt_handles.proofs.Hearing.{piece_is_heard}
use Rattle.lt_handles.proofs.held_check.heard.Goals as goal

pub returns : goal.returns
returns c = λ text h fits.
    let grown : c.append.new.pending.items ≡ c.args.pending.now.items ++ c.args.piece.now = search rules in
    c.gone_on.ensures (text ++ c.args.piece.now)
    (subst (λ (t : List ℕ). HasHeard c.args.check t (text ++ c.args.piece.now)) (sym grown) (piece_is_heard c.args.check c.args.pending.now.items text c.args.piece.now h)) fits
