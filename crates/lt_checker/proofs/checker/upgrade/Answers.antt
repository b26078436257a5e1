use Rattle.std.proofs.Common.{List, ℕ, sym, subst}
use Rattle.lt_checker.specs.Verdict.{IsLegalText, of_latest}
use Rattle.lt_checker.proofs.Verdicts.{set_is_upgraded, upgraded_legal}
use Rattle.lt_checker.proofs.checker.upgrade.Goals as goal

pub returns-clause-legal : goal.returns-clause-legal
returns-clause-legal c = λ report is_legal.
    subst (λ (text : List ℕ). IsLegalText text (of_latest report)) (sym (set_is_upgraded c.args.text.now report is_legal)) (upgraded_legal c.args.text.now report is_legal)
