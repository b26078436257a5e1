use Rattle.std.proofs.Common.{◌∙◌, sym}
use mathlib.Core.Bool.{true≢false}
use Rattle.lt_checker.specs.Lines.{parts_of}
use Rattle.lt_checker.proofs.LineLaws.{of_other_version}
use Rattle.lt_checker.proofs.version.line_of.Goals as goal

pub returns-else-is_of_version-clause-err : goal.returns-else-is_of_version-clause-err
returns-else-is_of_version-clause-err c =
    of_other_version c.args.version c.args.bytes.now (parts_of c.in_ok-line.line) c.in_ok-line.ensures.line c.in_ok-line.ensures.text (λ old. true≢false (sym old ∙ (sym c.is_of_version.ensures ∙ c.if-is_of_version.false)))
