-- What the check of a text says of the reader that provided the text.
use Rattle.std.proofs.Common.{◌≡◌, ℕ, List, Option, Some, None, Result, Ok, Err, inl, inr, sym, subst, ap, ◌∙◌}
use Rattle.std.specs.Prelude.{IfSome}
use Rattle.lt_checker.specs.declared.checker.CheckError.{CheckError}
use Rattle.lt_checker.specs.declared.checker.Report.{Report}
use Rattle.lt_checker.specs.Verdict.{IsLegalText, IsOrMemory}
use Rattle.lt_tool.specs.declared.check.CheckTextError.{CheckTextError}
use Rattle.lt_tool.specs.declared.check.CheckTextError.TheVariants as errors
use Rattle.lt_tool.specs.Check.{IsCheckStoppedOr, IsUnwrittenOr}
use Rattle.lt_tool.specs.Output.{IsShort}

abbrev told : Result Report CheckError → Result Report CheckTextError
told (Ok report) = Ok report
told (Err e) = Err (errors.Check e)

stopped : (r : Result Report CheckError) (report : Report) → IsOrMemory r (Ok report) → IsCheckStoppedOr (told r) (Ok report)
stopped r report (inl e) = inl (ap told e)
stopped r report (inr e) = inr (rw e tt)

legal : (source : Option (List ℕ)) (items text : List ℕ) (r : Result Report CheckError) → IfSome source (λ all. items ≡ all) → text ≡ items → ((report : Report) → IsLegalText text report → IsOrMemory r (Ok report))
    → IfSome source (λ all. (report : Report) → IsShort all → IsLegalText all report → IsCheckStoppedOr (told r) (Ok report))
legal None items text r is same h = tt
legal (Some all) items text r is same h = λ report short is_legal. stopped r report (h report (subst (λ (t : List ℕ). IsLegalText t report) (sym (same ∙ is)) is_legal))

pub legal_taken : (source : Option (List ℕ)) (items text : List ℕ) (known : Report) → IfSome source (λ all. items ≡ all) → text ≡ items → ((report : Report) → IsLegalText text report → IsOrMemory (Ok known) (Ok report))
    → IfSome source (λ all. (report : Report) → IsShort all → IsLegalText all report → IsCheckStoppedOr (Ok known) (Ok report))
legal_taken source items text known is same h = legal source items text (Ok known) is same h

pub legal_refused : (source : Option (List ℕ)) (items text : List ℕ) (why : CheckError) → IfSome source (λ all. items ≡ all) → text ≡ items → ((report : Report) → IsLegalText text report → IsOrMemory (Err why) (Ok report))
    → IfSome source (λ all. (report : Report) → IsShort all → IsLegalText all report → IsCheckStoppedOr (Err (errors.Check why)) (Ok report))
legal_refused source items text why is same h = legal source items text (Err why) is same h

pub legal_again : (source : Option (List ℕ)) (r s : Result Report CheckTextError) → s ≡ r → IfSome source (λ all. (report : Report) → IsShort all → IsLegalText all report → IsCheckStoppedOr r (Ok report))
    → IfSome source (λ all. (report : Report) → IsShort all → IsLegalText all report → IsUnwrittenOr s (Ok report))
legal_again None r s same h = tt
legal_again (Some all) r s same h = λ report short is_legal. inr (subst (λ (x : Result Report CheckTextError). IsCheckStoppedOr x (Ok report)) (sym same) (h report short is_legal))
