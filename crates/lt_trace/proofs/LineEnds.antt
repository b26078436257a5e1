-- A line of the input ends with a line end.
use Rattle.std.proofs.Common.{◌≡◌, ℕ, ◌-◌, Bool, true, false, eqb, List, [], ◌∷◌, ◌++◌, length, take, drop, Option, Some, None, Ok, Err, sym, ap, subst, ◌∙◌, arith}
use Rattle.std.specs.Str.{bytes_eq}
use Rattle.std.proofs.lemmas.List.{take-append-drop, append_cancel_right, length-append, drop_at}
use Rattle.std.proofs.lemmas.Slice.Eq.{bytes_eq-Decides}
use Rattle.lt_trace.specs.declared.error.TraceFault.{TraceFault}
use Rattle.lt_trace.specs.declared.error.TraceFault.TheVariants as faults
use Rattle.lt_trace.specs.declared.error.TraceLineError.{TraceLineError}
use Rattle.lt_trace.specs.declared.error.TraceLineError.TheVariants as refusals
use Rattle.lt_trace.specs.declared.line.TraceLine.{TraceLine}
use Rattle.lt_trace.specs.declared.sort.TraceForm.{TraceForm}
use Rattle.lt_trace.specs.declared.sort.TraceForm.TheVariants.{Words, Json}
use Rattle.lt_trace.specs.Step.{trace_line_of}
use Rattle.lt_trace.specs.Trace.{parts_of_line}
use Rattle.serde_json.specs.Data.{Data}
use Rattle.lt_text.specs.Maybe.{◌>>=◌}
use Rattle.lt_trace.specs.Json.{json_step_of, json_parts_line, json_line_of}
use Rattle.lt_trace.specs.Form.{IsReadInForm, IsInputLine, IsInputRefusal}

pub with_end : (bytes text : List ℕ) → bytes_eq (drop (length bytes - 1) bytes) (10 ∷ []) ≡ true → text ≡ take (length bytes - 1) bytes → bytes ≡ text ++ 10 ∷ []
with_end bytes text e f =
    let last : drop (length bytes - 1) bytes ≡ 10 ∷ [] = (bytes_eq-Decides (drop (length bytes - 1) bytes) (10 ∷ [])).0 e in
    sym (take-append-drop (length bytes - 1) bytes) ∙ (ap (λ (t : List ℕ). t ++ drop (length bytes - 1) bytes) (sym f) ∙ ap (λ (t : List ℕ). text ++ t) last)

ends : (bytes text : List ℕ) → bytes ≡ text ++ 10 ∷ [] → bytes_eq (drop (length bytes - 1) bytes) (10 ∷ []) ≡ true
ends bytes text e =
    let last : drop (length bytes - 1) bytes ≡ 10 ∷ [] =
    ap (λ (t : List ℕ). drop (length bytes - 1) t) e ∙ drop_at text (10 ∷ []) (length bytes - 1) (omega (arith, ap length e, length-append text (10 ∷ []))) in
    (bytes_eq-Decides (drop (length bytes - 1) bytes) (10 ∷ [])).1 last

never_both : (b : Bool) → b ≡ true → b ≡ false → ⊥
never_both true e f = absurd cc
never_both false e f = absurd cc

-- Bytes without a line end are no line.
pub unended : (form : TraceForm) (bytes : List ℕ) → bytes_eq (drop (length bytes - 1) bytes) (10 ∷ []) ≡ false → (o : Option TraceLine) → IsInputLine form bytes o → ⊥
unended form bytes e None h = never_both _ (ends bytes [] h) e
unended form bytes e (Some line) h = never_both _ (ends bytes h.text h.ended) e

some_or_none : (o : Option (List ℕ × List ℕ)) (x : List ℕ × List ℕ) → o ≡ Some x → o ≡ None → ⊥
some_or_none None x e f = absurd cc
some_or_none (Some y) x e f = absurd cc

no_step_no_line : (d : Data) → json_step_of d ≡ None → json_line_of d ≡ None
no_step_no_line d e = ap (λ o. o >>= json_parts_line) e

abbrev data_or : Option Data → Data → Data
data_or None d = d
data_or (Some x) d = x

-- No bytes are both read and refused.
one_reading : (form : TraceForm) (text : List ℕ) (line : TraceLine) (fault : TraceFault) → IsReadInForm form text (Ok line) → IsReadInForm form text (Err (refusals.Fault fault)) → ⊥
one_reading Words text line faults.Shape a b = some_or_none (trace_line_of text) (parts_of_line line) a b
one_reading Words text line faults.Json a b = b
one_reading Json text line faults.Json a b = some_or_none (json_line_of a.object) (parts_of_line line) a.spells (no_step_no_line a.object (b a.object a.is_utf8 a.reads))
one_reading Json text line faults.Shape a b = some_or_none (json_line_of a.object) (parts_of_line line) a.spells (ap json_line_of (ap (λ o. data_or o a.object) (sym a.reads ∙ b.reads)) ∙ b.spells)

-- A text that is refused makes no line, with a line end after it.
pub refused_form : (form : TraceForm) (bytes text : List ℕ) (e : TraceLineError) → bytes ≡ text ++ 10 ∷ [] → eqb (length text) 0 ≡ false → IsReadInForm form text (Err e) → IsInputRefusal form bytes e
refused_form form bytes text refusals.Memory e some h = tt
refused_form form bytes text (refusals.Fault fault) e some h = λ o line. refused o line
  where
    refused : (o : Option TraceLine) → IsInputLine form bytes o → ⊥
    refused None line = never_both (eqb (length text) 0) (ap (λ (t : List ℕ). eqb (length t) 0) (append_cancel_right text [] (10 ∷ []) (sym e ∙ line))) some
    refused (Some l) line = one_reading form text l fault (subst (λ (t : List ℕ). IsReadInForm form t (Ok l)) (append_cancel_right line.text text (10 ∷ []) (sym line.ended ∙ e)) line.reads) h
