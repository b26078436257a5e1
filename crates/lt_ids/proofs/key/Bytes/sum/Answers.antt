use Rattle.std.proofs.Common.{◌∙◌, ap, sum, sym}
use Rattle.lt_ids.specs.Bytes.{bytes_of}
use Rattle.lt_ids.proofs.Padded.{sum_padded}
use Rattle.lt_ids.proofs.key.Bytes.sum.Goals as goal

pub returns-in-Short : goal.returns-in-Short
returns-in-Short c =
    let padded = rw c.in-Short.is at c.requires in
    c.sum_of_22.ensures ∙ sum_padded c.before.in-Short.field-0 c.before.in-Short.bytes padded ∙ ap (λ b. sum (bytes_of b)) (sym c.in-Short.is)

pub returns-in-Long : goal.returns-in-Long
returns-in-Long c =
    let padded = rw c.in-Long.is at c.requires in
    c.sum_of_64.ensures ∙ ap sum c.deref.ensures ∙ sum_padded c.before.before.in-Long.field-0 c.before.before.in-Long.bytes.value padded ∙ ap (λ b. sum (bytes_of b)) (sym c.in-Long.is)
