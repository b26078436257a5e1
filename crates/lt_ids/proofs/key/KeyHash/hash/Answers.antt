use Rattle.std.proofs.Common.{◌∙◌, ap, sym, arith}
use Rattle.std.proofs.lemmas.Grind.{common_steps}
use Rattle.std.specs.List.{fold}
use Rattle.lt_ids.specs.Bytes.{bytes_of, hash_writes}
use Rattle.lt_ids.proofs.Padded.{short_writes}
use Rattle.lt_ids.proofs.key.KeyHash.hash.Goals as goal

pub returns-in-Short : goal.returns-in-Short
returns-in-Short g c =
    let n = c.in-Short.field-0 in let cells = c.in-Short.cells in
    let padded = rw c.in-Short.is at c.self.invariant.3 in
    let is_view = sym c.self.view_is ∙ ap bytes_of c.in-Short.is in
    let written = short_writes n cells padded (grind (arith, common_steps)) (grind (arith, common_steps)) in
    c.write.ensures ∙ ap (λ writes. fold g.H.Hasher.write c.args.state.now writes) (written ∙ ap hash_writes (sym is_view))
