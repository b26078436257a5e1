use Rattle.std.proofs.Common.{◌≡◌, ◌==◌, ◌∙◌, ap, sym, take, arith}
use Rattle.std.proofs.lemmas.Grind.{common_steps}
use Rattle.std.specs.Cmp.Lexicographic.{pointwise}
use Rattle.lt_ids.proofs.SameCells.{same_cells, not_equal, other_length}
use Rattle.lt_ids.proofs.key.are_same_short.Goals as goal

pub returns-then-len-other_len : goal.returns-then-len-other_len
returns-then-len-other_len c =
    let n = c.args.len in let m = c.args.other_len in
    let one = c.args.cells.now in let other = c.args.other_cells.now in
    let same_length : n ≡ m = c.if-len-other_len.true in
    let also = rw (← same_length) at c.requires.other_padded in
    c.are_same_22.ensures ∙ same_cells n one other c.requires.padded also (grind (arith, common_steps)) ∙ ap (λ k. pointwise ◌==◌ (take n one) (take k other)) same_length

pub returns-else-len-other_len : goal.returns-else-len-other_len
returns-else-len-other_len c =
    let n = c.args.len in let m = c.args.other_len in
    let one = c.args.cells.now in let other = c.args.other_cells.now in
    let differ = not_equal n m c.if-len-other_len.false in
    differ ∙ sym (other_length n m one other (grind (arith, common_steps)) (grind (arith, common_steps)) c.if-len-other_len.false)
