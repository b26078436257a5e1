use Rattle.std.proofs.Common.{◌≡◌, ◌∙◌, ◌+◌, ◌&&◌, ap, suc, nat_eq, slice_index_or, arith}
use Rattle.std.proofs.lemmas.Grind.{common_steps}
use Rattle.lt_ids.proofs.SameCells.{next_cell}
use Rattle.lt_ids.proofs.key.are_same_22.Goals as goal

pub loop-i-preserved : goal.loop-i-preserved
loop-i-preserved c =
    let one = c.args.one.now in let other = c.args.other.now in let i = c.loop-i.i in
    let next : i + 1 ≡ suc i = omega (arith) in
    ap (λ so_far. so_far && nat_eq (slice_index_or one i 0) (slice_index_or other i 0)) c.loop-i.invariant ∙
    rw next (next_cell i one other (grind (arith, common_steps)) (grind (arith, common_steps)))
