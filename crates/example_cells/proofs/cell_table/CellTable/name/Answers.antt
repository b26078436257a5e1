use Rattle.std.proofs.Common.{◌≡◌, ◌<◌, rules}
use Rattle.lt_words.specs.History.{draws_of, DrewIn}
use Rattle.example_cells.proofs.Draws.{above_all, counts_all}
use Rattle.example_cells.proofs.cell_table.CellTable.name.Goals as goal

pub invariant_of-result : goal.invariant_of-result
invariant_of-result g c = record {
  of = search rules;
  of_seen = search rules;
  above =
      let next : draws_of c.args.pass.now.seen < c.in_ok-number.number = above_all c.args.pass.now.seen _ _ _ c.in_ok-number.number c.in_ok-number.ensures.some in
      let above : draws_of c.seen-began.result.seen < c.in_ok-id.id = rw (c.in_ok-id.ensures.value, c.seen-began.ensures.seen) next in above;
  counted =
      let next : draws_of c.draw.new.pass.seen ≡ c.in_ok-number.number = counts_all c.args.pass.now.seen _ _ _ c.in_ok-number.number c.in_ok-number.ensures.some in
      let counted : draws_of c.seen.result.seen ≡ c.in_ok-id.id = rw (c.in_ok-id.ensures.value, c.seen.ensures.seen) next in counted;
  drew =
      let drew : DrewIn c.seen.result.seen c.number.result c.in_ok-id.id = rw (c.seen.ensures.seen, c.number.ensures.number, c.draw.ensures.more.number, c.in_ok-id.ensures.value) c.in_ok-number.ensures.drew in
      ∣ drew ∣₁;
}
