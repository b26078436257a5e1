use Rattle.std.proofs.Common.{◌≡◌, ◌<◌, sym, ◌∙◌, ap}
use Rattle.example_values.specs.Values.{value_word, left_at}
use Rattle.example_values.proofs.Moving.{leave_moves}
use Rattle.example_values.proofs.log.SeenValues.try_leave.Goals as goal

pub compare_exchange-found-requires : goal.compare_exchange-found-requires
compare_exchange-found-requires c =
    let word = c.word.inside.word in
    let shard = c.word.inside.shard in
    let leaving = c.args.leaving.now in
    let is : word ≡ value_word word.book shard = c.word.invariant.0 in
    let book : c.self.inside.seen.book ≡ word.book = ap (λ s. s.book) c.self.view_is ∙ (sym c.requires.book ∙ ap (λ s. s.book) (sym c.word.view_is)) in
    let offer = c.plain-offer.ensures in
    let pen = c.no_pen-pen.ensures in
    let here : leaving.shard ≡ shard = c.requires.shard ∙ ap (λ s. s.shard) (sym c.word.view_is) in (
      ap (λ w. w.tracked) is,
      book,
      pen.0 ∙ book,
      offer.0,
      rw (ap (λ w. w.key) is, pen.1, offer.1, offer.3) (leave_moves c.self.inside.seen.log shard c.args.old c.args.new (left_at leaving.shard leaving.key.value leaving.at leaving.value.value) c.word.invariant.1 here c.requires.above c.requires.next),
    )
