use Rattle.std.proofs.Common.{◌≡◌, ◌+◌, sym, ◌∙◌, ap, refl, arith}
use Rattle.lt_words.specs.Rules.{word_at}
use Rattle.lt_words.specs.Row.{opening_of}
use Rattle.lt_words.proofs.Lines.{word_of}
use Rattle.lt_words.proofs.Moving.{draw_moves}
use Rattle.lt_words.proofs.Logs.{sight_grows}
use Rattle.lt_words.proofs.front.Front.try_draw.Goals as goal

pub compare_exchange-found-requires : goal.compare_exchange-found-requires
compare_exchange-found-requires c =
    let row = c.book.invariant.0 in
    let same : c.book.inside.start.of ≡ opening_of c.self.inside.seen.book c.self.inside.seen.log = c.book.view_is ∙ (c.requires.of ∙ ap (λ s. s.of) (sym c.self.view_is)) in
    let h : c.index.result.now.word ≡ word_at c.self.inside.seen.book 0 = word_of c.book.inside.start.of c.book.inside.lines.items c.self.inside.seen.book 0 c.index.result.now row (ap (λ o. o.book) same) (omega (arith, row.many)) c.index.ensures in
    let offer = c.plain-offer.ensures in
    let pen = c.no_pen-pen.ensures in (
      ap (λ w. w.tracked) h,
      sym (ap (λ w. w.book) h),
      pen.0 ∙ sym (ap (λ w. w.book) h),
      offer.0,
      rw (ap (λ w. w.key) h, pen.1, offer.1, offer.3) (draw_moves c.self.inside.seen.log c.args.pass c.args.old (c.args.old + 1) c.self.invariant refl),
    )

pub returns-clause-more : goal.returns-clause-more
returns-clause-more c =
    let seen = c.self.inside.seen in
    let after = c.compare_exchange-found.new.seen in
    let told = c.compare_exchange-found.ensures in
    rw (← c.self.view_is) (sight_grows seen.book after.book seen.log after.log told.0 c.self.invariant told.6)
