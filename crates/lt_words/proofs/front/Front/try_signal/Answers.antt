use Rattle.std.proofs.Common.{◌≡◌, ◌+◌, ◌≤◌, sym, ◌∙◌, ap, arith}
use Rattle.lt_words.specs.History.{LetIn}
use Rattle.lt_words.specs.Rules.{word_at, history_of, passes_in}
use Rattle.lt_words.specs.Row.{opening_of}
use Rattle.lt_words.proofs.Lines.{word_of}
use Rattle.lt_words.proofs.Moving.{signal_moves}
use Rattle.lt_words.proofs.Logs.{sight_grows}
use Rattle.lt_words.proofs.front.Front.try_signal.Goals as goal

pub compare_exchange-found-requires : goal.compare_exchange-found-requires
compare_exchange-found-requires c =
    let row = c.book.invariant.0 in
    let log = c.self.inside.seen.log in
    let same : c.book.inside.start.of ≡ opening_of c.self.inside.seen.book log = c.book.view_is ∙ (c.requires.of ∙ ap (λ s. s.of) (sym c.self.view_is)) in
    let high : c.args.pass ≤ passes_in log = rw (ap (λ s. s.of.passes) c.self.view_is) c.requires.high in
    let many : c.book.inside.start.of.passes ≡ passes_in log = ap (λ o. o.passes) same in
    let h : c.index.result.now.word ≡ word_at c.self.inside.seen.book (c.args.pass + 128) = word_of c.book.inside.start.of c.book.inside.lines.items c.self.inside.seen.book (c.args.pass + 128) c.index.result.now row (ap (λ o. o.book) same) (omega (arith, row.many, high, many)) c.index.ensures in
    let offer = c.plain-offer.ensures in
    let pen = c.no_pen-pen.ensures in
    let through : LetIn (history_of log) c.args.pass c.args.ticket = rw (ap (λ s. s.seen) c.self.view_is) c.requires.through in (
      ap (λ w. w.tracked) h,
      sym (ap (λ w. w.book) h),
      pen.0 ∙ sym (ap (λ w. w.book) h),
      offer.0,
      rw (ap (λ w. w.key) h, pen.1, offer.1, offer.3) (signal_moves log c.args.old c.value.result (record { pass = c.args.pass; ticket = c.args.ticket }) c.self.invariant c.requires.low high (omega (arith, c.requires.below, c.value.ensures.value)) (rw (← c.number.ensures.value) c.number.ensures.range) (rw (← c.wait.ensures.value) c.wait.ensures.range) c.value.ensures.value through),
    )

pub returns-clause-more : goal.returns-clause-more
returns-clause-more c =
    let seen = c.self.inside.seen in
    let after = c.compare_exchange-found.new.seen in
    let told = c.compare_exchange-found.ensures in
    rw (← c.self.view_is) (sight_grows seen.book after.book seen.log after.log told.0 c.self.invariant told.6)
