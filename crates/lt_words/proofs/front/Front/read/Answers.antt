use Rattle.std.proofs.Common.{◌≡◌, ◌+◌, ◌≤◌, sym, ◌∙◌, ap, arith}
use Rattle.lt_words.specs.Rules.{word_at, passes_in}
use Rattle.lt_words.specs.Row.{opening_of}
use Rattle.lt_words.proofs.Lines.{word_of}
use Rattle.lt_words.proofs.Moving.{read_moves}
use Rattle.lt_words.proofs.Logs.{sight_grows}
use Rattle.lt_words.proofs.front.Front.read.Goals as goal

pub load-requires : goal.load-requires
load-requires c =
    let row = c.book.invariant.0 in
    let log = c.self.inside.seen.log in
    let same : c.book.inside.start.of ≡ opening_of c.self.inside.seen.book log = c.book.view_is ∙ (c.requires.of ∙ ap (λ s. s.of) (sym c.self.view_is)) in
    let high : c.args.pass ≤ passes_in log = rw (ap (λ s. s.of.passes) c.self.view_is) c.requires.high in
    let many : c.book.inside.start.of.passes ≡ passes_in log = ap (λ o. o.passes) same in
    let h : c.index.result.now.word ≡ word_at c.self.inside.seen.book (c.args.pass + 128) = word_of c.book.inside.start.of c.book.inside.lines.items c.self.inside.seen.book (c.args.pass + 128) c.index.result.now row (ap (λ o. o.book) same) (omega (arith, row.many, high, many)) c.index.ensures in
    let offer = c.plain-offer.ensures in (
      ap (λ w. w.tracked) h,
      sym (ap (λ w. w.book) h),
      offer.0,
      rw (ap (λ w. w.key) h, offer.3) (read_moves log c.args.pass c.plain-offer.result.ask c.self.invariant c.requires.low high),
    )

pub returns-clause-more : goal.returns-clause-more
returns-clause-more c =
    let seen = c.self.inside.seen in
    let after = c.load.new.seen in
    let told = c.load.ensures in
    rw (← c.self.view_is) (sight_grows seen.book after.book seen.log after.log told.0 c.self.invariant told.5)
