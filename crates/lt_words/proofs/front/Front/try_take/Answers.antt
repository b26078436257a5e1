use Rattle.std.proofs.Common.{◌≡◌, ◌+◌, ◌-◌, ◌==◌, ℕ, sym, subst, ◌∙◌, ap, refl, arith}
use Rattle.logbook.specs.Pages.{step}
use Rattle.lt_words.specs.declared.event.Logged.{Logged}
use Rattle.lt_words.specs.declared.event.Logged.TheVariants.{Took}
use Rattle.lt_words.specs.Rules.{word_at, takes_of, TakeGives}
use Rattle.lt_words.specs.Row.{opening_of}
use Rattle.lt_words.proofs.Lines.{word_of}
use Rattle.lt_words.proofs.Moving.{take_moves, at_rest}
use Rattle.lt_words.proofs.Taking.{took_exactly}
use Rattle.lt_words.proofs.Logs.{sight_grows}
use Rattle.lt_words.proofs.front.Front.try_take.Goals as goal

pub compare_exchange-found-requires : goal.compare_exchange-found-requires
compare_exchange-found-requires c =
    let row = c.book.invariant.0 in
    let log = c.self.inside.seen.log in
    let same : c.book.inside.start.of ≡ opening_of c.self.inside.seen.book log = c.book.view_is ∙ (c.requires.of ∙ ap (λ s. s.of) (sym c.self.view_is)) in
    let k = c.args.take.now.shard in
    let h : c.index.result.now.word ≡ word_at c.self.inside.seen.book (k + 65) = word_of c.book.inside.start.of c.book.inside.lines.items c.self.inside.seen.book (k + 65) c.index.result.now row (ap (λ o. o.book) same) (omega (arith, row.many, c.requires.shard)) c.index.ensures in
    let offer = c.plain-offer.ensures in
    let pen = c.no_pen-pen.ensures in (
      ap (λ w. w.tracked) h,
      sym (ap (λ w. w.book) h),
      pen.0 ∙ sym (ap (λ w. w.book) h),
      offer.0,
      rw (ap (λ w. w.key) h, pen.1, offer.1, offer.3) (take_moves log c.args.from (c.args.from + c.args.take.now.many) c.args.take.now c.requires.shard refl),
    )

pub returns-clause-more : goal.returns-clause-more
returns-clause-more c =
    let seen = c.self.inside.seen in
    let after = c.compare_exchange-found.new.seen in
    let told = c.compare_exchange-found.ensures in
    rw (← c.self.view_is) (sight_grows seen.book after.book seen.log after.log told.0 c.self.invariant told.6)

pub returns-clause-exact : goal.returns-clause-exact
returns-clause-exact c =
    let row = c.book.invariant.0 in
    let log = c.self.inside.seen.log in
    let found = c.compare_exchange-found in
    let take = c.args.take.now in
    let k = take.shard in
    let same : c.book.inside.start.of ≡ opening_of c.self.inside.seen.book log = c.book.view_is ∙ (c.requires.of ∙ ap (λ s. s.of) (sym c.self.view_is)) in
    let h : c.index.result.now.word ≡ word_at c.self.inside.seen.book (k + 65) = word_of c.book.inside.start.of c.book.inside.lines.items c.self.inside.seen.book (k + 65) c.index.result.now row (ap (λ o. o.book) same) (omega (arith, row.many, c.requires.shard)) c.index.ensures in
    let ask : c.plain-offer.result.ask ≡ Took take = c.plain-offer.ensures.1 in
    let told : TakeGives (step (k + 65) c.args.from 0 (Took take)) (at_rest log) found.result (at_rest found.new.seen.log) =
    subst (λ (a : ℕ × Logged). TakeGives (step a.0 c.args.from 0 a.1) (at_rest log) found.result (at_rest found.new.seen.log)) (λ i. (ap (λ w. w.key) h i, ask i)) found.ensures.7 in
    took_exactly (found.result == c.args.from) (takes_of log) (takes_of found.new.seen.log) ((k + 65) - 65) c.args.from take (omega arith) told.1
