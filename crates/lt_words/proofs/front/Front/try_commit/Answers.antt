use Rattle.std.proofs.Common.{◌≡◌, ◌+◌, ◌<◌, sym, subst, ◌∙◌, ap, arith, rules}
use mathlib.Core.List.{IsPrefix}
use Rattle.logbook.specs.Pages.{step}
use Rattle.lt_words.specs.declared.event.Event.TheVariants.{Step}
use Rattle.lt_words.specs.History.{shard_of}
use Rattle.lt_words.specs.declared.event.Logged.TheVariants.{Happened}
use Rattle.lt_words.specs.declared.event.Logged.{Logged}
use Rattle.lt_words.specs.Rules.{word_at, history_of, shards_in, CommitGives}
use Rattle.lt_words.specs.Row.{opening_of}
use Rattle.lt_words.proofs.Lines.{word_of}
use Rattle.lt_words.proofs.Moving.{step_moves, at_rest}
use Rattle.lt_words.proofs.Logs.{sight_grows}
use Rattle.lt_words.proofs.front.Front.try_commit.Goals as goal

pub compare_exchange-found-requires : goal.compare_exchange-found-requires
compare_exchange-found-requires c =
    let row = c.book.invariant.0 in
    let log = c.self.inside.seen.log in
    let same : c.book.inside.start.of ≡ opening_of c.self.inside.seen.book log = c.book.view_is ∙ (c.requires.of ∙ ap (λ s. s.of) (sym c.self.view_is)) in
    let home : c.args.shard ≡ shard_of c.args.entry.now.key (shards_in log) = c.requires.home ∙ ap (λ s. shard_of c.args.entry.now.key s.of.shards) (sym c.self.view_is) in
    let sizes : c.book.inside.start.of.shards ≡ shards_in log = ap (λ o. o.shards) same in
    let low : c.args.shard < 64 = omega (arith, home, sizes, row.sizes.some_shards, row.sizes.few_shards) in
    let h : c.index.result.now.word ≡ word_at c.self.inside.seen.book (c.args.shard + 1) = word_of c.book.inside.start.of c.book.inside.lines.items c.self.inside.seen.book (c.args.shard + 1) c.index.result.now row (ap (λ o. o.book) same) (omega (arith, row.many)) c.index.ensures in
    let offer = c.plain-offer.ensures in
    let pen = c.no_pen-pen.ensures in
    let ask : c.plain-offer.result.ask ≡ Happened (Step c.args.shard c.args.entry.now) = offer.1 ∙ (λ i. Happened (Step c.args.shard (c.of.ensures i))) in
    let next : c.in-Some.next ≡ c.args.count + 1 = search rules in
    let begins : IsPrefix c.args.from.now.seen (history_of log) = rw (ap (λ s. s.seen) c.self.view_is) c.requires.begins in (
      ap (λ w. w.tracked) h,
      sym (ap (λ w. w.book) h),
      pen.0 ∙ sym (ap (λ w. w.book) h),
      offer.0,
      rw (ap (λ w. w.key) h, pen.1, ask, offer.3) (step_moves log c.args.from.now.seen c.args.shard c.args.count c.in-Some.next c.args.entry.now c.self.invariant begins low c.requires.count next home c.requires.next),
    )

pub returns-clause-went : goal.returns-clause-went
returns-clause-went c =
    let found = c.compare_exchange-found in
    let log = c.self.inside.seen.log in
    let ask : c.plain-offer.result.ask ≡ Happened (Step c.args.shard c.args.entry.now) = c.plain-offer.ensures.1 ∙ (λ i. Happened (Step c.args.shard (c.of.ensures i))) in
    let told : CommitGives (step 0 c.args.count 0 (Happened (Step c.args.shard c.args.entry.now))) (at_rest log) found.result (at_rest found.new.seen.log) =
    subst (λ (a : Logged). CommitGives (step 0 c.args.count 0 a) (at_rest log) found.result (at_rest found.new.seen.log)) ask found.ensures.7 in
    rw (← c.self.view_is) told.1

pub returns-clause-more : goal.returns-clause-more
returns-clause-more c =
    let seen = c.self.inside.seen in
    let after = c.compare_exchange-found.new.seen in
    let told = c.compare_exchange-found.ensures in
    rw (← c.self.view_is) (sight_grows seen.book after.book seen.log after.log told.0 c.self.invariant told.6)
