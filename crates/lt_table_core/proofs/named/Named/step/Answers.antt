use Rattle.std.proofs.Common.{◌≡◌, [], ◌∷◌, ◌++◌, sym, ap, subst, ◌∙◌}
use Rattle.lt_words.specs.History.{part}
use Rattle.lt_shard.specs.Shards.{View, entry_of}
use Rattle.lt_table_core.specs.Values.{IsNextStep}
use Rattle.lt_table_core.proofs.Exact.{exactly}
use Rattle.lt_table_core.proofs.named.Named.step.Goals as goal

pub invariant_of-self : goal.invariant_of-self
invariant_of-self g c = (c.self.invariant.0, c.reserve.ensures.keeps c.self.inside.shard.stored c.self.invariant.1)

pub invariant_of-self-2 : goal.invariant_of-self-2
invariant_of-self-2 g c =
    let es = c.self.inside.shard.stored in
    let n = c.number-number.result in
    let key = c.args.key.now in
    let call = c.args.call.now in
    let gains = c.in_ok-answer.ensures.gains in
    let own : c.args.pass.now.number ≡ n = sym c.number-number.ensures.number in
    let next : IsNextStep es key n call c.in_ok-answer.answer = record {
      at_is = gains.at_is;
      reply_is = c.in_ok-answer.ensures.reply ∙ ap (λ m. (entry_of es m key call).reply) own;
      legal = c.history-held.ensures.kept.legal;
    } in (
      gains.of ∙ c.self.invariant.0,
      subst (λ xs. g.V.ShardValue.fits xs c.follow.new.self) (sym (gains.stored ∙ ap (λ m. es ++ entry_of es m key call ∷ []) own)) (c.follow.ensures es next (c.reserve.ensures.keeps es c.self.invariant.1)),
    )

pub returns-clause-exact : goal.returns-clause-exact
returns-clause-exact g c =
    let old : View = c.self.inside.shard in
    let new : View = c.step.new.self in
    let gains = c.in_ok-answer.ensures.gains in
    let is : new.stored ≡ part old.index new.front.seen = c.history-made.ensures.kept.stored ∙ ap (λ i. part i new.front.seen) gains.index in
    rw (← c.self.view_is) (exactly c.parts_begin.ensures old.index new.front.seen c.step.new.pass.seen old.stored new.stored _ c.in_ok-answer.answer.at is c.in_ok-answer.ensures.behind gains.stored gains.at_is)
