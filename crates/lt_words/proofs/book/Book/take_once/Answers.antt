use Rattle.std.proofs.Common.{Bool, MatchBool, ◌≡◌, ◌<◌, ◌∙◌, ◌+◌, sym, ap, subst, set, arith, get_or}
use Rattle.std.proofs.lemmas.List.{get_or_read}
use Rattle.lt_words.specs.declared.pass.PassRest.{PassRest}
use Rattle.lt_words.specs.declared.event.Take.{Take}
use Rattle.lt_words.specs.Takes.{AppendsTake}
use Rattle.lt_words.specs.Row.{FrontGrows, IsPass, TakesOut, pass_state}
use Rattle.lt_words.proofs.Passes.{wakes_of, grows_on, sight_takes, sight_room, took_since, takes_out}
use Rattle.lt_words.proofs.book.Book.take_once.Goals as goal

pub overflow_add-index_mut : goal.overflow_add-index_mut
overflow_add-index_mut c =
    let of : c.self.inside.start.of ≡ c.pass.inside.seen.of = c.self.view_is ∙ (c.requires.pass_of ∙ ap (λ p. p.of) (sym c.pass.view_is)) in
    let low : c.args.shard < c.pass.inside.seen.of.shards = omega (arith, c.requires.shard, ap (λ o. o.shards) of, ap (λ o. o.shards) c.self.view_is) in
    let old : c.index_mut.result.now ≡ get_or c.pass.inside.rest.value.taken.items c.args.shard 0 = get_or_read c.pass.inside.rest.value.taken.items c.args.shard c.index_mut.result.now (omega (arith, low, c.pass.invariant.many_taken)) (subst (λ (r : PassRest). c.index_mut.result.now ≡ get_or r.taken.items c.args.shard c.index_mut.result.now) c.deref_mut.ensures.value c.index_mut.ensures.value) 0 in
    let take : Take = record { pass = c.pass.inside.number; shard = c.args.shard; many = c.args.many } in
    let took : AppendsTake c.pass.inside.seen.takes c.args.from take c.try_take.new.self.takes = took_since c.pass.inside.seen.takes c.joined-ahead.result.takes c.args.from take c.try_take.new.self.takes c.joined-ahead.ensures.this.takes (subst (λ (b : Bool). MatchBool b (AppendsTake c.joined-ahead.result.takes c.args.from take c.try_take.new.self.takes) (Unit {0})) c.if-not-try_take.false c.try_take.ensures.took) in
    omega (arith, c.requires.room, sight_room c.pass.inside.number c.pass.inside.seen c.pass.inside.rest.value.counts.items c.pass.inside.rest.value.taken.items (wakes_of c.pass.inside.rest.value) take c.index_mut.result.now c.args.from c.try_take.new.self.takes c.pass.invariant old took)

pub invariant_of-pass : goal.invariant_of-pass
invariant_of-pass c =
    let of : c.self.inside.start.of ≡ c.pass.inside.seen.of = c.self.view_is ∙ (c.requires.pass_of ∙ ap (λ p. p.of) (sym c.pass.view_is)) in
    let low : c.args.shard < c.pass.inside.seen.of.shards = omega (arith, c.requires.shard, ap (λ o. o.shards) of, ap (λ o. o.shards) c.self.view_is) in
    let old : c.index_mut.result.now ≡ get_or c.pass.inside.rest.value.taken.items c.args.shard 0 = get_or_read c.pass.inside.rest.value.taken.items c.args.shard c.index_mut.result.now (omega (arith, low, c.pass.invariant.many_taken)) (subst (λ (r : PassRest). c.index_mut.result.now ≡ get_or r.taken.items c.args.shard c.index_mut.result.now) c.deref_mut.ensures.value c.index_mut.ensures.value) 0 in
    let take : Take = record { pass = c.pass.inside.number; shard = c.args.shard; many = c.args.many } in
    let took : AppendsTake c.pass.inside.seen.takes c.args.from take c.try_take.new.self.takes = took_since c.pass.inside.seen.takes c.joined-ahead.result.takes c.args.from take c.try_take.new.self.takes c.joined-ahead.ensures.this.takes (subst (λ (b : Bool). MatchBool b (AppendsTake c.joined-ahead.result.takes c.args.from take c.try_take.new.self.takes) (Unit {0})) c.if-not-try_take.false c.try_take.ensures.took) in
    let grew : FrontGrows c.pass.inside.seen c.try_take.new.self = grows_on c.pass.inside.seen c.joined-ahead.result c.try_take.new.self c.joined-ahead.ensures.this c.try_take.ensures.more in
    subst (λ (r : PassRest). IsPass (pass_state c.pass.inside.number c.try_take.new.self r.counts.items (set r.taken.items c.args.shard (c.index_mut.result.now + c.args.many)) (wakes_of r))) (sym c.deref_mut.ensures.value)
    (sight_takes c.pass.inside.number c.pass.inside.seen c.try_take.new.self c.pass.inside.rest.value.counts.items c.pass.inside.rest.value.taken.items (wakes_of c.pass.inside.rest.value) take c.index_mut.result.now c.args.from c.pass.invariant grew low old took)

pub returns-clause-took : goal.returns-clause-took
returns-clause-took c = λ _.
    let of : c.self.inside.start.of ≡ c.pass.inside.seen.of = c.self.view_is ∙ (c.requires.pass_of ∙ ap (λ p. p.of) (sym c.pass.view_is)) in
    let low : c.args.shard < c.pass.inside.seen.of.shards = omega (arith, c.requires.shard, ap (λ o. o.shards) of, ap (λ o. o.shards) c.self.view_is) in
    let old : c.index_mut.result.now ≡ get_or c.pass.inside.rest.value.taken.items c.args.shard 0 = get_or_read c.pass.inside.rest.value.taken.items c.args.shard c.index_mut.result.now (omega (arith, low, c.pass.invariant.many_taken)) (subst (λ (r : PassRest). c.index_mut.result.now ≡ get_or r.taken.items c.args.shard c.index_mut.result.now) c.deref_mut.ensures.value c.index_mut.ensures.value) 0 in
    let take : Take = record { pass = c.pass.inside.number; shard = c.args.shard; many = c.args.many } in
    let took : AppendsTake c.pass.inside.seen.takes c.args.from take c.try_take.new.self.takes = took_since c.pass.inside.seen.takes c.joined-ahead.result.takes c.args.from take c.try_take.new.self.takes c.joined-ahead.ensures.this.takes (subst (λ (b : Bool). MatchBool b (AppendsTake c.joined-ahead.result.takes c.args.from take c.try_take.new.self.takes) (Unit {0})) c.if-not-try_take.false c.try_take.ensures.took) in
    let grew : FrontGrows c.pass.inside.seen c.try_take.new.self = grows_on c.pass.inside.seen c.joined-ahead.result c.try_take.new.self c.joined-ahead.ensures.this c.try_take.ensures.more in
    rw (← c.pass.view_is) (subst (λ (r : PassRest). TakesOut (pass_state c.pass.inside.number c.pass.inside.seen c.pass.inside.rest.value.counts.items c.pass.inside.rest.value.taken.items (wakes_of c.pass.inside.rest.value)) (pass_state c.pass.inside.number c.try_take.new.self r.counts.items (set r.taken.items c.args.shard (c.index_mut.result.now + c.args.many)) (wakes_of r)) c.args.shard c.args.from c.args.many) (sym c.deref_mut.ensures.value)
    (takes_out c.pass.inside.number c.pass.inside.seen c.try_take.new.self c.pass.inside.rest.value.counts.items c.pass.inside.rest.value.taken.items (wakes_of c.pass.inside.rest.value) c.args.shard c.index_mut.result.now c.args.from c.args.many c.pass.invariant grew low old took))
