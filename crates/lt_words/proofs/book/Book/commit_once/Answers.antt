use Rattle.std.proofs.Common.{◌≡◌, ◌<◌, ◌∙◌, ◌+◌, sym, ap, subst, set, vec_len, Bool, true, List, [], ◌∷◌, ◌++◌, length, arith, get_or}
use Rattle.std.proofs.lemmas.List.{get_or_read}
use mathlib.Core.List.{IsPrefix}
use Rattle.lt_words.specs.History.{part}
use Rattle.lt_words.specs.declared.pass.PassRest.{PassRest}
use Rattle.lt_words.specs.declared.event.Event.{Event}
use Rattle.lt_words.specs.declared.event.Event.TheVariants.{Step}
use Rattle.lt_words.specs.Row.{FrontGrows, AppendsIf, HasSteps, Commits, IsPass, pass_state}
use Rattle.lt_words.proofs.Prefixes.{prefix_trans}
use Rattle.lt_words.proofs.Histories.{part_length}
use Rattle.lt_words.proofs.Passes.{wakes_of, grows_on, sight_steps, committed, commits}
use Rattle.lt_words.proofs.book.Book.commit_once.Goals as goal

pub index_mut-requires : goal.index_mut-requires
index_mut-requires c =
    let of : c.self.inside.start.of ≡ c.pass.inside.seen.of = c.self.view_is ∙ (c.requires.pass_of ∙ ap (λ p. p.of) (sym c.pass.view_is)) in
    omega (arith, c.requires.home, ap (λ o. o.shards) of, ap (λ o. o.shards) c.self.view_is, c.self.invariant.0.sizes.some_shards, c.pass.invariant.many, c.pass.inside.rest.value.counts.ok.0, ap (λ (r : PassRest). vec_len r.counts) c.deref_mut.ensures.value)

pub overflow_add-index_mut : goal.overflow_add-index_mut
overflow_add-index_mut c =
    let of : c.self.inside.start.of ≡ c.pass.inside.seen.of = c.self.view_is ∙ (c.requires.pass_of ∙ ap (λ p. p.of) (sym c.pass.view_is)) in
    let low : c.args.shard < c.pass.inside.seen.of.shards = omega (arith, c.requires.home, ap (λ o. o.shards) of, ap (λ o. o.shards) c.self.view_is, c.self.invariant.0.sizes.some_shards) in
    let step : AppendsIf true c.joined-ahead.result.seen (HasSteps c.args.shard c.args.count) (Step c.args.shard c.args.entry.now) c.try_commit.new.self.seen = subst (λ (b : Bool). AppendsIf b c.joined-ahead.result.seen (HasSteps c.args.shard c.args.count) (Step c.args.shard c.args.entry.now) c.try_commit.new.self.seen) c.if-not-try_commit.false c.try_commit.ensures.went in
    let at = committed c.pass.inside.seen.seen c.joined-ahead.result.seen c.args.front.now.seen c.try_commit.new.self.seen c.args.shard c.args.count c.args.entry.now c.joined-ahead.ensures.this.seen c.joined-ahead.ensures.that.seen c.requires.count step in
    let old : c.index_mut.result.now ≡ get_or c.pass.inside.rest.value.counts.items c.args.shard 0 = get_or_read c.pass.inside.rest.value.counts.items c.args.shard c.index_mut.result.now (omega (arith, low, c.pass.invariant.many)) (subst (λ (r : PassRest). c.index_mut.result.now ≡ get_or r.counts.items c.args.shard c.index_mut.result.now) c.deref_mut.ensures.value c.index_mut.ensures.value) 0 in
    omega (arith, c.pass.invariant.within c.args.shard, part_length c.args.shard c.pass.inside.seen.seen at.0 at.1, ap length at.3, c.requires.count, c.try_commit.ensures.room c.if-not-try_commit.false)

pub invariant_of-pass : goal.invariant_of-pass
invariant_of-pass c =
    let of : c.self.inside.start.of ≡ c.pass.inside.seen.of = c.self.view_is ∙ (c.requires.pass_of ∙ ap (λ p. p.of) (sym c.pass.view_is)) in
    let low : c.args.shard < c.pass.inside.seen.of.shards = omega (arith, c.requires.home, ap (λ o. o.shards) of, ap (λ o. o.shards) c.self.view_is, c.self.invariant.0.sizes.some_shards) in
    let old : c.index_mut.result.now ≡ get_or c.pass.inside.rest.value.counts.items c.args.shard 0 = get_or_read c.pass.inside.rest.value.counts.items c.args.shard c.index_mut.result.now (omega (arith, low, c.pass.invariant.many)) (subst (λ (r : PassRest). c.index_mut.result.now ≡ get_or r.counts.items c.args.shard c.index_mut.result.now) c.deref_mut.ensures.value c.index_mut.ensures.value) 0 in
    let step : AppendsIf true c.joined-ahead.result.seen (HasSteps c.args.shard c.args.count) (Step c.args.shard c.args.entry.now) c.try_commit.new.self.seen = subst (λ (b : Bool). AppendsIf b c.joined-ahead.result.seen (HasSteps c.args.shard c.args.count) (Step c.args.shard c.args.entry.now) c.try_commit.new.self.seen) c.if-not-try_commit.false c.try_commit.ensures.went in
    let mid : (h : List Event) × IsPrefix c.joined-ahead.result.seen h × (length (part c.args.shard h) ≡ c.args.count) × (c.try_commit.new.self.seen ≡ h ++ Step c.args.shard c.args.entry.now ∷ []) = step in
    let grew : FrontGrows c.pass.inside.seen c.try_commit.new.self = grows_on c.pass.inside.seen c.joined-ahead.result c.try_commit.new.self c.joined-ahead.ensures.this c.try_commit.ensures.more in
    subst (λ (r : PassRest). IsPass (pass_state c.pass.inside.number c.try_commit.new.self (set r.counts.items c.args.shard (c.index_mut.result.now + 1)) r.taken.items (wakes_of r))) (sym c.deref_mut.ensures.value)
    (sight_steps c.pass.inside.number c.pass.inside.seen c.try_commit.new.self c.pass.inside.rest.value.counts.items c.pass.inside.rest.value.taken.items (wakes_of c.pass.inside.rest.value) c.args.shard c.index_mut.result.now c.args.entry.now (λ h. length (part c.args.shard h) ≡ c.args.count) c.pass.invariant grew low old
    (mid.0, prefix_trans c.pass.inside.seen.seen c.joined-ahead.result.seen mid.0 c.joined-ahead.ensures.this.seen mid.1, mid.2, mid.3))

pub returns-clause-commits : goal.returns-clause-commits
returns-clause-commits c = λ _.
    let of : c.self.inside.start.of ≡ c.pass.inside.seen.of = c.self.view_is ∙ (c.requires.pass_of ∙ ap (λ p. p.of) (sym c.pass.view_is)) in
    let low : c.args.shard < c.pass.inside.seen.of.shards = omega (arith, c.requires.home, ap (λ o. o.shards) of, ap (λ o. o.shards) c.self.view_is, c.self.invariant.0.sizes.some_shards) in
    let old : c.index_mut.result.now ≡ get_or c.pass.inside.rest.value.counts.items c.args.shard 0 = get_or_read c.pass.inside.rest.value.counts.items c.args.shard c.index_mut.result.now (omega (arith, low, c.pass.invariant.many)) (subst (λ (r : PassRest). c.index_mut.result.now ≡ get_or r.counts.items c.args.shard c.index_mut.result.now) c.deref_mut.ensures.value c.index_mut.ensures.value) 0 in
    let step : AppendsIf true c.joined-ahead.result.seen (HasSteps c.args.shard c.args.count) (Step c.args.shard c.args.entry.now) c.try_commit.new.self.seen = subst (λ (b : Bool). AppendsIf b c.joined-ahead.result.seen (HasSteps c.args.shard c.args.count) (Step c.args.shard c.args.entry.now) c.try_commit.new.self.seen) c.if-not-try_commit.false c.try_commit.ensures.went in
    rw (← c.pass.view_is) (rw c.again.ensures (subst (λ (r : PassRest). Commits (pass_state c.pass.inside.number c.pass.inside.seen c.pass.inside.rest.value.counts.items c.pass.inside.rest.value.taken.items (wakes_of c.pass.inside.rest.value)) c.args.front.now c.args.shard c.args.entry.now (pass_state c.pass.inside.number c.try_commit.new.self (set r.counts.items c.args.shard (c.index_mut.result.now + 1)) r.taken.items (wakes_of r)) c.try_commit.new.self) (sym c.deref_mut.ensures.value)
    (commits c.pass.inside.number c.pass.inside.seen c.joined-ahead.result c.try_commit.new.self c.args.front.now c.pass.inside.rest.value.counts.items c.pass.inside.rest.value.taken.items (wakes_of c.pass.inside.rest.value) c.args.shard c.index_mut.result.now c.args.count c.args.entry.now c.joined-ahead.ensures.this c.joined-ahead.ensures.that c.try_commit.ensures.more old c.requires.count step)))
