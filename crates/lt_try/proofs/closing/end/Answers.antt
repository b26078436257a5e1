use Rattle.std.proofs.Common.{◌≡◌, ◌<◌, ℕ, zero, suc, List, ◌++◌, ◌∷◌, [], ◌∙◌, length, get_or, arith, refl, subst, sym, ap}
use Rattle.std.specs.List.{AllByRecursion}
use mathlib.Core.List.{IsPrefix}
use Rattle.std.proofs.Common.{length-append}
use Rattle.lt_words.specs.Row.{Opening, PassState}
use Rattle.lt_words.specs.History.{IsLegalHistory}
use Rattle.lt_shard.specs.Shards.{new_shard}
use Rattle.lt_walk.proofs.Ends.{ends, ends_whole, ends_short, all_and_last, of_last}
use Rattle.lt_try.proofs.closing.end.Goals as goal

-- what a list begins with stays if one more comes
earlier : (ps : List PassState) (p : PassState) (k : ℕ) (d : PassState) → k < length ps → get_or (ps ++ p ∷ []) k d ≡ get_or ps k d
earlier [] p k d less = absurd (omega (arith, less))
earlier (q ∷ qs) p zero d less = refl
earlier (q ∷ qs) p (suc k) d less = earlier qs p k d (omega (arith, less))

-- all passes of a list are of one book, if those of the list with one more are
first_of : (N : Opening) (ps qs : List PassState) (p : PassState) → ps ≡ qs ++ p ∷ [] → ((k : ℕ) (d : PassState) → k < length ps → (get_or ps k d).of ≡ N)
    → (k : ℕ) (d : PassState) → k < length qs → (get_or qs k d).of ≡ N
first_of N ps qs p is each k d less =
    subst (λ (r : PassState). r.of ≡ N) (ap (λ (l : List PassState). get_or l k d) is ∙ earlier qs p k d less) (each k d (omega (arith, less, ap length is, length-append qs (p ∷ []))))

pub learn_all-requires : goal.learn_all-requires
learn_all-requires g c =
    let joined : c.args.passes.items ≡ c.pop.new.self.items ++ c.in-Some.last ∷ [] = c.in-Some.ensures.items in
    let last : c.in-Some.last.of ≡ c.args.book.now = of_last (λ p. p.of ≡ c.args.book.now) c.args.passes.items c.pop.new.self.items c.in-Some.last joined c.requires.passes in
    λ k d less. rw c.deref.ensures.value (first_of c.args.book.now c.args.passes.items c.pop.new.self.items c.in-Some.last joined c.requires.passes k d (subst (λ (l : List PassState). k < length l) c.deref.ensures.value less) ∙ sym last)

pub end_shards-requires-clause-pass : goal.end_shards-requires-clause-pass
end_shards-requires-clause-pass g c =
    c.learn_all.ensures.more.of ∙ of_last (λ p. p.of ≡ c.args.book.now) c.args.passes.items c.pop.new.self.items c.in-Some.last c.in-Some.ensures.items c.requires.passes

pub drawn-draws-requires : goal.drawn-draws-requires
drawn-draws-requires g c =
    sym (c.end_shards.ensures.more.of ∙ (c.learn_all.ensures.more.of
    ∙ of_last (λ p. p.of ≡ c.args.book.now) c.args.passes.items c.pop.new.self.items c.in-Some.last c.in-Some.ensures.items c.requires.passes))

pub returns-clause-closed : goal.returns-clause-closed
returns-clause-closed g c =
    let one : PassState = c.learn_all.new.last in
    let two : PassState = c.end_shards.new.last in
    let three : PassState = c.drawn-draws.new.pass in
    let joined : c.args.passes.items ≡ c.pop.new.self.items ++ c.in-Some.last ∷ [] = c.in-Some.ensures.items in
    let seen : AllByRecursion (λ p. IsPrefix p.seen one.seen) c.args.passes.items = rw joined (all_and_last (λ p. p.seen) c.pop.new.self.items c.in-Some.last one.seen (rw (← c.deref.ensures.value) c.learn_all.ensures.all) c.learn_all.ensures.more.seen) in
    let shown : AllByRecursion (λ p. IsPrefix p.shown one.shown) c.args.passes.items = rw joined (all_and_last (λ p. p.shown) c.pop.new.self.items c.in-Some.last one.shown (rw (← c.deref.ensures.value) c.learn_all.ensures.shown) c.learn_all.ensures.more.shown) in
    let of : three.of ≡ c.args.book.now = c.drawn-draws.ensures.more.of ∙ (c.end_shards.ensures.more.of ∙ (c.learn_all.ensures.more.of ∙ of_last (λ p. p.of ≡ c.args.book.now) c.args.passes.items c.pop.new.self.items c.in-Some.last joined c.requires.passes)) in
    let legal : IsLegalHistory c.args.book.now.shards three.seen = subst (λ n. IsLegalHistory n three.seen) (ap (λ o. o.shards) of) c.legal.ensures.legal in
    ends c.args.book.now c.args.wanted c.args.passes.items c.args.shards.items c.in-Some-end_shards.shards.items one two three c.drawn-draws.result seen shown c.end_shards.ensures.more.shown c.drawn-draws.ensures.more.shown c.legal.ensures.let_through c.in-Some-end_shards.ensures.ended c.end_shards.ensures.more.seen c.drawn-draws.ensures.more.seen legal c.drawn-draws.ensures.draws
    c.requires.many c.requires.counted c.requires.keeping (new_shard c.args.book.now 0 0)

pub returns-clause-whole : goal.returns-clause-whole
returns-clause-whole g c = λ yes. ends_whole c.args.book.now c.args.wanted c.args.passes.items c.args.shards.items c.in-Some-end_shards.shards.items c.learn_all.new.last c.end_shards.new.last c.in-Some-end_shards.ensures.ended c.requires.many c.requires.counted (new_shard c.args.book.now 0 0) yes

pub returns-clause-limit : goal.returns-clause-limit
returns-clause-limit g c = ends_short c.args.book.now c.args.wanted c.args.passes.items c.args.shards.items c.in-Some-end_shards.shards.items c.learn_all.new.last c.end_shards.new.last c.in-Some-end_shards.ensures.ended c.requires.many c.requires.counted (new_shard c.args.book.now 0 0)
