use Rattle.std.proofs.Common.{◌≡◌, ◌<◌, ℕ, zero, suc, List, ◌++◌, ◌∷◌, [], ◌∙◌, length, get_or, arith, refl, subst, sym, ap}
use Rattle.std.specs.List.{AllByRecursion}
use mathlib.Core.List.{IsPrefix}
use Rattle.std.proofs.Common.{length-append}
use Rattle.lt_words.specs.Row.{Opening, PassState}
use Rattle.lt_words.specs.History.{IsLegalHistory}
use Rattle.lt_shard.specs.Shards.{new_shard}
use Rattle.lt_walk.proofs.Ends.{ends, ends_whole, ends_short, all_and_last, of_last}
use Rattle.lt_table_core.proofs.closing.end.Goals as goal

-- what a list begins with stays if one more comes
earlier : (ps : List PassState) (p : PassState) (k : ℕ) (d : PassState) → k < length ps → get_or (ps ++ p ∷ []) k d ≡ get_or ps k d
earlier [] p k d less = absurd (omega (arith, less))
earlier (q ∷ qs) p zero d less = refl
earlier (q ∷ qs) p (suc k) d less = earlier qs p k d (omega (arith, less))

-- all passes of a list are of one book, if those of the list with one more are
first_of : (N : Opening) (ps qs : List PassState) (p : PassState) → ps ≡ qs ++ p ∷ [] → ((k : ℕ) (d : PassState) → k < length ps → (get_or ps k d).of ≡ N)
    → (k : ℕ) (d : PassState) → k < length qs → (get_or qs k d).of ≡ N
first_of N ps qs p is each k d less =
    subst (λ (r : PassState). r.of ≡ N) (ap (λ (l : List PassState). get_or l k d) is ∙ earlier qs p k d less) (each k d (omega (arith, less, ap length is, length-append qs (p ∷ []))))

pub learn_all-requires : goal.learn_all-requires
learn_all-requires g c =
    let joined : c.args.passes.items ≡ c.pop.new.self.items ++ c.in-Some.last ∷ [] = c.in-Some.ensures.items in
    let last : c.in-Some.last.of ≡ g.N.Name.of = of_last (λ p. p.of ≡ g.N.Name.of) c.args.passes.items c.pop.new.self.items c.in-Some.last joined c.requires.passes in
    λ k d less. rw c.deref.ensures.value (first_of g.N.Name.of c.args.passes.items c.pop.new.self.items c.in-Some.last joined c.requires.passes k d (subst (λ (l : List PassState). k < length l) c.deref.ensures.value less) ∙ sym last)

pub end_shards-rests-requires-clause-book : goal.end_shards-rests-requires-clause-book
end_shards-rests-requires-clause-book g c = c.requires.book

pub end_shards-rests-requires-clause-pass : goal.end_shards-rests-requires-clause-pass
end_shards-rests-requires-clause-pass g c =
    c.learn_all.ensures.more.of ∙ of_last (λ p. p.of ≡ g.N.Name.of) c.args.passes.items c.pop.new.self.items c.in-Some.last c.in-Some.ensures.items c.requires.passes

pub end_shards-rests-requires-clause-indices : goal.end_shards-rests-requires-clause-indices
end_shards-rests-requires-clause-indices g c = λ s v less. (c.requires.counted s v (subst (λ (n : ℕ). s < n) c.requires.many less)).index

pub drawn-draws-requires : goal.drawn-draws-requires
drawn-draws-requires g c =
    c.requires.book ∙ sym (c.end_shards-rests.ensures.more.of ∙ (c.learn_all.ensures.more.of
    ∙ of_last (λ p. p.of ≡ g.N.Name.of) c.args.passes.items c.pop.new.self.items c.in-Some.last c.in-Some.ensures.items c.requires.passes))

pub returns-clause-closed : goal.returns-clause-closed
returns-clause-closed g c =
    let one : PassState = c.learn_all.new.last in
    let two : PassState = c.end_shards-rests.new.last in
    let three : PassState = c.drawn-draws.new.pass in
    let joined : c.args.passes.items ≡ c.pop.new.self.items ++ c.in-Some.last ∷ [] = c.in-Some.ensures.items in
    let seen : AllByRecursion (λ p. IsPrefix p.seen one.seen) c.args.passes.items = rw joined (all_and_last (λ p. p.seen) c.pop.new.self.items c.in-Some.last one.seen (rw (← c.deref.ensures.value) c.learn_all.ensures.all) c.learn_all.ensures.more.seen) in
    let shown : AllByRecursion (λ p. IsPrefix p.shown one.shown) c.args.passes.items = rw joined (all_and_last (λ p. p.shown) c.pop.new.self.items c.in-Some.last one.shown (rw (← c.deref.ensures.value) c.learn_all.ensures.shown) c.learn_all.ensures.more.shown) in
    let of : three.of ≡ g.N.Name.of = c.drawn-draws.ensures.more.of ∙ (c.end_shards-rests.ensures.more.of ∙ (c.learn_all.ensures.more.of ∙ of_last (λ p. p.of ≡ g.N.Name.of) c.args.passes.items c.pop.new.self.items c.in-Some.last joined c.requires.passes)) in
    let legal : IsLegalHistory g.N.Name.of.shards three.seen = subst (λ n. IsLegalHistory n three.seen) (ap (λ o. o.shards) of) c.legal.ensures.legal in
    ends g.N.Name.of c.args.wanted c.args.passes.items c.args.shards.items c.end_shards-rests.result.items one two three c.drawn-draws.result seen shown c.end_shards-rests.ensures.more.shown c.drawn-draws.ensures.more.shown c.legal.ensures.let_through c.end_shards-rests.ensures.ended c.end_shards-rests.ensures.more.seen c.drawn-draws.ensures.more.seen legal c.drawn-draws.ensures.draws
    c.requires.many c.requires.counted c.requires.keeping (new_shard g.N.Name.of 0 0)

pub returns-clause-whole : goal.returns-clause-whole
returns-clause-whole g c = λ yes. ends_whole g.N.Name.of c.args.wanted c.args.passes.items c.args.shards.items c.end_shards-rests.result.items c.learn_all.new.last c.end_shards-rests.new.last c.end_shards-rests.ensures.ended c.requires.many c.requires.counted (new_shard g.N.Name.of 0 0) yes

pub returns-clause-limit : goal.returns-clause-limit
returns-clause-limit g c = ends_short g.N.Name.of c.args.wanted c.args.passes.items c.args.shards.items c.end_shards-rests.result.items c.learn_all.new.last c.end_shards-rests.new.last c.end_shards-rests.ensures.ended c.requires.many c.requires.counted (new_shard g.N.Name.of 0 0)
