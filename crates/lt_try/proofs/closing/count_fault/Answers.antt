use Rattle.std.proofs.Common.{◌≡◌, ◌<◌, ◌+◌, ℕ, suc, zero, List, [], ◌∷◌, length, get_or, arith, refl, sym, subst, ◌∙◌}
use Rattle.lt_words.specs.Row.{Opening}
use Rattle.lt_shard.specs.Shards.{View}
use Rattle.lt_walk.specs.Closed.{IsCounted, passes_of}
use Rattle.lt_try.proofs.closing.count_fault.Goals as goal

-- within the list the default does not matter
same_at : (vs : List View) (i : ℕ) (a b : View) → i < length vs → get_or vs i a ≡ get_or vs i b
same_at [] i a b lt = absurd (omega (arith, lt))
same_at (v ∷ vs) zero a b lt = refl
same_at (v ∷ vs) (suc i) a b lt = same_at vs i a b (omega (arith, lt))

-- what is true of the first shards and of the next one is true of one more
one_view_more : (P : ℕ → View → Type 0) (vs : List View) (i : ℕ) (here : View) → i < length vs → here ≡ get_or vs i here → P i here
    → ((s : ℕ) (v : View) → s < i → P s (get_or vs s v)) → (s : ℕ) (v : View) → s < i + 1 → P s (get_or vs s v)
one_view_more P [] i here lt is p before s v less = absurd (omega (arith, lt))
one_view_more P (x ∷ vs) zero here lt is p before zero v less = subst (P 0) is p
one_view_more P (x ∷ vs) zero here lt is p before (suc s) v less = absurd (omega (arith, less))
one_view_more P (x ∷ vs) (suc i) here lt is p before zero v less = before 0 v (omega arith)
one_view_more P (x ∷ vs) (suc i) here lt is p before (suc s) v less =
    one_view_more (λ (k : ℕ) (w : View). P (suc k) w) vs i here (omega (arith, lt)) is p (λ k w l. before (suc k) w (omega (arith, l))) s v (omega (arith, less))

-- a shard of the book is one of whatever is of the book
within : (a b : Opening) (n i : ℕ) → b ≡ a → n ≡ a.shards → i < n → i < b.shards
within a b n i same many less = subst (λ (o : Opening). i < o.shards) (sym same) (subst (λ (m : ℕ). i < m) many less)

pub loop-index-init : goal.loop-index-init
loop-index-init g c = λ s v less. absurd (omega (arith, less))

pub is_counted-requires-clause-passes : goal.is_counted-requires-clause-passes
is_counted-requires-clause-passes g c = λ k d less. within c.args.book.now _ _ _ (c.requires.passes k d less) c.requires.many c.loop-index-test.true

pub is_counted-requires-clause-guards : goal.is_counted-requires-clause-guards
is_counted-requires-clause-guards g c = λ k d less. within c.args.book.now _ _ _ (c.requires.guards k d less) c.requires.many c.loop-index-test.true

pub returns-then-not-is_counted-clause-some : goal.returns-then-not-is_counted-clause-some
returns-then-not-is_counted-clause-some g c =
    let shard = c.index-shards-index.result in
    let lt : c.loop-index.index < length c.args.shards.now = c.loop-index-test.true in (
      lt,
      c.loop-index.invariant,
      λ v counted. c.if-not-is_counted.ensures.no refl
          (subst (λ (w : View). IsCounted c.args.wanted (passes_of c.args.passes.now c.args.guards.now) c.loop-index.index w)
          (same_at c.args.shards.now c.loop-index.index v shard lt ∙ sym c.index-shards-index.is) counted),
    )

pub loop-index-preserved : goal.loop-index-preserved
loop-index-preserved g c =
    one_view_more (IsCounted c.args.wanted (passes_of c.args.passes.now c.args.guards.now)) c.args.shards.now c.loop-index.index c.index-shards-index.result c.loop-index-test.true c.index-shards-index.is
    (c.if-not-is_counted.ensures.yes refl) c.loop-index.invariant

pub returns-clause-none : goal.returns-clause-none
returns-clause-none g c = λ s v less. c.loop-index.invariant s v (omega (arith, less, c.requires.many, c.loop-index-test.false))
