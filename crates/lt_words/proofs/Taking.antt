-- How many steps of a shard were taken out, as takes are added.
use Rattle.std.proofs.Common.{◌≡◌, ◌≢◌, ℕ, ◌+◌, ◌≤◌, Bool, true, false, MatchBool, List, [], ◌∷◌, ◌++◌, refl, ap, subst, arith, eq-eqb, ne_eqb}
use mathlib.Core.List.{IsPrefix}
use Rattle.lt_words.specs.declared.event.Take.{Take}
use Rattle.lt_words.specs.Takes.{many_of, taken_of}

pub taken_snoc : (s : ℕ) (xs : List Take) (t : Take) → taken_of s (xs ++ t ∷ []) ≡ taken_of s xs + many_of s t
taken_snoc s [] t = omega arith
taken_snoc s (x ∷ xs) t = let rest = taken_snoc s xs t in omega (arith, rest)

many_here : (t : Take) → many_of t.shard t ≡ t.many
many_here t = rw (eq-eqb t.shard t.shard refl) refl

many_else : (s : ℕ) (t : Take) → s ≢ t.shard → many_of s t ≡ 0
many_else s t ne = rw (ne_eqb s t.shard ne) refl

pub taken_here : (xs : List Take) (t : Take) → taken_of t.shard (xs ++ t ∷ []) ≡ taken_of t.shard xs + t.many
taken_here xs t = omega (arith, taken_snoc t.shard xs t, many_here t)

-- a take of another shard
pub taken_else : (s : ℕ) (xs : List Take) (t : Take) → s ≢ t.shard → taken_of s (xs ++ t ∷ []) ≡ taken_of s xs
taken_else s xs t ne = omega (arith, taken_snoc s xs t, many_else s t ne)

-- more takes take out more
taken_more : (s : ℕ) (xs ys : List Take) → taken_of s xs ≤ taken_of s (xs ++ ys)
taken_more s [] ys = omega arith
taken_more s (x ∷ xs) ys = let rest = taken_more s xs ys in omega (arith, rest)

pub taken_later : (s : ℕ) (xs ys : List Take) → IsPrefix xs ys → taken_of s xs ≤ taken_of s ys
taken_later s xs ys pre = subst (λ (l : List Take). taken_of s xs ≤ taken_of s l) pre.1 (taken_more s xs pre.0)

-- an exchange that noted a take has added its steps to those that were taken out
pub took_exactly : (b : Bool) (v w : List Take) (k from : ℕ) (t : Take) → k ≡ t.shard → MatchBool b ((ts : List Take) × IsPrefix v ts × (taken_of k ts ≡ from) × (w ≡ ts ++ t ∷ [])) (Unit {0})
    → MatchBool b (taken_of t.shard w ≡ from + t.many) (Unit {0})
took_exactly true v w k from t at m = omega (arith, ap (taken_of t.shard) m.3, taken_here m.0 t, m.2, ap (λ s. taken_of s m.0) at)
took_exactly false v w k from t at m = tt
