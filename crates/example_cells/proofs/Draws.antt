-- A number that was drawn is above all that were drawn before.
use Rattle.std.proofs.Common.{◌≡◌, ℕ, ◌+◌, ◌<◌, ◌≤◌, List, [], ◌∷◌, ◌++◌, refl, ap, ◌∙◌, arith}
use Rattle.lt_words.specs.declared.event.Event.{Event}
use Rattle.lt_words.specs.declared.event.Event.TheVariants.{Opened, Draw, Step}
use Rattle.lt_words.specs.History.{draws_of}
use Rattle.lt_words.specs.Row.{IsNextDraw}

pub draws_more : (xs ys : List Event) → draws_of xs ≤ draws_of (xs ++ ys)
draws_more [] ys = omega arith
draws_more (Opened shards passes keeping ∷ xs) ys = draws_more xs ys
draws_more (Draw pass number ∷ xs) ys = omega (arith, draws_more xs ys)
draws_more (Step shard entry ∷ xs) ys = draws_more xs ys

last_draw : (h : List Event) (pass n : ℕ) → draws_of (h ++ Draw pass n ∷ []) ≡ draws_of h + 1
last_draw [] pass n = refl
last_draw (Opened shards passes keeping ∷ h) pass n = last_draw h pass n
last_draw (Draw p m ∷ h) pass n = ap (λ k. k + 1) (last_draw h pass n)
last_draw (Step shard entry ∷ h) pass n = last_draw h pass n

pub above_all : (old new : List Event) (pass max n : ℕ) → IsNextDraw old pass max n new → draws_of old < n
above_all old new pass max n next =
    let grew : draws_of (old ++ next.2.1.0) ≡ draws_of next.2.0 = ap draws_of next.2.1.1 in
    omega (arith, draws_more old next.2.1.0, grew, next.2.2)

-- the number that was drawn counts the draws up to it
pub counts_all : (old new : List Event) (pass max n : ℕ) → IsNextDraw old pass max n new → draws_of new ≡ n
counts_all old new pass max n next = ap draws_of next.2.3 ∙ (last_draw next.2.0 pass n ∙ next.2.2)
