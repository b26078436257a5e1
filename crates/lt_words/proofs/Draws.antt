-- What follows from the numbers of draws.
use Rattle.std.proofs.Common.{Option, Some, None, IfSome, ◌≡◌, ℕ, ◌+◌, ◌<◌, ◌≤◌, List, [], ◌∷◌, ◌++◌, refl, ap, sym, subst, ◌∙◌, inl, inr, ⊎_elim, arith}
use mathlib.Core.List.{IsPrefix}
use Rattle.lt_words.specs.declared.event.Event.{Event}
use Rattle.lt_words.specs.declared.event.Event.TheVariants.{Opened, Draw, Step}
use Rattle.lt_words.specs.History.{draws_of, DrawsCount, IsLegalHistory, DrewIn}
use Rattle.lt_words.specs.Row.{Appends}
use Rattle.lt_words.proofs.Histories.{draws_of-append}

-- ---- one draw

next_after : (n : ℕ) (past rest : List Event) (pass number : ℕ) → DrawsCount n (past ++ Draw pass number ∷ rest) → number ≡ n + draws_of past + 1
next_after n [] rest pass number c = omega (arith, c.0)
next_after n (Opened a b way ∷ past) rest pass number c = absurd c
next_after n (Draw p k ∷ past) rest pass number c = omega (arith, next_after (n + 1) past rest pass number c.1)
next_after n (Step s e ∷ past) rest pass number c = next_after n past rest pass number c

pub draws_give_the_next : (shards : ℕ) (past rest : List Event) (pass number : ℕ) → IsLegalHistory shards (past ++ Draw pass number ∷ rest) → number ≡ draws_of past + 1
draws_give_the_next shards past rest pass number legal = omega (arith, next_after 0 past rest pass number legal.draws)

range : (n : ℕ) (h : List Event) (pass number : ℕ) → DrawsCount n h → DrewIn h pass number → (n < number) × (number ≤ n + draws_of h)
range n [] pass number c d = absurd d
range n (Opened a b way ∷ h) pass number c d = absurd c
range n (Draw p k ∷ h) pass number c d = ⊎_elim
    (λ here. (omega (arith, here.1, c.0), omega (arith, here.1, c.0)))
    (λ there. let r = range (n + 1) h pass number c.1 there in (omega (arith, r.0), omega (arith, r.1)))
    d
range n (Step s e ∷ h) pass number c d = range n h pass number c d

pub numbers_are_of_draws : (shards : ℕ) (h : List Event) (pass number : ℕ) → IsLegalHistory shards h → DrewIn h pass number → (1 ≤ number) × (number ≤ draws_of h)
numbers_are_of_draws shards h pass number legal d = let r = range 0 h pass number legal.draws d in (omega (arith, r.0), omega (arith, r.1))

-- ---- two draws

rise : (n : ℕ) (past between rest : List Event) (p m q k : ℕ) → DrawsCount n (past ++ Draw p m ∷ (between ++ Draw q k ∷ rest)) → m < k
rise n [] between rest p m q k c = omega (arith, c.0, next_after (n + 1) between rest q k c.1)
rise n (Opened a b way ∷ past) between rest p m q k c = absurd c
rise n (Draw r j ∷ past) between rest p m q k c = rise (n + 1) past between rest p m q k c.1
rise n (Step s e ∷ past) between rest p m q k c = rise n past between rest p m q k c

pub numbers_rise : (shards : ℕ) (past between rest : List Event) (p m q n : ℕ) → IsLegalHistory shards (past ++ Draw p m ∷ (between ++ Draw q n ∷ rest)) → m < n
numbers_rise shards past between rest p m q n legal = rise 0 past between rest p m q n legal.draws

-- two draws of one list with equally many draws before them are the same draw
same_draw : (past past2 rest rest2 : List Event) (p q m n : ℕ) → past ++ Draw p m ∷ rest ≡ past2 ++ Draw q n ∷ rest2 → draws_of past ≡ draws_of past2 → (p ≡ q) × (past ≡ past2)
same_draw [] [] rest rest2 p q m n e many = (cc (e), refl)
same_draw [] (Opened a b way ∷ xs) rest rest2 p q m n e many = absurd (cc (e))
same_draw [] (Draw r j ∷ xs) rest rest2 p q m n e many = absurd (omega (arith, many))
same_draw [] (Step s f ∷ xs) rest rest2 p q m n e many = absurd (cc (e))
same_draw (Opened a b way ∷ xs) [] rest rest2 p q m n e many = absurd (cc (e))
same_draw (Draw r j ∷ xs) [] rest rest2 p q m n e many = absurd (omega (arith, many))
same_draw (Step s f ∷ xs) [] rest rest2 p q m n e many = absurd (cc (e))
same_draw (x ∷ xs) (y ∷ ys) rest rest2 p q m n e many =
    let head : x ≡ y = cc (e) in
    let counted : draws_of xs ≡ draws_of ys = omega (arith, many, draws_of-append (x ∷ []) xs, draws_of-append (y ∷ []) ys, ap (λ z. draws_of (z ∷ [])) head) in
    let left = same_draw xs ys rest rest2 p q m n (cc (e)) counted in
    (left.0, cc (head, left.1))

pub numbers_are_drawn_once : (shards : ℕ) (h past past2 rest rest2 : List Event) (p q number : ℕ) → IsLegalHistory shards h → h ≡ past ++ Draw p number ∷ rest → h ≡ past2 ++ Draw q number ∷ rest2 → (p ≡ q) × (past ≡ past2)
numbers_are_drawn_once shards h past past2 rest rest2 p q number legal first second =
    let one = draws_give_the_next shards past rest p number (subst (IsLegalHistory shards) first legal) in
    let two = draws_give_the_next shards past2 rest2 q number (subst (IsLegalHistory shards) second legal) in
    same_draw past past2 rest rest2 p q number number (sym first ∙ second) (omega (arith, one, two))

one_pass : (n : ℕ) (h : List Event) (p q number : ℕ) → DrawsCount n h → DrewIn h p number → DrewIn h q number → p ≡ q
one_pass n [] p q number c d f = absurd d
one_pass n (Opened a b way ∷ h) p q number c d f = absurd c
one_pass n (Draw r k ∷ h) p q number c d f = ⊎_elim
    (λ here. ⊎_elim
    (λ again. sym here.0 ∙ again.0)
    (λ there. absurd (omega (arith, c.0, here.1, (range (n + 1) h q number c.1 there).0)))
    f)
    (λ there. ⊎_elim
    (λ here. absurd (omega (arith, c.0, here.1, (range (n + 1) h p number c.1 there).0)))
    (λ again. one_pass (n + 1) h p q number c.1 there again)
    f)
    d
one_pass n (Step s e ∷ h) p q number c d f = one_pass n h p q number c d f

pub numbers_are_of_one_pass : (shards : ℕ) (h : List Event) (p q number : ℕ) → IsLegalHistory shards h → DrewIn h p number → DrewIn h q number → p ≡ q
numbers_are_of_one_pass shards h p q number legal d f = one_pass 0 h p q number legal.draws d f

-- ---- a draw stays

drew_more : (g more : List Event) (p n : ℕ) → DrewIn g p n → DrewIn (g ++ more) p n
drew_more [] more p n d = absurd d
drew_more (Opened a b way ∷ g) more p n d = drew_more g more p n d
drew_more (Draw q k ∷ g) more p n d = ⊎_elim (λ here. inl here) (λ there. inr (drew_more g more p n there)) d
drew_more (Step s e ∷ g) more p n d = drew_more g more p n d

pub draws_stay : (g h : List Event) (p n : ℕ) → IsPrefix g h → DrewIn g p n → DrewIn h p n
draws_stay g h p n pre d = subst (λ (l : List Event). DrewIn l p n) pre.1 (drew_more g pre.0 p n d)

-- a draw at the end of a history is one of its draws
drew_last : (g : List Event) (p n : ℕ) → DrewIn (g ++ Draw p n ∷ []) p n
drew_last [] p n = inl (refl, refl)
drew_last (Opened a b way ∷ g) p n = drew_last g p n
drew_last (Draw q k ∷ g) p n = inr (drew_last g p n)
drew_last (Step s e ∷ g) p n = drew_last g p n

-- what was drawn last, if anything was
pub drew : (r : Option ℕ) (pass max : ℕ) (old new : List Event) → IfSome r (λ n. (0 < n) × (n ≤ max) × Appends old (λ h. draws_of h + 1 ≡ n) (Draw pass n) new) → IfSome r (λ n. DrewIn new pass n)
drew None pass max old new g = tt
drew (Some n) pass max old new g =
    let goes : Appends old (λ h. draws_of h + 1 ≡ n) (Draw pass n) new = g.2 in
    subst (λ (l : List Event). DrewIn l pass n) (sym goes.3) (drew_last goes.0 pass n)

-- a later history has as many draws or more
pub draws_later : (xs ys : List Event) → IsPrefix xs ys → draws_of xs ≤ draws_of ys
draws_later xs ys more = omega (arith, draws_of-append xs more.0, ap draws_of more.1)
