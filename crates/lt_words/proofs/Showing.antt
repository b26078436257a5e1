-- The lets that were shown, and the status words that follow from them.
use Rattle.std.proofs.Common.{◌≡◌, ◌≢◌, ℕ, ◌<◌, ◌≤◌, ◌==◌, max, Bool, true, false, List, [], ◌∷◌, ◌++◌, refl, sym, subst, inl, inr, ⊎_elim, arith, eq-eqb, ne_eqb, cond}
use mathlib.Core.List.{IsPrefix}
use Rattle.std.proofs.lemmas.Bool.{eqb-true, cases_lt}
use Rattle.lt_ids.specs.Ids.{Wait, IsNumber, IsWaitNumber, value_of}
use Rattle.lt_ids.specs.declared.ticket.Through.{Through}
use Rattle.lt_words.specs.declared.event.Event.{Event}
use Rattle.lt_words.specs.History.{LetIn, IsStatus}
use Rattle.lt_words.specs.Shown.{value_for, word_of, IsShown, AreShown, AreLet}
use Rattle.lt_words.proofs.Histories.{let_more}

-- ---- the word of a pass never falls

pub word_more : (p : ℕ) (xs ys : List Through) → word_of p xs ≤ word_of p (xs ++ ys)
word_more p [] ys = omega arith
word_more p (t ∷ xs) ys = let rest = word_more p xs ys in omega (arith, rest)

pub word_later : (p : ℕ) (xs ys : List Through) → IsPrefix xs ys → word_of p xs ≤ word_of p ys
word_later p xs ys pre = subst (λ (l : List Through). word_of p xs ≤ word_of p l) pre.1 (word_more p xs pre.0)

pub shown_later : (p : ℕ) (t : Wait) (xs ys : List Through) → IsPrefix xs ys → IsShown xs p t → IsShown ys p t
shown_later p t xs ys pre is = let more = word_later p xs ys pre in omega (arith, more, is)

pub all_shown_later : (lets xs ys : List Through) → IsPrefix xs ys → AreShown xs lets → AreShown ys lets
all_shown_later [] xs ys pre all = tt
all_shown_later (t ∷ lets) xs ys pre all = (shown_later t.pass t.ticket xs ys pre all.0, all_shown_later lets xs ys pre all.1)

-- ---- one more let is shown

pub word_snoc : (p : ℕ) (xs : List Through) (t : Through) → word_of p (xs ++ t ∷ []) ≡ max (word_of p xs) (value_for p t)
word_snoc p [] t = omega arith
word_snoc p (x ∷ xs) t = let rest = word_snoc p xs t in omega (arith, rest)

value_here : (p : ℕ) (t : Through) → p ≡ t.pass → value_for p t ≡ value_of t.ticket
value_here p t e = rw (eq-eqb p t.pass e) refl

value_else : (p : ℕ) (t : Through) → p ≢ t.pass → value_for p t ≡ 0
value_else p t ne = rw (ne_eqb p t.pass ne) refl

-- a ticket above everything that was shown to its pass becomes the pass's word
pub word_here : (p : ℕ) (xs : List Through) (t : Through) → p ≡ t.pass → word_of p xs < value_of t.ticket → word_of p (xs ++ t ∷ []) ≡ value_of t.ticket
word_here p xs t e below = let at = word_snoc p xs t in let here = value_here p t e in omega (arith, at, here, below)

-- another pass's word stays
pub word_else : (p : ℕ) (xs : List Through) (t : Through) → p ≢ t.pass → word_of p (xs ++ t ∷ []) ≡ word_of p xs
word_else p xs t ne = let at = word_snoc p xs t in let else = value_else p t ne in omega (arith, at, else)

-- ---- what was shown was let through

pub let_on : (h more : List Event) (ts : List Through) → AreLet h ts → AreLet (h ++ more) ts
let_on h more [] all = tt
let_on h more (t ∷ ts) all = ((all.0.0, all.0.1, let_more h more t.pass t.ticket all.0.2), let_on h more ts all.1)

pub let_snoc : (h : List Event) (ts : List Through) (t : Through) → AreLet h ts → IsNumber t.ticket.number → IsWaitNumber t.ticket.wait → LetIn h t.pass t.ticket → AreLet h (ts ++ t ∷ [])
let_snoc h [] t all n w l = ((n, w, l), tt)
let_snoc h (x ∷ ts) t all n w l = (all.0, let_snoc h ts t all.1 n w l)

status_one : (h : List Event) (p : ℕ) (t : Through) (rest : ℕ) (b : Bool) → (p == t.pass) ≡ b → IsNumber t.ticket.number → IsWaitNumber t.ticket.wait → LetIn h t.pass t.ticket → IsStatus h p rest → IsStatus h p (max (cond b (value_of t.ticket) 0) rest)
status_one h p t rest true is n w l s = ⊎_elim
    (λ lt.
    let at : max (value_of t.ticket) rest ≡ value_of t.ticket = omega (arith, lt) in
    inr (record { ticket = t.ticket; number = n; wait = w; value = at; through = subst (λ (q : ℕ). LetIn h q t.ticket) (sym (eqb-true p t.pass is)) l }))
    (λ ge. subst (IsStatus h p) (omega (arith, ge)) s)
    (cases_lt rest (value_of t.ticket))
status_one h p t rest false is n w l s = subst (IsStatus h p) (omega arith) s

-- a status word is 0 or a ticket of its pass that was let through
pub status_is : (h : List Event) (p : ℕ) (ts : List Through) → AreLet h ts → IsStatus h p (word_of p ts)
status_is h p [] all = inl refl
status_is h p (t ∷ ts) all = status_one h p t (word_of p ts) (p == t.pass) refl all.0.0 all.0.1 all.0.2 (status_is h p ts all.1)
