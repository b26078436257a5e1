-- Entries have one text.
use Rattle.std.proofs.Common.{◌≡◌, ℕ, ◌⊎◌, true, List, [], ◌∷◌, refl, sym, ap, subst, ◌∙◌, inl, inr}
use Rattle.std.specs.List.{Contains}
use Rattle.std.proofs.lemmas.Bool.{false≢true}
use Rattle.lt_entry.specs.declared.entry.Entry.{Entry}
use Rattle.lt_checker.specs.Text.{text_of}
use Rattle.lt_checker.specs.Histories.{precedes, KeysRise, IsTextOf, lines_of}
use Rattle.lt_checker.proofs.Keys.{precedes_itself, not_back}
use Rattle.lt_checker.proofs.Grouped.{is_head, is_later, head_or_later, none_in_none, at_key}

-- Each key of one list is in the other.
abbrev AreAmong : List (List ℕ) → List (List ℕ) → Type 0
AreAmong keys others = (key : List ℕ) → Contains keys key → Contains others key

never : (k : List ℕ) → precedes k k ≡ true → ⊥
never k lt = false≢true (sym (precedes_itself k) ∙ lt)

-- The first key of one list is the first key of the other, or follows it.
first_key : (k l : List ℕ) (ls : List (List ℕ)) → KeysRise (l ∷ ls) → Contains (l ∷ ls) k → (l ≡ k) ⊎ (precedes l k ≡ true)
first_key k l ls rise h = elim (head_or_later l k ls h) [ inl same ↦ inl same | inr later ↦ inr (at_key (λ x. precedes l x ≡ true) ls k rise.0 later) ]

same_first : (k l : List ℕ) (ks ls : List (List ℕ)) → KeysRise (k ∷ ks) → KeysRise (l ∷ ls) → AreAmong (k ∷ ks) (l ∷ ls) → AreAmong (l ∷ ls) (k ∷ ks) → k ≡ l
same_first k l ks ls p q f g =
    elim (first_key k l ls q (f k (is_head k ks))) [
      | inl same ↦ sym same
      | inr up ↦ elim (first_key l k ks p (g l (is_head l ls))) [
        | inl same ↦ same
        | inr down ↦ absurd (false≢true (sym (not_back l k up) ∙ down))
      ]
    ]

-- Both lists without their first key, which is the same.
rest_among : (k l : List ℕ) (ks ls : List (List ℕ)) → k ≡ l → KeysRise (k ∷ ks) → AreAmong (k ∷ ks) (l ∷ ls) → AreAmong ks ls
rest_among k l ks ls same p f = λ key h.
    elim (head_or_later l key ls (f key (is_later k key ks h))) [
      | inl is ↦ absurd (never key (subst (λ (x : List ℕ). precedes x key ≡ true) (same ∙ is) (at_key (λ x. precedes k x ≡ true) ks key p.0 h)))
      | inr later ↦ later
    ]

same_keys : (ks ls : List (List ℕ)) → KeysRise ks → KeysRise ls → AreAmong ks ls → AreAmong ls ks → ks ≡ ls
same_keys [] [] p q f g = refl
same_keys [] (l ∷ ls) p q f g = absurd (none_in_none l (g l (is_head l ls)))
same_keys (k ∷ ks) [] p q f g = absurd (none_in_none k (f k (is_head k ks)))
same_keys (k ∷ ks) (l ∷ ls) p q f g =
    let same = same_first k l ks ls p q f g in
    let more = same_keys ks ls p.1 q.1 (rest_among k l ks ls same p f) (rest_among l k ls ks (sym same) q g) in
    ap (λ (x : List ℕ). x ∷ ks) same ∙ ap (λ (xs : List (List ℕ)). l ∷ xs) more

pub one_text : (text other : List ℕ) (es : List Entry) → IsTextOf text es → IsTextOf other es → text ≡ other
one_text text other es h t =
    let keys = same_keys h.keys t.keys h.are_keys.rise t.are_keys.rise (λ key c. (t.are_keys.each key).1 ((h.are_keys.each key).0 c)) (λ key c. (h.are_keys.each key).1 ((t.are_keys.each key).0 c)) in
    h.lines ∙ (ap (λ (ks : List (List ℕ)). text_of (lines_of es ks)) keys ∙ sym t.lines)
