-- The slots of a table's shards.
use Rattle.std.proofs.Common.{◌≡◌, ◌∙◌, ℕ, List, [], ◌∷◌, ◌++◌, length, length-append, map, ap, refl, subst, sym, arith}
use Rattle.std.proofs.lemmas.List.{length-map, map-append}
use Rattle.lt_table_core.specs.declared.table.Label.{Label}
use Rattle.lt_table_core.specs.Slots.{AreInPlace}
use Rattle.lt_walk.proofs.Ends.{at_each}

-- one more label
label_more : (max_steps : ℕ) (ls : List Label) (l : Label) → AreInPlace max_steps ls → l ≡ record { index = length ls; max_steps = max_steps } → AreInPlace max_steps (ls ++ l ∷ [])
label_more max_steps ls l each last = λ s d lt. at_each (λ k x. x ≡ record { index = k; max_steps = max_steps }) ls l (length ls) refl each last s d (omega (arith, lt, length-append ls (l ∷ [])))

-- one more slot, of which the label tells
pub slot_more : {A : Type 0} {ys : List A} (f : A → Label) (max_steps : ℕ) (xs : List A) (x : A) → AreInPlace max_steps (map f xs) → ys ≡ xs ++ x ∷ [] → f x ≡ record { index = length xs; max_steps = max_steps } → AreInPlace max_steps (map f ys)
slot_more f max_steps xs x each grown last =
    let label : f x ≡ record { index = length (map f xs); max_steps = max_steps } = last ∙ ap (λ (n : ℕ). record { index = n; max_steps = max_steps }) (sym (length-map xs f)) in
    subst (AreInPlace max_steps) (sym (ap (map f) grown ∙ map-append f xs (x ∷ []))) (label_more max_steps (map f xs) (f x) each label)
