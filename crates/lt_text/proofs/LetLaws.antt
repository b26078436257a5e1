-- The words of the lets are `let` and those of the tickets.
use Rattle.std.proofs.Common.{◌≡◌, ℕ, List, [], ◌∷◌, ◌++◌, map, refl, ap, ◌∙◌, append_assoc}
use Rattle.std.specs.Prelude.{codes}
use Rattle.std.specs.List.{flat_map}
use Rattle.lt_ids.specs.Ids.{Wait}
use Rattle.lt_text.specs.Compose.{spaced}
use Rattle.lt_text.specs.Fields.{ticket_word}
use Rattle.lt_text.specs.Lets.{lets_words}

tickets_are : {T : Type 0} (ticket : T → Wait) (ts : List T) → flat_map (λ t. 32 ∷ ticket_word (ticket t)) ts ≡ spaced (map ticket_word (map ticket ts))
tickets_are ticket [] = refl
tickets_are ticket (t ∷ ts) = ap (λ (more : List ℕ). (32 ∷ ticket_word (ticket t)) ++ more) (tickets_are ticket ts)

pub lets_are : {T : Type 0} (ticket : T → Wait) (ts : List T) (out : List ℕ) → (ts ≡ [] → ⊥) → (out ++ 32 ∷ codes "let") ++ flat_map (λ t. 32 ∷ ticket_word (ticket t)) ts ≡ out ++ spaced (lets_words (map ticket ts))
lets_are ticket [] out some = absurd (some refl)
lets_are ticket (t ∷ ts) out some = append_assoc out (32 ∷ codes "let") _ ∙ ap (λ (more : List ℕ). out ++ 32 ∷ (codes "let" ++ more)) (tickets_are ticket (t ∷ ts))
