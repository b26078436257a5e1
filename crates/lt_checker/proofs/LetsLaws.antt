-- The tickets of a line, and its key.
use Rattle.std.proofs.Common.{◌≡◌, ℕ, List, [], ◌∷◌, map, Option, Some, None, refl, ap, subst, ◌∙◌, inl, inr}
use Rattle.std.specs.Prelude.{codes}
use Rattle.std.specs.List.{AllByRecursion}
use Rattle.std.specs.Str.{bytes_eq}
use Rattle.std.proofs.lemmas.Option.{same_Some}
use Rattle.std.proofs.lemmas.Slice.Eq.{bytes_eq-Decides}
use Rattle.lt_ids.specs.Ids.{Wait}
use Rattle.lt_text.specs.Maybe.{◌>>=◌}
use Rattle.lt_text.specs.Fields.{ticket_word, ticket_of}
use Rattle.lt_entry.specs.Ranges.{IsTicket}
use Rattle.lt_text.specs.Lets.{lets_words}
use Rattle.lt_checker.specs.Lines.{tickets_of, if_any, lets_in_words}
use Rattle.lt_text.proofs.Plain.{ArePlain}
use Rattle.lt_text.proofs.FieldLaws.{bind_some, ticket_field}
use Rattle.lt_text.proofs.CallLaws.{chosen}

tickets_takes : (words : List (List ℕ)) (ts : List Wait) → tickets_of words ≡ Some ts → (words ≡ map ticket_word ts) × AllByRecursion IsTicket ts
tickets_takes [] ts e = subst (λ (x : List Wait). ([] ≡ map ticket_word x) × AllByRecursion IsTicket x) (same_Some [] ts e) (refl, tt)
tickets_takes (word ∷ words) ts e =
    let a = bind_some (ticket_of word) (λ t. tickets_of words >>= λ ts. Some (t ∷ ts)) ts e in
    let b = bind_some (tickets_of words) (λ ts. Some (a.0 ∷ ts)) ts a.2 in
    let t = ticket_field.takes word a.0 a.1 in
    let u = tickets_takes words b.0 b.1 in
    subst (λ (x : List Wait). (word ∷ words ≡ map ticket_word x) × AllByRecursion IsTicket x) (same_Some (a.0 ∷ b.0) ts b.2)
    (ap (λ (w : List ℕ). w ∷ words) t.0 ∙ ap (λ (ws : List (List ℕ)). ticket_word a.0 ∷ ws) u.0, (t.1, u.1))

tickets_again : (ts : List Wait) → AllByRecursion IsTicket ts → tickets_of (map ticket_word ts) ≡ Some ts
tickets_again [] h = refl
tickets_again (t ∷ ts) h = rw (ticket_field.again t h.0, tickets_again ts h.1) refl

any_takes : (words : List (List ℕ)) (o ts : List Wait) → (words ≡ map ticket_word o) × AllByRecursion IsTicket o → if_any o ≡ Some ts → (codes "let" ∷ words ≡ lets_words ts) × AllByRecursion IsTicket ts
any_takes words [] ts h e = absurd cc
any_takes words (t ∷ o) ts h e = subst (λ (x : List Wait). (codes "let" ∷ words ≡ lets_words x) × AllByRecursion IsTicket x) (same_Some (t ∷ o) ts e) (ap (λ (ws : List (List ℕ)). codes "let" ∷ ws) h.0, h.1)

no_none : {A : Type 0} (x : A) → ◌≡◌ {A = Option A} None (Some x) → ⊥
no_none x e = absurd cc

pub lets_takes : (words : List (List ℕ)) (ts : List Wait) → lets_in_words words ≡ Some ts → (words ≡ lets_words ts) × AllByRecursion IsTicket ts
unfolding lets_in_words
lets_takes [] ts e = subst (λ (x : List Wait). ([] ≡ lets_words x) × AllByRecursion IsTicket x) (same_Some [] ts e) (refl, tt)
lets_takes (word ∷ words) ts e =
    elim (chosen (bytes_eq word (codes "let")) (tickets_of words >>= if_any) None (Some ts) e) [
      | inl p ↦
          let a = bind_some (tickets_of words) if_any ts p.1 in
          let h = any_takes words a.0 ts (tickets_takes words a.0 a.1) a.2 in
          (ap (λ (w : List ℕ). w ∷ words) ((bytes_eq-Decides word (codes "let")).0 p.0) ∙ h.0, h.1)
      | inr q ↦ absurd (no_none ts q.1)
    ]

pub lets_again : (ts : List Wait) → AllByRecursion IsTicket ts → lets_in_words (lets_words ts) ≡ Some ts
unfolding lets_in_words
lets_again [] h = refl
lets_again (t ∷ ts) h = rw (ticket_field.again t h.0, tickets_again ts h.1) refl

tickets_plain : (ts : List Wait) → AllByRecursion IsTicket ts → ArePlain (map ticket_word ts)
tickets_plain [] h = tt
tickets_plain (t ∷ ts) h = (ticket_field.plain t h.0, tickets_plain ts h.1)

pub lets_plain : (ts : List Wait) → AllByRecursion IsTicket ts → ArePlain (lets_words ts)
lets_plain [] h = tt
lets_plain (t ∷ ts) h = (refl, tickets_plain (t ∷ ts) h)
