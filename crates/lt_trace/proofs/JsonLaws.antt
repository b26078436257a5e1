-- The members of an object, and the bytes of its tickets.
use Rattle.std.proofs.Common.{◌≡◌, ℕ, Bool, true, false, eqb, List, [], ◌∷◌, ◌++◌, length, Option, Some, None, Result, Ok, Err, IfOk, codes, refl, sym, ap, subst, ◌∙◌, append_assoc, arith}
use Rattle.std.specs.Prelude.{String}
use Rattle.std.specs.declared.alloc.Global.{Global}
use Rattle.serde_json.specs.declared.value.Value.{Value}
use Rattle.serde_json.specs.View.{items_view, members_view}
use Rattle.serde_json.specs.Find.{as_object}
use Rattle.serde_json.specs.Data.{Data}
use Rattle.lt_text.specs.Maybe.{◌>>=◌}
use Rattle.lt_trace.specs.Json.{ticket_bytes, let_bytes, after_bytes, AppendsIfAny, members_length, length_or_0, member_count}

after_more : (before text : List ℕ) (o : Option (List ℕ)) → after_bytes (before ++ 32 ∷ text) o ≡ after_bytes before (o >>= λ others. Some (32 ∷ text ++ others))
after_more before text None = refl
after_more before text (Some others) = ap Some (append_assoc before (32 ∷ text) others)

lets_more : (before text new : List ℕ) (o : Option (List ℕ)) (b : Bool) → AppendsIfAny (before ++ 32 ∷ text) new o b → AppendsIfAny before new (o >>= λ others. Some (32 ∷ text ++ others)) b
lets_more before text new o true h = h ∙ after_more before text o
lets_more before text new o false h = rw h refl

-- What is appended after `let` is appended with it.
pub lets_put : {E : Type 0} (before after new : List ℕ) (vs : List Value) (r : Result Bool E) → eqb (length vs) 0 ≡ false → after ≡ before ++ 32 ∷ codes "let" → IfOk r (AppendsIfAny after new (ticket_bytes (items_view vs))) → IfOk r (AppendsIfAny before new (let_bytes (items_view vs)))
lets_put before after new [] r some e h = absurd cc
lets_put before after new (v ∷ vs) (Err x) some e h = tt
lets_put before after new (v ∷ vs) (Ok b) some e h =
    lets_more before (codes "let") new (ticket_bytes (items_view (v ∷ vs))) b (subst (λ (t : List ℕ). AppendsIfAny t new (ticket_bytes (items_view (v ∷ vs))) b) e h)

members_length-view : (es : List (String Global × Value)) → members_length (members_view es) ≡ length es
members_length-view [] = refl
members_length-view (e ∷ es) = let h = members_length-view es in omega arith

-- An object has as many members as its map has entries.
pub count_is : (d : Data) (es : List (String Global × Value)) (n : ℕ) → Some (members_view es) ≡ as_object d → n ≡ length es → n ≡ member_count d
count_is d es n e f = f ∙ (sym (members_length-view es) ∙ ap length_or_0 e)
