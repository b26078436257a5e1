-- A map of phases follows the queues.
use Rattle.std.proofs.Common.{◌≡◌, ℕ, zero, suc, ◌<◌, Bool, true, false, cond, drop, length, get_or, List, [], ◌∷◌, Option, Some, None, refl, sym, ap, ◌∙◌, arith}
use Rattle.std.specs.Option.{option_or, option_map}
use Rattle.std.specs.List.{find}

drop_at : {X : Type 0} (xs : List X) (i j : ℕ) (x : X) → i < length xs → x ≡ get_or xs i x → j ≡ suc i → drop i xs ≡ x ∷ drop j xs
drop_at [] i j x lt e k = absurd (omega arith)
drop_at (y ∷ ys) zero j x lt e k = rw k (ap (λ z. z ∷ ys) (sym e))
drop_at (y ∷ ys) (suc i) j x lt e k = rw k (drop_at ys i (suc i) x (omega arith) e refl)

first : {X Y : Type 0} (f : X → Y) (t : Bool) (x : X) (others : Option X) (old : Option Y) → option_or (cond t (Some (f x)) None) (option_or (option_map f others) old) ≡ option_or (option_map f (cond t (Some x) others)) old
first f true x others old = refl
first f false x others old = refl

-- one more queue entry, before those that were put
pub found_before : {X Y : Type 0} (f : X → Y) (p : X → Bool) (xs : List X) (i j : ℕ) (x : X) (t : Bool) (v : Y) (old new got : Option Y) → i < length xs → x ≡ get_or xs i x → j ≡ suc i → t ≡ p x → v ≡ f x → got ≡ option_or (option_map f (find p (drop j xs))) old → new ≡ option_or (cond t (Some v) None) got
    → new ≡ option_or (option_map f (find p (drop i xs))) old
found_before f p xs i j x t v old new got lt at next passes is before after =
    after ∙ (λ k. option_or (cond (passes k) (Some (is k)) None) (before k)) ∙ first f (p x) x (find p (drop j xs)) old ∙ ap (λ ys. option_or (option_map f (find p ys)) old) (sym (drop_at xs i j x lt at next))

none_left : {X : Type 0} (xs : List X) → drop (length xs) xs ≡ []
none_left [] = refl
none_left (x ∷ xs) = none_left xs

-- no queue entry
pub none_found : {X Y : Type 0} (f : X → Y) (p : X → Bool) (xs : List X) (old : Option Y) → old ≡ option_or (option_map f (find p (drop (length xs) xs))) old
none_found f p xs old = ap (λ ys. option_or (option_map f (find p ys)) old) (sym (none_left xs))

-- all queue entries
pub all_found : {X Y : Type 0} (f : X → Y) (p : X → Bool) (xs : List X) (i : ℕ) (old got : Option Y) → i ≡ 0 → got ≡ option_or (option_map f (find p (drop i xs))) old → got ≡ option_or (option_map f (find p xs)) old
all_found f p xs i old got e h = h ∙ ap (λ k. option_or (option_map f (find p (drop k xs))) old) e
