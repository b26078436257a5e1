-- Copies of the entries of a queue.
use Rattle.std.proofs.Common.{◌≡◌, ℕ, Some, List, [], ◌∷◌, ◌++◌, sym, ap, ◌∙◌, subst, append_assoc}
use Rattle.std.specs.Prelude.{map, slice_get, is_some, unwrap_or}
use Rattle.std.specs.List.{AllByRecursion}
use mathlib.Core.Bool.{true≢false}
use Rattle.lt_links.specs.declared.stand.Stand.{Stand}
use Rattle.lt_links.specs.Maps.{Maps, stand}
use Rattle.lt_row.specs.Row.{stands_at}
use Rattle.lt_row.proofs.Written.{stand_is}

-- the copies made so far, followed by those of the rest
abbrev pub copies_and : {X : Type 0} → (Stand → X) → Maps → List X → List ℕ → List X
copies_and f m done rest = done ++ map f (stands_at m rest)

-- one more copy is made
pub copies_more : {X : Type 0} (f : Stand → X) (m : Maps) (done : List X) (n : ℕ) (s : Stand) (rest : List ℕ) → stand m n ≡ Some s → copies_and f m (done ++ f s ∷ []) rest ≡ copies_and f m done (n ∷ rest)
copies_more f m done n s rest is =
    append_assoc done (f s ∷ []) (map f (stands_at m rest))
    ∙ ap (λ t. done ++ f t ∷ map f (stands_at m rest)) (sym (stand_is m n s is))

-- a property of all entries holds of the first
pub first_of : (P : Stand → Type 0) (l : List Stand) (s : Stand) → AllByRecursion P l → Some s ≡ slice_get l 0 → P s
first_of P [] s all is = absurd (true≢false (ap is_some is))
first_of P (x ∷ xs) s all is = subst P (sym (ap (λ o. unwrap_or o s) is)) all.0
