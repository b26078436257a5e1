-- Which index is due where no line came before.
use Rattle.std.proofs.Common.{◌≡◌, ◌+◌, ◌<◌, ℕ, List, [], ◌∷◌, length, refl, sym, subst, arith, if◌then◌else◌}
use Rattle.std.specs.Str.{bytes_eq}
use Rattle.lt_ids.specs.Key.{IsKey}
use Rattle.lt_checker.specs.Text.{Spot, index_after}

at_first : (key : List ℕ) (n : ℕ) → 0 < length key → 1 ≡ (if bytes_eq key [] then n else 1)
at_first [] n lt = absurd (omega (arith, lt))
at_first (x ∷ xs) n lt = refl

-- The index 1 is due there: no key is the empty one that stands for no line.
pub first_index : (s : Spot) (key : List ℕ) → s.key ≡ [] → IsKey key → 1 ≡ index_after s key
first_index s key none is = subst (λ (k : List ℕ). 1 ≡ (if bytes_eq key k then s.index + 1 else 1)) (sym none) (at_first key (s.index + 1) is.not_empty)
