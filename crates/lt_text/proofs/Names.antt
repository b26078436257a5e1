-- A word and a name are compared byte by byte.
use Rattle.std.proofs.Common.{◌≡◌, ℕ, Bool, true, false, List, length, take, refl, sym, ap, ◌∙◌, ◌<◌, arith}
use Rattle.std.specs.Prelude.{codes}
use Rattle.std.specs.Str.{bytes_eq}
use Rattle.std.proofs.Math.Seq.{take-length}
use Rattle.std.proofs.lemmas.List.{length-take}
use Rattle.lt_text.specs.Fields.{is_bound}
use Rattle.std.proofs.lemmas.Slice.Eq.{bytes_eq-Decides}

pub when_not : (b : Bool) → (b ≡ true → ⊥) → b ≡ false
when_not true never = absurd (never refl)
when_not false never = refl

pub same_bytes : (word name : List ℕ) → length word ≡ length name → take (length name) word ≡ take (length name) name → bytes_eq word name ≡ true
same_bytes word name long same =
    (bytes_eq-Decides word name).1 (sym (ap (λ n. take n word) (sym long) ∙ take-length word) ∙ (same ∙ take-length name))

-- A word of fewer than four bytes does not begin as a bound does.
pub too_short : (word : List ℕ) → length word < 4 → false ≡ is_bound word
too_short word short = sym (when_not _ (λ t. omega (arith, ap length ((bytes_eq-Decides (take 4 word) (codes "max=")).0 t), length-take 4 word)))
