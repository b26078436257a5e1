-- The decimal texts of the options' numbers.
use Rattle.std.proofs.Common.{◌≡◌, ◌⊎◌, ℕ, ◌^◌, ◌+◌, ◌<◌, ◌≤◌, Bool, true, false, cond, List, [], ◌∷◌, Option, Some, None, inl, inr, refl, sym, ap, ◌∙◌, get_or, arith}
use Rattle.std.specs.Prelude.{nat_le, ◌&&◌}
use Rattle.std.specs.Fmt.{decimal}
use Rattle.std.proofs.lemmas.Bool.{lt-ltb, le-leb, leb-true, ne_eqb, and_from, and_parts}
use Rattle.std.proofs.lemmas.Slice.Eq.{bytes_eq-Decides}
use Rattle.std.proofs.lemmas.Fmt.{decimal_is_IsNumeral, decimal_digit, first_decimal}
use Rattle.lt_text.specs.Number.{decimal_of}
use Rattle.lockrun_words.specs.Options.{number_or, within}
use Rattle.lockrun_words.specs.Words.{IsOutOfRange, is_option}

decimal_of-decimal : (n : ℕ) → n < 2 ^ 64 → decimal_of (decimal n) ≡ Some n
decimal_of-decimal n lt =
    rw ((decimal_is_IsNumeral n lt).1, and_from _ _ (lt-ltb n (2 ^ 64) lt) ((bytes_eq-Decides (decimal n) (decimal n)).1 refl)) refl

no_hyphen : (word : List ℕ) → 48 < get_or word 0 0 → is_option word ≡ false
no_hyphen [] h = refl
no_hyphen (b ∷ rest) h = ne_eqb b 45 (λ e. omega (arith, h, e))

-- The decimal text of a number has no hyphen.
pub plain_decimal : (n most : ℕ) → 1 ≤ n → n ≤ most → most < 2 ^ 64 → is_option (decimal n) ≡ false
plain_decimal n most some few small = no_hyphen (decimal n) (first_decimal n (omega arith) (omega arith))

within-some : (most n : ℕ) → 1 ≤ n → n ≤ most → within most (Some n) ≡ Some n
within-some most n some few = rw (and_from _ _ (le-leb 1 n some) (le-leb n most few)) refl

pub in_range : (default most n : ℕ) → 1 ≤ n → n ≤ most → most < 2 ^ 64 → number_or default most (Some (decimal n)) ≡ Some n
in_range default most n some few small = rw (decimal_of-decimal n (omega arith)) (within-some most n some few)

pub digit_in_range : (default most n : ℕ) → 1 ≤ n → n ≤ most → n < 10 → most < 2 ^ 64 → number_or default most (Some ((48 + n) ∷ [])) ≡ Some n
digit_in_range default most n some few digit small = ap (λ (w : List ℕ). number_or default most (Some w)) (sym (decimal_digit n digit)) ∙ in_range default most n some few small

beyond : (most n : ℕ) → (n ≡ 0) ⊎ (most < n) → (nat_le 1 n && nat_le n most) ≡ true → ⊥
beyond most n (inl e) t = let low : 1 ≤ n = leb-true 1 n (and_parts (nat_le 1 n) (nat_le n most) t).0 in omega (arith, e, low)
beyond most n (inr e) t = let high : n ≤ most = leb-true n most (and_parts (nat_le 1 n) (nat_le n most) t).1 in omega (arith, e, high)

when_never : (b : Bool) (n : ℕ) → (b ≡ true → ⊥) → cond b (Some n) None ≡ None
when_never true n never = absurd (never refl)
when_never false n never = refl

none_within : (most : ℕ) (o : Option ℕ) → ((n : ℕ) → o ≡ Some n → (n ≡ 0) ⊎ (most < n)) → within most o ≡ None
none_within most None beside = refl
none_within most (Some n) beside = when_never _ n (beyond most n (beside n refl))

pub out_of_range : (default most : ℕ) (word : List ℕ) → IsOutOfRange word most → number_or default most (Some word) ≡ None
out_of_range default most word beside = none_within most (decimal_of word) beside
