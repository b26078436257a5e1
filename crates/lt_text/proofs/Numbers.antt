-- A word spells at most one number, and each number has exactly one word.
use Rattle.std.proofs.Common.{◌≡◌, ℕ, zero, suc, ◌+◌, ◌-◌, ◌*◌, ◌^◌, ◌<◌, ◌≤◌, Bool, true, false, cond, List, [], ◌∷◌, length, get_or, take, Some, None, refl, sym, ap, subst, ◌∙◌, arith}
use Rattle.std.specs.Char.{is_ascii_digit, digit_value}
use Rattle.std.specs.Fmt.{decimal}
use Rattle.std.specs.Int.{IsInRange}
use Rattle.std.specs.Str.Parse.{AllDigits, digits_value}
use Rattle.std.proofs.lemmas.Bool.{ltb-true, lt-ltb, and_parts, and_from}
use Rattle.std.proofs.lemmas.Bool.Decides.{nat_tests}
use Rattle.std.proofs.lemmas.Option.{cond_some}
use Rattle.std.proofs.lemmas.Slice.Eq.{bytes_eq-Decides}
use Rattle.std.proofs.lemmas.Fmt.{decimal_is_IsNumeral, decimal_digit, decimal_nonempty, decimal-digits_value, digits_decimal, first_decimal}
use Rattle.std.proofs.lemmas.Int.Digits.{digits_value_more, digits_more as std_digits_more}
use Rattle.std.proofs.lemmas.Str.Parse.{IsNumeralModel, numerals_by_value, tells_digits, digit_at, digits_value-take-le}
use Rattle.lt_text.specs.Number.{decimal_of, IsNoNumber}

numerals : IsNumeralModel (AllDigits 10) (digits_value 10)
numerals = numerals_by_value (AllDigits 10) tells_digits

when_never : (b : Bool) (n : ℕ) → (b ≡ true → ⊥) → None ≡ cond b (Some n) None
when_never true n never = absurd (never refl)
when_never false n never = refl

pub number_of_none : (word : List ℕ) → IsNoNumber word → None ≡ decimal_of word
number_of_none word never =
    when_never _ _ (λ t. let p = and_parts _ _ t in never (digits_value 10 word) (ltb-true _ _ p.0) ((bytes_eq-Decides _ _).0 p.1))

pub decimal_of-decimal : (n : ℕ) → n < 2 ^ 64 → decimal_of (decimal n) ≡ Some n
decimal_of-decimal n lt =
    rw ((decimal_is_IsNumeral n lt).1, and_from _ _ (lt-ltb n (2 ^ 64) lt) ((bytes_eq-Decides (decimal n) (decimal n)).1 refl)) refl

pub number_of_is : (word : List ℕ) (n : ℕ) → decimal_of word ≡ Some n → (n < 2 ^ 64) × (word ≡ decimal n)
number_of_is word n e =
    let c = cond_some _ (digits_value 10 word) n e in
    let p = and_parts _ _ c.0 in
    (rw c.1 at (ltb-true (digits_value 10 word) (2 ^ 64) p.0), (bytes_eq-Decides word (decimal (digits_value 10 word))).0 p.1 ∙ ap decimal c.1)

-- ---- words that spell no number

pub no_word : (word : List ℕ) → length word ≡ 0 → IsNoNumber word
no_word word none n lt e = omega (arith, decimal_nonempty n lt, ap length e)

pub leading_zero : (word : List ℕ) → get_or word 0 0 ≡ 48 → 1 < length word → IsNoNumber word
leading_zero word lead long zero lt e = omega (arith, ap length (e ∙ decimal_digit 0 (omega arith)))
leading_zero word lead long (suc n) lt e = omega (arith, first_decimal (suc n) (omega arith) lt, ap (λ w. get_or w 0 0) e)

pub not_a_digit : (word : List ℕ) (i : ℕ) → i < length word → is_ascii_digit (get_or word i 0) ≡ false → IsNoNumber word
not_a_digit word i inside other n lt e =
    let d : IsInRange 48 57 (get_or word i 0) = digit_at word i (subst (AllDigits 10) (sym e) (digits_decimal numerals n lt)) inside in
    grind (arith, nat_tests)

-- The digits up to this one are worth 2 ^ 64 or more.
pub too_large : (word : List ℕ) (i : ℕ) → 2 ^ 64 ≤ digits_value 10 (take i word) → IsNoNumber word
too_large word i large n lt e = omega (arith, digits_value-take-le 10 word i (omega arith), (decimal_is_IsNumeral n lt).1, ap (digits_value 10) e)

-- ---- words that spell a number

digit_is_worth : (b : ℕ) → is_ascii_digit b ≡ true → digit_value b ≡ b - 48
digit_is_worth b digit = grind (arith, nat_tests)

pub one_more : (word : List ℕ) (i n : ℕ) → i < length word → is_ascii_digit (get_or word i 0) ≡ true → n ≡ digits_value 10 (take i word) → digits_value 10 (take (i + 1) word) ≡ n * 10 + (get_or word i 0 - 48)
one_more word i n inside digit value =
    rw (digits_value_more 10 word i inside, digit_is_worth (get_or word i 0) digit, value)

pub digits_more : (word : List ℕ) (i : ℕ) → i < length word → is_ascii_digit (get_or word i 0) ≡ true → AllDigits 10 (take i word) → AllDigits 10 (take (i + 1) word)
digits_more word i inside digit before =
    let small : digit_value (get_or word i 0) < 10 = grind (arith, nat_tests) in
    std_digits_more 10 word i inside before small

pub number_of_digits : (word : List ℕ) (n : ℕ) → AllDigits 10 word → n ≡ digits_value 10 word → n < 2 ^ 64 → 0 < length word → (get_or word 0 0 ≡ 48 → length word ≡ 1) → Some n ≡ decimal_of word
number_of_digits word n digits value lt some lead =
    let e : decimal n ≡ word = ap decimal value ∙ decimal-digits_value numerals word digits some lead (rw (sym value) lt) in
    sym (ap decimal_of (sym e) ∙ decimal_of-decimal n lt)

-- ---- a number that is written

pub one_digit : (n : ℕ) → n < 10 → decimal n ≡ (48 + n) ∷ []
one_digit n small = decimal_digit n small
