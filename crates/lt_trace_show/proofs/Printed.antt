-- What is written for each byte is printable, and has no raw sign of markup.
use Rattle.std.proofs.Common.{◌≡◌, ℕ, ◌/◌, Bool, true, false, ◌==◌, if◌then◌else◌, List, [], ◌∷◌, ◌++◌, All, arith, rules, refl}
use Rattle.std.specs.Prelude.{codes}
use Rattle.std.specs.List.{flat_map}
use Rattle.std.proofs.lemmas.Bool.Decides.{nat_tests}
use Rattle.std.proofs.lemmas.List.Elements.{All-append, All-cons, All-nil}
use Rattle.lt_trace_show.specs.Escape.{is_printable, IsPrintable, hex_digit, printable_byte, escaped_byte, IsMarkupFree}

printable_digit : (b : ℕ) → IsPrintable (hex_digit b)
printable_digit b = grind (arith, nat_tests)

-- A backslash, an `x` and two hexadecimal digits.
each_hex : (P : ℕ → Type 0) → P 92 → P 120 → ((b : ℕ) → P (hex_digit b)) → (a b : ℕ) → All P (codes "\\x" ++ hex_digit a ∷ hex_digit b ∷ [])
each_hex P backslash x digit a b =
    All-cons P 92 (120 ∷ hex_digit a ∷ hex_digit b ∷ []) backslash
    (All-cons P 120 (hex_digit a ∷ hex_digit b ∷ []) x (All-cons P (hex_digit a) (hex_digit b ∷ []) (digit a) (All-cons P (hex_digit b) [] (digit b) (All-nil P))))

-- What holds of all that is written for each byte holds of the whole text.
each_of : (P : ℕ → Type 0) (f : ℕ → List ℕ) → ((b : ℕ) → All P (f b)) → (bs : List ℕ) → All P (flat_map f bs)
each_of P f each [] = All-nil P
each_of P f each (b ∷ bs) = All-append P (f b) (flat_map f bs) (each b) (each_of P f each bs)

printable_if : (t : Bool) (b : ℕ) → is_printable b ≡ t → All IsPrintable (if t then (b ∷ []) else (codes "\\x" ++ hex_digit (b / 16) ∷ hex_digit b ∷ []))
printable_if true b h = All-cons IsPrintable b [] h (All-nil IsPrintable)
printable_if false b h = each_hex IsPrintable (search rules) (search rules) printable_digit (b / 16) b

pub printable_each : (b : ℕ) → All IsPrintable (printable_byte b)
printable_each b = printable_if (is_printable b) b refl

pub all_printable : (bs : List ℕ) → All IsPrintable (flat_map printable_byte bs)
all_printable bs = each_of IsPrintable printable_byte printable_each bs

free_digit : (b : ℕ) → IsMarkupFree (hex_digit b)
free_digit b = grind (arith, nat_tests)

free_printable : (t : Bool) (b : ℕ) → is_printable b ≡ t → (b == 60) ≡ false → (b == 62) ≡ false → (b == 34) ≡ false → All IsMarkupFree (if t then (b ∷ []) else (codes "\\x" ++ hex_digit (b / 16) ∷ hex_digit b ∷ []))
free_printable true b h less more quote = All-cons IsMarkupFree b [] (simp (h, less, more, quote)) (All-nil IsMarkupFree)
free_printable false b h less more quote = each_hex IsMarkupFree (search rules) (search rules) free_digit (b / 16) b

free_if : (amp less more quote : Bool) (b : ℕ) → (b == 60) ≡ less → (b == 62) ≡ more → (b == 34) ≡ quote → All IsMarkupFree (if amp then codes "&amp;" else (if less then codes "&lt;" else (if more then codes "&gt;" else (if quote then codes "&quot;" else printable_byte b))))
free_if true _ _ _ b _ _ _ = search rules
free_if false true _ _ b _ _ _ = search rules
free_if false false true _ b _ _ _ = search rules
free_if false false false true b _ _ _ = search rules
free_if false false false false b less more quote = free_printable (is_printable b) b refl less more quote

pub free_each : (b : ℕ) → All IsMarkupFree (escaped_byte b)
free_each b = free_if (b == 38) (b == 60) (b == 62) (b == 34) b refl refl refl

pub all_free : (bs : List ℕ) → All IsMarkupFree (flat_map escaped_byte bs)
all_free bs = each_of IsMarkupFree escaped_byte free_each bs
