-- How bytes are written for a terminal, and as text of SVG and HTML.
use Rattle.std.specs.Prelude.{ℕ, Bool, ◌+◌, ◌/◌, ◌%◌, ◌-◌, ◌&&◌, ◌==◌, not, nat_le, nat_lt, if◌then◌else◌, List, [], ◌∷◌, ◌++◌, IsTrue, codes}

-- printable ASCII or a space
abbrev pub is_printable : ℕ → Bool
is_printable b = nat_le 32 b && nat_le b 126

abbrev pub IsPrintable : ℕ → Type 0
IsPrintable b = IsTrue (is_printable b)

-- the hexadecimal digit of the byte's lower four bits, uppercase
abbrev pub hex_digit : ℕ → ℕ
hex_digit b = if nat_lt (b % 16) 10 then 48 + b % 16 else 65 + (b % 16 - 10)

-- the byte, or `\xHH` if it is not printable
abbrev pub printable_byte : ℕ → List ℕ
printable_byte b = if is_printable b then b ∷ [] else codes "\\x" ++ hex_digit (b / 16) ∷ hex_digit b ∷ []

-- the byte by its name, if it has a meaning in SVG and HTML
abbrev pub escaped_byte : ℕ → List ℕ
escaped_byte b =
    if b == 38 then codes "&amp;"
    else if b == 60 then codes "&lt;"
    else if b == 62 then codes "&gt;"
    else if b == 34 then codes "&quot;"
    else printable_byte b

-- printable, and none of < > and "
abbrev pub IsMarkupFree : ℕ → Type 0
IsMarkupFree b = IsTrue (is_printable b && (not (b == 60) && (not (b == 62) && not (b == 34))))
