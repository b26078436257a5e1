-- The words inside a line: how each is written, and the value that each spells.
use Rattle.std.specs.Prelude.{ℕ, ◌^◌, ◌==◌, Bool, ◌&&◌, nat_lt, nat_le, if◌then◌else◌, List, [], ◌∷◌, ◌++◌, take, drop, Option, Some, None, decimal, codes}
use Rattle.std.specs.Str.{bytes_eq}
use Rattle.lt_ids.specs.Ids.{Wait}
use Rattle.lt_ids.specs.declared.timestamp.Timestamp.{Timestamp}
use Rattle.lt_ids.specs.declared.request.Access.{Access}
use Rattle.lt_ids.specs.declared.request.Access.TheVariants.{Read, Write}
use Rattle.lt_text.specs.Maybe.{◌>>=◌}
use Rattle.lt_text.specs.Words.{cut_of}
use Rattle.lt_text.specs.Number.{decimal_of}

-- ---- writing

-- two numbers with a dot between them
abbrev pub pair_word : ℕ → ℕ → List ℕ
pair_word m n = decimal m ++ 46 ∷ decimal n

abbrev pub ticket_word : Wait → List ℕ
ticket_word t = pair_word t.number t.wait

abbrev pub time_word : Timestamp → List ℕ
time_word ts = pair_word ts.wall ts.logical

abbrev pub access_word : Access → List ℕ
access_word Read = codes "r"
access_word Write = codes "w"

-- the transaction, or `-` for none
abbrev pub owner_word : Option ℕ → List ℕ
owner_word None = codes "-"
owner_word (Some txn) = decimal txn

-- the word of a bound on the number of writers that the request joins
abbrev pub bound_word : ℕ → List ℕ
bound_word longest = codes "max=" ++ decimal longest

-- the word of a bound, or no word for 0, which means no bound
abbrev pub bound_words : ℕ → List (List ℕ)
bound_words longest = if longest == 0 then [] else (bound_word longest ∷ [])

-- ---- reading

-- the number that the word spells, if it is at least low and below limit
abbrev pub number_within : ℕ → ℕ → List ℕ → Option ℕ
number_within low limit word = do
  n ← decimal_of word
  if nat_le low n && nat_lt n limit then Some n else None

-- the numbers before and after the first dot
abbrev pub pair_of : List ℕ → Option (ℕ × ℕ)
pair_of word = do
  parts ← cut_of 46 word
  m ← decimal_of parts.0
  n ← decimal_of parts.1
  Some (m, n)

unfoldable pub ticket_of : List ℕ → Option Wait
ticket_of word = do
  t ← pair_of word
  if nat_le 1 t.0 && nat_lt t.0 (2 ^ 40) && nat_le 1 t.1 && nat_lt t.1 (2 ^ 24) then Some (record { number = t.0; wait = t.1 }) else None

unfoldable pub time_of : List ℕ → Option Timestamp
time_of word = do
  ts ← pair_of word
  if nat_lt ts.1 (2 ^ 32) then Some (record { wall = ts.0; logical = ts.1 }) else None

unfoldable pub access_of : List ℕ → Option Access
access_of word = if bytes_eq word (codes "r") then Some Read else (if bytes_eq word (codes "w") then Some Write else None)

-- no transaction for `-`, or the transaction with the number that the word spells
unfoldable pub owner_of : List ℕ → Option (Option ℕ)
owner_of word =
    if bytes_eq word (codes "-") then Some None
    else (number_within 1 (2 ^ 64) word >>= λ txn. Some (Some txn))

-- The word begins as a bound does.
abbrev pub is_bound : List ℕ → Bool
is_bound word = bytes_eq (take 4 word) (codes "max=")

-- the bound that the word spells, which is at least 1, since no bound is written as no word
unfoldable pub bound_of : List ℕ → Option ℕ
bound_of word = if is_bound word then number_within 1 (2 ^ 32) (drop 4 word) else None
