-- The first eight bytes of a key as one number, which decides most comparisons of two keys.
use Rattle.std.specs.Prelude.{ℕ, List, [], ◌∷◌, slice_index_or}
use Rattle.std.specs.Int.{w64, from_be_bytes}

-- The byte at this index, or 0 if the key is shorter.
abbrev pub byte_or_0 : List ℕ → ℕ → ℕ
byte_or_0 key index = slice_index_or key index 0

-- The first eight bytes as one big-endian number.
abbrev pub rank_of : List ℕ → ℕ
rank_of key = from_be_bytes w64 (byte_or_0 key 0 ∷ byte_or_0 key 1 ∷ byte_or_0 key 2 ∷ byte_or_0 key 3 ∷ byte_or_0 key 4 ∷ byte_or_0 key 5 ∷ byte_or_0 key 6 ∷ byte_or_0 key 7 ∷ [])
