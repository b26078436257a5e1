-- How the storage of a key represents its bytes, and which storage a key may have.
use Rattle.std.specs.Prelude.{ℕ, ◌≡◌, ◌<◌, ◌≤◌, ◌-◌, ◌++◌, ◌∷◌, [], List, length, take, drop, replicate, if◌then◌else◌, nat_le}
use Rattle.std.specs.List.{AllByRecursion}
use Rattle.lt_ids.specs.declared.key.Bytes.{Bytes}
use Rattle.lt_ids.specs.declared.key.Bytes.TheVariants.{Short, Long}

-- the bytes of the key, without the unused cells after them
abbrev pub bytes_of : Bytes → List ℕ
bytes_of (Short n bytes) = take n bytes
bytes_of (Long n bytes) = take n bytes.value

-- the length is at most the number of cells
abbrev pub AreWithin : Bytes → Type 0
AreWithin (Short n _) = n ≤ 22
AreWithin (Long n _) = n ≤ 64

-- a key has an allocation only if its bytes do not fit inline
abbrev pub NeedTheirRoom : Bytes → Type 0
NeedTheirRoom (Short n bytes) = Unit {0}
NeedTheirRoom (Long n bytes) = 22 < length (take n bytes.value)

-- the unused cells are 0
abbrev pub ArePadded : Bytes → Type 0
ArePadded (Short n bytes) = AllByRecursion (λ b. b ≡ 0) (drop n bytes)
ArePadded (Long n bytes) = AllByRecursion (λ b. b ≡ 0) (drop n bytes.value)

-- The one write of a key's hash: the cells of a short key, which are always 22, or the bytes of a long one.
abbrev pub hash_writes : List ℕ → List (List ℕ)
hash_writes bytes = (if nat_le (length bytes) 22 then bytes ++ replicate (22 - length bytes) 0 else bytes) ∷ []
