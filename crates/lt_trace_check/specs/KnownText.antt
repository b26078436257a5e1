-- What a read at an offset gives of a text whose bytes are known.
use Rattle.std.specs.Prelude.{ℕ, ◌≡◌, ◌+◌, ◌<◌, List, length, take, drop, Option, Result, IfOk}
use Rattle.std.specs.Io.KnownBytes.{Consumes, IsAtEnd}
use Rattle.std.specs.Option.{option_map}

-- The known bytes from this offset on.
abbrev pub known_from : Option (List ℕ) → ℕ → Option (List ℕ)
known_from known offset = option_map (drop offset) known

-- The read gave the n bytes that stand there, none only at the end or if there was no room.
abbrev pub GivesAt : Option (List ℕ) → ℕ → List ℕ → ℕ → Type 0
GivesAt known offset buf n =
    Consumes (known_from known offset) (known_from known (offset + n)) (take n buf) × (n ≡ 0 → 0 < length buf → IsAtEnd (known_from known offset))

-- A read at this offset left this in its buffer.
abbrev pub ReadsAt : {E : Type 0} → Option (List ℕ) → ℕ → Result ℕ E → List ℕ → Type 0
ReadsAt known offset result buf = IfOk result (GivesAt known offset buf)
