-- The versions of the text. In the first version every visit has a transaction and no bound, and no visit is
-- answered that the queue is too long; histories are legal by the rules of that version.
use Rattle.std.specs.Prelude.{ℕ, ◌≡◌, ◌⊎◌, ◌==◌, ◌&&◌, Bool, true, false, not, if◌then◌else◌, List, codes}
use Rattle.lt_rules.specs.declared.call.Call.{Call}
use Rattle.lt_rules.specs.declared.call.Reply.{Reply}
use Rattle.lt_rules.specs.declared.call.Reply.TheVariants.{TooLong}
use Rattle.lt_rules.specs.Step.{Event, IsLegal}
use Rattle.lt_checker.specs.First as first

abbrev pub IsVersion : ℕ → Type 0
IsVersion version = (version ≡ 1) ⊎ (version ≡ 2)

abbrev pub is_first : ℕ → Bool
is_first version = version == 1

-- The first line of a text.
abbrev pub header_of : ℕ → List ℕ
header_of version = if is_first version then codes "locks 1\n" else codes "locks 2\n"

abbrev pub is_too_long_reply : Reply → Bool
is_too_long_reply TooLong = true
is_too_long_reply _ = false

-- A call and a reply that can occur in a text of the version.
abbrev pub is_of_version : ℕ → Call → Reply → Bool
is_of_version version call reply = if is_first version then first.is_of_first call && not (is_too_long_reply reply) else true

-- Legal by the rules of the first version, or by those of the second.
abbrev pub IsLegalOf : Bool → List Event → Type 0
IsLegalOf true es = first.IsLegalFirst es
IsLegalOf false es = IsLegal es
