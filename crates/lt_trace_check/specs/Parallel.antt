-- What the check of a piece says, and that of a prefix which grows by pieces.
use Rattle.std.specs.Prelude.{ℕ, ◌≡◌, List, [], ◌++◌, Option, IfSome}
use Rattle.std.specs.Io.KnownBytes.{Consumes}
use Rattle.lt_checker.specs.declared.pieces.Checker.{Checker}
use Rattle.lt_checker.specs.Pieces.{IsCountable, HasTaken}
use Rattle.lt_checker.specs.Version.{IsVersion, header_of}
use Rattle.lt_trace_check.specs.declared.parallel.CheckedPiece.{CheckedPiece}
use Rattle.lt_trace_check.specs.declared.parallel.CheckedPrefix.{CheckedPrefix}
use Rattle.lt_trace_check.specs.Audit.{IsReading}
use Rattle.lt_trace_check.specs.KnownText.{known_from}

-- The checker goes on from the old one by these lines.
abbrev pub GoesOnBy : Checker → List ℕ → Checker → Type 0
GoesOnBy old lines new = (before : List ℕ) → HasTaken old before → IsCountable (before ++ lines) → HasTaken new (before ++ lines)

-- The checker has taken lines of the source, and these bytes are pending.
pub record IsTaking (source now : Option (List ℕ)) (old new : Checker) (pending : List ℕ) : Type 0 where
  pub lines : List ℕ
  pub goes_on : GoesOnBy old lines new
  pub taken : Consumes source now (lines ++ pending)

-- The checker has taken all lines of the source. If the bytes of the source are known, the lines are those bytes.
pub record TakesAll (source : Option (List ℕ)) (old new : Checker) : Type 0 where
  pub lines : List ℕ
  pub is_all : IfSome source (λ all. lines ≡ all)
  pub goes_on : GoesOnBy old lines new

-- The lines between the two offsets of the text are legal after a first line of this version, and the checker has taken
-- them.
pub record IsCheckedPiece (known : Option (List ℕ)) (version : ℕ) (p : CheckedPiece) : Type 0 where
  pub is_version : IsVersion version
  pub lines : List ℕ
  pub stands : Consumes (known_from known p.from) (known_from known p.to) lines
  pub has_taken : IsCountable (header_of version ++ lines) → HasTaken p.checker (header_of version ++ lines)

-- The checker has taken the text before the offset.
pub record IsCheckedPrefix (known : Option (List ℕ)) (p : CheckedPrefix) : Type 0 where
  pub is_version : IsVersion p.version
  pub reading : IsReading known (known_from known p.to) p.checker []

-- If the first one is a checked prefix of the text, so is the second one.
abbrev pub KeepsPrefix : Option (List ℕ) → CheckedPrefix → CheckedPrefix → Type 0
KeepsPrefix known old new = IsCheckedPrefix known old → IsCheckedPrefix known new
