-- What is appended to a vector of bytes, and what a failed write leaves in its writer.
use Rattle.std.specs.Prelude.{ℕ, ◌≡◌, List, ◌++◌, Option}
use Rattle.std.specs.Io.KnownBytes.{Appends}
use Rattle.lt_entry.specs.declared.entry.Entry.{Entry}
use Rattle.lt_writer.specs.declared.output.PrintError.{PrintError}
use Rattle.lt_writer.specs.declared.output.PrintError.TheVariants.{Write}
use Rattle.lt_checker.specs.Histories.{IsTextOf}

-- The text of these entries, and nothing else, was appended to the bytes.
pub record PutsText (old new : List ℕ) (es : List Entry) : Type 0 where
  pub text : List ℕ
  pub is_text : IsTextOf text es
  pub joined : new ≡ old ++ text

-- Every text of these entries is the one that was appended to the bytes.
abbrev pub PutsOnlyText : List ℕ → List ℕ → List Entry → Type 0
PutsOnlyText old new es = (other : List ℕ) → IsTextOf other es → new ≡ old ++ other

-- The writer has received a prefix of the text.
pub record AppendsPrefix (old new : Option (List ℕ)) (text : List ℕ) : Type 0 where
  pub prefix : List ℕ
  pub rest : List ℕ
  pub joined : text ≡ prefix ++ rest
  pub appended : Appends old new prefix

-- A write failed, and the writer has received a prefix of the text.
abbrev pub IsWriteFailure : PrintError → Option (List ℕ) → Option (List ℕ) → List ℕ → Type 0
IsWriteFailure e old new text = (e ≡ Write) × AppendsPrefix old new text
