-- What a line says, how it is written as words, and how it is read from words.
use Rattle.std.specs.Prelude.{ℕ, ◌≡◌, ◌^◌, ◌≤◌, ◌<◌, suc, if◌then◌else◌, List, [], ◌∷◌, ◌++◌, Bool, true, false, Option, Some, None, Result, Ok, Err, decimal, codes}
use Rattle.std.specs.Str.{bytes_eq}
use Rattle.std.specs.List.{join_with_byte, AllByRecursion}
use Rattle.lt_ids.specs.Key.{IsKey, key_fault}
use Rattle.lt_ids.specs.declared.error.IdError.{IdError}
use Rattle.lt_ids.specs.Ids.{Wait}
use Rattle.lt_checker.specs.declared.error.Fault.TheVariants.{Shape}
use Rattle.lt_checker.specs.declared.error.HistoryLineError.{HistoryLineError}
use Rattle.lt_checker.specs.declared.error.HistoryLineError.TheVariants as refusals
use Rattle.lt_checker.specs.declared.line.LineStep.{LineStep}
use Rattle.lt_checker.specs.declared.line.Line.{Line}
use Rattle.lt_text.specs.Maybe.{◌>>=◌}
use Rattle.lt_text.specs.Fields.{number_within, ticket_of}
use Rattle.lt_entry.specs.Ranges.{IsTicket}
use Rattle.lt_text.specs.Calls.{call_words, field_at, call_at}
use Rattle.lt_entry.specs.Ranges.{IsCall}
use Rattle.lt_text.specs.Replies.{reply_words, is_reply_of, reply_at}
use Rattle.lt_text.specs.Lets.{lets_words}
use Rattle.lt_entry.specs.Ranges.{IsReply}
use Rattle.lt_ids.specs.declared.limits.TheConstants.{MAX_PASS}

-- The parts of a line.
pub record Parts : Type 0 where
  pub key : List ℕ
  pub step : LineStep
  pub tickets : List Wait

-- ---- writing

-- The index, the pass, the call, the sign `=` and the reply.
abbrev pub step_words : LineStep → List (List ℕ)
step_words s = decimal s.index ∷ decimal s.pass ∷ call_words s.call ++ codes "=" ∷ reply_words s.reply

-- All words of a line, the key first.
abbrev pub line_words : Parts → List (List ℕ)
line_words p = p.key ∷ step_words p.step ++ lets_words p.tickets

-- The text of a line, with its line end.
unfoldable pub line_text : Parts → List ℕ
line_text p = join_with_byte 32 (line_words p) ++ 10 ∷ []

-- The numbers are in their ranges, and the reply belongs to the call.
pub record IsReadStep (s : LineStep) : Type 0 where
  pub index : (1 ≤ s.index) × (s.index < 2 ^ 64)
  pub pass : (1 ≤ s.pass) × (s.pass ≤ MAX_PASS)
  pub call : IsCall s.call
  pub reply : IsReply s.reply
  pub fits : is_reply_of s.call s.reply ≡ true

-- The parts are those of a line.
pub record IsLine (p : Parts) : Type 0 where
  pub key : IsKey p.key
  pub step : IsReadStep p.step
  pub tickets : AllByRecursion IsTicket p.tickets

-- ---- reading, from left to right

-- If the error is a fault of shape, reading gives nothing. Out of memory says nothing about the words.
abbrev pub IsMisread : {Y : Type 0} → HistoryLineError → Option Y → Type 0
IsMisread refusals.Memory read = Unit {0}
IsMisread (refusals.Fault Shape) read = read ≡ None
IsMisread (refusals.Fault _) read = ⊥

-- What the code has read is, seen through `view`, what reading gives.
abbrev pub IsReadAs : {X Y : Type 0} → (X → Y) → Result X HistoryLineError → Option Y → Type 0
IsReadAs view (Ok x) read = read ≡ Some (view x)
IsReadAs view (Err e) read = IsMisread e read

abbrev pub if_no_fault : Option IdError → List ℕ → Option (List ℕ)
if_no_fault None word = Some word
if_no_fault (Some fault) word = None

abbrev pub key_if_legal : List ℕ → Option (List ℕ)
key_if_legal word = if_no_fault (key_fault word) word

abbrev pub key_at : List (List ℕ) → Option (List ℕ × List (List ℕ))
key_at words = field_at key_if_legal words

unfoldable pub equals_of : List ℕ → Option (Unit {0})
equals_of word = if bytes_eq word (codes "=") then Some tt else None

-- The index of a step and the words after it. A step that is not numbered has none, and 1 stands in its place.
abbrev pub index_at : Bool → List (List ℕ) → Option (ℕ × List (List ℕ))
index_at true words = field_at (number_within 1 (2 ^ 64)) words
index_at false words = Some (1, words)

-- The step that the words spell, numbered or not, and the words after it.
unfoldable pub step_in : Bool → List (List ℕ) → Option (LineStep × List (List ℕ))
step_in is_numbered words = do
  index ← index_at is_numbered words
  pass ← field_at (number_within 1 (suc MAX_PASS)) index.1
  call ← call_at pass.1
  equals ← field_at equals_of call.1
  reply ← reply_at equals.1
  if is_reply_of call.0 reply.0 then Some (record { index = index.0; pass = pass.0; call = call.0; reply = reply.0 }, reply.1) else None

-- The step of a line of histories, which is numbered.
abbrev pub step_at : List (List ℕ) → Option (LineStep × List (List ℕ))
step_at words = step_in true words

abbrev pub tickets_of : List (List ℕ) → Option (List Wait)
tickets_of [] = Some []
tickets_of (word ∷ words) = do
  t ← ticket_of word
  ts ← tickets_of words
  Some (t ∷ ts)

abbrev pub if_any : List Wait → Option (List Wait)
if_any [] = None
if_any (t ∷ ts) = Some (t ∷ ts)

unfoldable pub lets_in_words : List (List ℕ) → Option (List Wait)
lets_in_words [] = Some []
lets_in_words (word ∷ words) = if bytes_eq word (codes "let") then (tickets_of words >>= if_any) else None

unfoldable pub parts_at : List (List ℕ) → Option Parts
parts_at words = do
  key ← key_at words
  step ← step_at key.1
  tickets ← lets_in_words step.1
  Some (record { key = key.0; step = step.0; tickets = tickets })

abbrev pub parts_of : Line → Parts
parts_of l = record { key = l.key; step = l.step; tickets = l.tickets.items }

-- The parts of the line with this key, this step and these tickets.
abbrev pub parts_with : List ℕ → LineStep → List Wait → Parts
parts_with key step tickets = record { key = key; step = step; tickets = tickets }

-- The word is no key. Out of memory says nothing about it.
abbrev pub IsNoKey : List ℕ → HistoryLineError → Type 0
IsNoKey word e = IsMisread e (key_if_legal word)

-- No line has this text. Out of memory says nothing about it.
abbrev pub IsShapeless : HistoryLineError → List ℕ → Type 0
IsShapeless refusals.Memory bytes = Unit {0}
IsShapeless (refusals.Fault Shape) bytes = (p : Parts) → IsLine p → line_text p ≡ bytes ++ 10 ∷ [] → ⊥
IsShapeless (refusals.Fault _) bytes = ⊥
