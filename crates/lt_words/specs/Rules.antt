-- The log of a book, the rule that ties the book's words to it, and what each access of a word tells its caller.
use Rattle.std.specs.Prelude.{ℕ, ◌≡◌, ◌≢◌, ◌+◌, ◌-◌, ◌==◌, ◌<◌, ◌≤◌, true, List, [], ◌∷◌, ◌++◌, length, MatchBool}
use mathlib.Core.List.{IsPrefix}
use Rattle.logbook.specs.Pages.{Cell, cell, Step as Turn, View, Book, Named}
use Rattle.lt_ids.specs.declared.ticket.Through.{Through}
use Rattle.lt_words.specs.declared.event.Event.{Event}
use Rattle.lt_words.specs.declared.event.Event.TheVariants.{Opened, Draw, Step}
use Rattle.lt_words.specs.declared.event.Logged.{Logged}
use Rattle.lt_words.specs.declared.event.Logged.TheVariants.{Happened, Shown, Took}
use Rattle.lt_words.specs.declared.event.Take.{Take}
use Rattle.lt_words.specs.declared.keeping.Keeping.{Keeping}
use Rattle.lt_words.specs.declared.keeping.Keeping.TheVariants.{Whole}
use Rattle.lt_words.specs.History.{part, draws_of, IsLegalHistory, IsStatus}
use Rattle.lt_words.specs.Shown.{word_of, AreShown, AreLet}
use Rattle.lt_words.specs.Takes.{taken_of}

-- the events of a log, in order
abbrev pub events_of : List Logged → List Event
events_of [] = []
events_of (Happened e ∷ log) = e ∷ events_of log
events_of (Shown t ∷ log) = events_of log
events_of (Took t ∷ log) = events_of log

-- the lets that a log has shown, in order
abbrev pub shown_of : List Logged → List Through
shown_of [] = []
shown_of (Happened e ∷ log) = shown_of log
shown_of (Shown t ∷ log) = t ∷ shown_of log
shown_of (Took t ∷ log) = shown_of log

-- the takes of a log, in order
abbrev pub takes_of : List Logged → List Take
takes_of [] = []
takes_of (Happened e ∷ log) = takes_of log
takes_of (Shown t ∷ log) = takes_of log
takes_of (Took t ∷ log) = t ∷ takes_of log

abbrev pub after_first : List Event → List Event
after_first [] = []
after_first (e ∷ h) = h

-- the table history of a log: its events after the opening
abbrev pub history_of : List Logged → List Event
history_of log = after_first (events_of log)

-- what the opening of a log names
abbrev pub shards_first : List Event → ℕ
shards_first [] = 0
shards_first (Opened shards passes keeping ∷ h) = shards
shards_first (Draw pass number ∷ h) = 0
shards_first (Step shard entry ∷ h) = 0

abbrev pub passes_first : List Event → ℕ
passes_first [] = 0
passes_first (Opened shards passes keeping ∷ h) = passes
passes_first (Draw pass number ∷ h) = 0
passes_first (Step shard entry ∷ h) = 0

abbrev pub keeping_first : List Event → Keeping
keeping_first [] = Whole
keeping_first (Opened shards passes keeping ∷ h) = keeping
keeping_first (Draw pass number ∷ h) = Whole
keeping_first (Step shard entry ∷ h) = Whole

abbrev pub shards_in : List Logged → ℕ
shards_in log = shards_first (events_of log)

abbrev pub passes_in : List Logged → ℕ
passes_in log = passes_first (events_of log)

abbrev pub keeping_in : List Logged → Keeping
keeping_in log = keeping_first (events_of log)

-- A log of a book: its opening, then a legal history; and each let that it has shown was let through.
pub record IsOpenLog (log : List Logged) : Type 0 where
  pub opened : events_of log ≡ Opened (shards_in log) (passes_in log) (keeping_in log) ∷ history_of log
  pub legal : IsLegalHistory (shards_in log) (history_of log)
  pub let_through : AreLet (history_of log) (shown_of log)

-- the index of each word in the row; passes are numbered from 1
abbrev pub number_word : ℕ
number_word = 0

abbrev pub step_word : ℕ → ℕ
step_word shard = shard + 1

abbrev pub take_word : ℕ → ℕ
take_word shard = shard + 65

abbrev pub status_word : ℕ → ℕ
status_word pass = pass + 128

-- The rule: between any two accesses the words agree with the log.
pub record WordsMatchLog (cells : List Cell) (log : List Logged) : Type 0 where
  -- the log is a book's log: its history is legal, and each let that it has shown was let through
  pub is_open : IsOpenLog log
  pub many : length cells ≡ passes_in log + 129
  pub home : (k : ℕ) → k < length cells → (cell cells k).1 ≡ true
  -- the number word is the number of draws
  pub number : (cell cells number_word).0 ≡ draws_of (history_of log)
  -- a shard's step word is the number of that shard's steps
  pub steps : (s : ℕ) → s < 64 → (cell cells (step_word s)).0 ≡ length (part s (history_of log))
  -- a shard's take word is the number of that shard's steps that were taken out
  pub takes : (s : ℕ) → s < 64 → (cell cells (take_word s)).0 ≡ taken_of s (takes_of log)
  -- a pass's status word is the highest ticket that was shown to it
  pub status : (p : ℕ) → 0 < p → p ≤ passes_in log → (cell cells (status_word p)).0 ≡ word_of p (shown_of log)

-- the word of the book at this index
abbrev pub word_at : Book → ℕ → Named
word_at b k = record { tracked = true; key = k; book = b }

-- A load of the number word gives the number of draws in the history then seen.
abbrev pub DrawnGives : Turn Logged → View Logged ℕ → ℕ → View Logged ℕ → Type 0
DrawnGives s v found w = IsOpenLog w.0 × (found ≡ draws_of (history_of w.0))

-- A load of a status word gives 0, or the highest ticket that was shown to its pass, which was let through.
abbrev pub ReadGives : Turn Logged → View Logged ℕ → ℕ → View Logged ℕ → Type 0
ReadGives s v found w = IsOpenLog w.0 × (found ≡ word_of (s.key - 128) (shown_of w.0)) × IsStatus (history_of w.0) (s.key - 128) found

-- An exchange that found the expected word has appended its event to a history that extends what was seen before
-- and that has the expected count. Any other exchange only sees more of the log.
abbrev pub Adds : (List Event → ℕ) → Turn Logged → View Logged ℕ → ℕ → View Logged ℕ → Type 0
Adds counted s v found w =
    IsOpenLog w.0
    × MatchBool (found == s.old)
    ((h : List Event) × IsPrefix (history_of v.0) h × (counted h ≡ s.old) × (history_of w.0 ≡ h ++ events_of (s.ask ∷ [])))
    (IsPrefix (history_of v.0) (history_of w.0))

-- An exchange of the number word that found another number saw a log with another number of draws.
abbrev pub DrawGives : Turn Logged → View Logged ℕ → ℕ → View Logged ℕ → Type 0
DrawGives s v found w = Adds draws_of s v found w × MatchBool (found == s.old) (Unit {0}) (draws_of (history_of w.0) ≢ s.old)

-- the shard of the step that an exchange asks to append
abbrev pub shard_first : List Event → ℕ
shard_first [] = 0
shard_first (Opened shards passes keeping ∷ h) = 0
shard_first (Draw pass number ∷ h) = 0
shard_first (Step shard entry ∷ h) = shard

abbrev pub asked_shard : Logged → ℕ
asked_shard ask = shard_first (events_of (ask ∷ []))

abbrev pub CommitGives : Turn Logged → View Logged ℕ → ℕ → View Logged ℕ → Type 0
CommitGives s v found w = Adds (λ h. length (part (asked_shard s.ask) h)) s v found w

-- An exchange of a step word from n to n: if the word was as expected, the shard has exactly n steps in the log
-- then seen.
abbrev pub ExactGives : Turn Logged → View Logged ℕ → ℕ → View Logged ℕ → Type 0
ExactGives s v found w = IsOpenLog w.0 × MatchBool (found == s.old) (length (part (s.key - 1) (history_of w.0)) ≡ s.old) (Unit {0})

-- An exchange of a status word: if the word was as expected, the let is shown in the log then seen. Otherwise the word
-- is another one there.
abbrev pub SignalGives : Turn Logged → View Logged ℕ → ℕ → View Logged ℕ → Type 0
SignalGives s v found w = IsOpenLog w.0 × MatchBool (found == s.old) (AreShown (shown_of w.0) (shown_of (s.ask ∷ []))) (word_of (s.key - 128) (shown_of w.0) ≢ s.old)

-- An exchange of a take word from n to n + k: if the word was as expected, the take was appended to a log in which n
-- steps of the shard had been taken out.
abbrev pub TakeGives : Turn Logged → View Logged ℕ → ℕ → View Logged ℕ → Type 0
TakeGives s v found w =
    IsOpenLog w.0
    × MatchBool (found == s.old)
    ((ts : List Take) × IsPrefix (takes_of v.0) ts × (taken_of (s.key - 65) ts ≡ s.old) × (takes_of w.0 ≡ ts ++ takes_of (s.ask ∷ [])))
    (Unit {0})

-- An exchange of a take word from n to n: if the word was as expected, exactly n steps of the shard were taken out in
-- the log then seen.
abbrev pub TakenGives : Turn Logged → View Logged ℕ → ℕ → View Logged ℕ → Type 0
TakenGives s v found w = IsOpenLog w.0 × MatchBool (found == s.old) (taken_of (s.key - 65) (takes_of w.0) ≡ s.old) (Unit {0})
