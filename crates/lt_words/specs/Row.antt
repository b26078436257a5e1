-- The row of words of a book, what a pass and a front carry, and what a step tells the pass that made it.
use Rattle.std.specs.Prelude.{ℕ, nat_lt, if◌then◌else◌, ◌≡◌, ◌+◌, ◌<◌, ◌≤◌, List, [], ◌∷◌, ◌++◌, length, slice_index, slice_index_or, slice_set, replicate, map, zero, suc, ◌≢◌, Option, Some, None, slice_get, Bool, MatchBool}
use mathlib.Core.List.{IsPrefix}
use Rattle.std.specs.List.{All}
use Rattle.logbook.specs.Pages.{Book}
use Rattle.lt_ids.specs.Ids.{Wait}
use Rattle.lt_ids.specs.declared.ticket.Through.{Through}
use Rattle.lt_words.specs.declared.event.Event.{Event}
use Rattle.lt_words.specs.declared.event.Event.TheVariants.{Draw, Step}
use Rattle.lt_words.specs.declared.event.Logged.{Logged}
use Rattle.lt_words.specs.declared.keeping.Keeping.{Keeping}
use Rattle.lt_words.specs.declared.keeping.Keeping.TheVariants.{Whole, Streamed, Unrecorded}
use Rattle.lt_words.specs.declared.cache_line.CacheLine.{CacheLine}
use Rattle.lt_words.specs.History.{part, draws_of}
use Rattle.lt_words.specs.Shown.{AreShown}
use Rattle.lt_words.specs.declared.event.Take.{Take}
use Rattle.lt_words.specs.Takes.{taken_of, AppendsTake}
use Rattle.lt_words.specs.Rules.{word_at, shards_in, passes_in, keeping_in, history_of, shown_of, takes_of}
use Rattle.lt_entry.specs.declared.entry.Entry.{Entry}
use Rattle.lt_rules.specs.declared.call.Call.{Call}
use Rattle.lt_rules.specs.declared.call.Reply.{Reply}
use Rattle.lt_ids.specs.declared.limits.TheConstants.{MAX_PASS}

-- the entry with these parts
abbrev pub made : List ℕ → ℕ → Call → Reply → List Through → Entry
made key pass call reply lets = record { key = key; pass = pass; call = call; reply = reply; lets = lets }

-- the numbers of shards and passes that a book may have
pub record AreSizes (shards passes : ℕ) : Type 0 where
  pub some_shards : 0 < shards
  pub few_shards : shards ≤ 64
  pub some_passes : 0 < passes
  pub few_passes : passes ≤ MAX_PASS

-- which book it is, its numbers of shards and passes, and how its table keeps the steps that are made of it
pub record Opening : Type 0 where
  pub book : Book
  pub shards : ℕ
  pub passes : ℕ
  pub keeping : Keeping

-- Each word is the book's word at its index: the number word, 64 step words, 64 take words, and a status word for each
-- pass.
pub record IsWordRow (of : Opening) (lines : List CacheLine) : Type 0 where
  pub sizes : AreSizes of.shards of.passes
  pub many : length lines ≡ of.passes + 129
  pub each : (k : ℕ) (d : CacheLine) → k < length lines → (slice_index_or lines k d).word ≡ word_at of.book k

abbrev pub opening_of : Book → List Logged → Opening
opening_of book log = record { book = book; shards = shards_in log; passes = passes_in log; keeping = keeping_in log }

-- the opening that `Brand` stands for before a book is opened under it
abbrev pub brand_opening : Opening
brand_opening = record { book = record { number = 0; log_name = 0; cells_name = 0 }; shards = 1; passes = 1; keeping = Whole }

-- what a front has seen: its book, a prefix of the book's table history, and the lets that were shown and the steps
-- that were taken out meanwhile
pub record FrontState : Type 0 where
  pub of : Opening
  pub seen : List Event
  pub shown : List Through
  pub takes : List Take

abbrev pub front_state : Book → List Logged → FrontState
front_state book log = record { of = opening_of book log; seen = history_of log; shown = shown_of log; takes = takes_of log }

-- The row is the row of words of the start's book. The start has seen nothing, and the book keeps steps in this way.
abbrev pub IsSoundBook : FrontState → List CacheLine → Keeping → Type 0
IsSoundBook start lines keeping =
    IsWordRow start.of lines × (start.seen ≡ []) × (start.shown ≡ []) × (start.takes ≡ []) × (keeping ≡ start.of.keeping)

-- The book is the same, and the seen prefix only grew.
pub record FrontGrows (old new : FrontState) : Type 0 where
  pub of : new.of ≡ old.of
  pub seen : IsPrefix old.seen new.seen
  pub shown : IsPrefix old.shown new.shown
  pub takes : IsPrefix old.takes new.takes

-- Whom a pass has still to wake for the lets that it showed: for how many lets it has room, so that a waker is called for
-- each; the lets that it has noted for the waker; how often it has noted that a let's caller sleeps; and the lets of which
-- its own caller was not told, so that he wakes whom they name: at the index of each pass's number the ticket of its latest
-- let, or none. A pass whose table wakes everybody itself keeps none, and the list is empty.
pub record WakeUps : Type 0 where
  pub room : ℕ
  pub lets : List Through
  pub sleepers : ℕ
  pub untold : List (Option Wait)

abbrev pub wake_ups : ℕ → List Through → ℕ → List (Option Wait) → WakeUps
wake_ups room lets sleepers untold = record { room = room; lets = lets; sleepers = sleepers; untold = untold }

-- nobody is left to be told of
abbrev pub NoneLeft : List (Option Wait) → Type 0
NoneLeft untold = (pass : ℕ) → slice_index_or untold pass None ≡ None

-- the lets of which the caller was not told, with one more
abbrev pub with_let : List (Option Wait) → Through → List (Option Wait)
with_let untold t = slice_set untold t.pass (Some t.ticket)

-- the same with these lets, in order
abbrev pub with_lets : List (Option Wait) → List Through → List (Option Wait)
with_lets untold [] = untold
with_lets untold (t ∷ ts) = with_lets (with_let untold t) ts

-- The let was noted if there was room for it, its caller may have been noted as one that sleeps, and it is left to be told.
pub record NotesLet (old : WakeUps) (t : Through) (new : WakeUps) : Type 0 where
  pub room : new.room ≡ old.room
  pub untold : new.untold ≡ with_let old.untold t
  pub lets : new.lets ≡ (if nat_lt (length old.lets) old.room then old.lets ++ t ∷ [] else old.lets)
  pub sleepers : old.sleepers ≤ new.sleepers

-- these lets were noted, one after the other
abbrev pub NotesEach : WakeUps → List Through → WakeUps → Type 0
NotesEach old [] new = new ≡ old
NotesEach old (t ∷ ts) new = (mid : WakeUps) × NotesLet old t mid × NotesEach mid ts new

-- what a pass carries: its book, its number, its seen prefix, the lets that were shown and the steps that were taken
-- out meanwhile, how many steps it made at each shard, how many of each shard it took out, and whom it has to wake
pub record PassState : Type 0 where
  pub of : Opening
  pub number : ℕ
  pub seen : List Event
  pub shown : List Through
  pub takes : List Take
  pub counts : List ℕ
  pub taken : List ℕ
  pub wakes : WakeUps

abbrev pub pass_state : ℕ → FrontState → List ℕ → List ℕ → WakeUps → PassState
pass_state number sight counts taken wakes = record { of = sight.of; number = number; seen = sight.seen; shown = sight.shown; takes = sight.takes; counts = counts; taken = taken; wakes = wakes }

-- the pass when nobody is left to be woken
abbrev pub awoken : PassState → PassState
awoken p = record p { wakes = wake_ups p.wakes.room [] 0 p.wakes.untold }

-- The pass has nobody to wake.
abbrev pub OwesNoWakeUp : PassState → Type 0
OwesNoWakeUp p = (p.wakes.lets ≡ []) × (p.wakes.sleepers ≡ 0)

-- The pass is one of the book's. It has seen at least as many steps of each shard as it made there, and at least as many
-- steps taken out as it took.
pub record IsPass (p : PassState) : Type 0 where
  pub low : 0 < p.number
  pub high : p.number ≤ p.of.passes
  pub few : p.number ≤ MAX_PASS
  pub many : length p.counts ≡ p.of.shards
  pub within : (s : ℕ) → slice_index p.counts s ≤ length (part s p.seen)
  pub many_taken : length p.taken ≡ p.of.shards
  pub within_taken : (s : ℕ) → slice_index p.taken s ≤ taken_of s p.takes

-- What is seen afterwards is a history that extends what was seen before and satisfies P, followed by e.
abbrev pub Appends : List Event → (List Event → Type 0) → Event → List Event → Type 0
Appends old P e new = (h : List Event) × IsPrefix old h × P h × (new ≡ h ++ e ∷ [])

-- If the exchange succeeded, e was appended as `Appends` says; otherwise more was seen.
abbrev pub AppendsIf : Bool → List Event → (List Event → Type 0) → Event → List Event → Type 0
AppendsIf succeeded old P e new = MatchBool succeeded (Appends old P e new) (IsPrefix old new)

-- The history has this many steps of the shard.
abbrev pub HasSteps : ℕ → ℕ → List Event → Type 0
HasSteps shard count = λ h. length (part shard h) ≡ count

-- The pass drew n, which is 1 to max, as the next number.
abbrev pub IsNextDraw : List Event → ℕ → ℕ → ℕ → List Event → Type 0
IsNextDraw old pass max n new = (0 < n) × (n ≤ max) × Appends old (λ h. draws_of h + 1 ≡ n) (Draw pass n) new

-- What is seen afterwards is a history, followed by the step. The history extends what the pass and the front had
-- seen, and its steps of the shard are those that the front had seen.
abbrev pub AppendsStep : List Event → List Event → ℕ → Entry → List Event → Type 0
AppendsStep pass front shard entry new =
    (h : List Event) × IsPrefix pass h × IsPrefix front h × (part shard h ≡ part shard front)
    × (new ≡ h ++ Step shard entry ∷ [])

-- The pass and the front have seen the same log of the same book.
pub record IsSight (pass : PassState) (front : FrontState) : Type 0 where
  pub of : front.of ≡ pass.of
  pub seen : front.seen ≡ pass.seen
  pub shown : front.shown ≡ pass.shown
  pub takes : front.takes ≡ pass.takes

-- The pass made a step: it was appended to a history that extends what the pass and the front had seen, and in which the
-- shard's steps are those that the front had seen. Afterwards both have seen the same.
pub record Commits (pass : PassState) (front : FrontState) (shard : ℕ) (entry : Entry) (pass' : PassState) (front' : FrontState) : Type 0 where
  pub same : IsSight pass' front'
  pub front_grows : FrontGrows front front'
  pub step : AppendsStep pass.seen front.seen shard entry pass'.seen
  pub stored : part shard front'.seen ≡ part shard front.seen ++ entry ∷ []
  pub shown : IsPrefix pass.shown pass'.shown
  pub takes : IsPrefix pass.takes pass'.takes
  pub counted : pass'.counts ≡ slice_set pass.counts shard (slice_index pass.counts shard + 1)
  pub taken : pass'.taken ≡ pass.taken
  pub wakes : pass'.wakes ≡ pass.wakes
  pub of : pass'.of ≡ pass.of
  pub number : pass'.number ≡ pass.number

-- Nothing changed except the seen prefix, which only grew.
pub record SeesMore (old new : PassState) : Type 0 where
  pub of : new.of ≡ old.of
  pub number : new.number ≡ old.number
  pub counts : new.counts ≡ old.counts
  pub taken : new.taken ≡ old.taken
  pub wakes : new.wakes ≡ old.wakes
  pub seen : IsPrefix old.seen new.seen
  pub shown : IsPrefix old.shown new.shown
  pub takes : IsPrefix old.takes new.takes

-- The pass made no step, and what it has seen only grew. It may have taken steps out.
pub record MakesNoStep (old new : PassState) : Type 0 where
  pub of : new.of ≡ old.of
  pub number : new.number ≡ old.number
  pub counts : new.counts ≡ old.counts
  pub seen : IsPrefix old.seen new.seen
  pub shown : IsPrefix old.shown new.shown
  pub takes : IsPrefix old.takes new.takes

-- a pass that has seen nothing, made no step and taken none out
abbrev pub fresh : Opening → ℕ → PassState
fresh of number = record { of = of; number = number; seen = []; shown = []; takes = []; counts = replicate of.shards 0; taken = replicate of.shards 0; wakes = wake_ups 0 [] 0 [] }

-- the pass, but for the wake-ups that it has room for or has still to make
abbrev pub quiet : PassState → PassState
quiet p = record p { wakes = wake_ups 0 [] 0 [] }

-- the passes of a new book, numbered from 1
abbrev pub fresh_passes : Opening → ℕ → List PassState
fresh_passes of zero = []
fresh_passes of (suc n) = fresh_passes of n ++ fresh of (suc n) ∷ []

-- What a step tells its caller. A call of a table that makes one step can pass it on unchanged. Between the states
-- old and new the pass made this step: the entry names the pass, and it is at this index of the shard's part of
-- what the pass has then seen, after everything that the pass had seen before. Each of its lets was shown to the
-- pass that waits, and is left to be told if the pass keeps lets for its caller. The pass counts one more step at this
-- shard, and no more at any other.
pub record Reports (old new : PassState) (shard at : ℕ) (entry : Entry) : Type 0 where
  pub own : entry.pass ≡ old.number
  pub stands : slice_get (part shard new.seen) at ≡ Some entry
  pub later : length (part shard old.seen) ≤ at
  pub seen : IsPrefix old.seen new.seen
  pub shown : IsPrefix old.shown new.shown
  pub takes : IsPrefix old.takes new.takes
  pub lets_shown : AreShown new.shown entry.lets
  pub untold : new.wakes.untold ≡ with_lets old.wakes.untold entry.lets
  pub counted : slice_index new.counts shard ≡ slice_index old.counts shard + 1
  pub others : (s : ℕ) → s ≢ shard → slice_index new.counts s ≡ slice_index old.counts s
  pub taken : new.taken ≡ old.taken
  pub of : new.of ≡ old.of
  pub number : new.number ≡ old.number

-- Between the states old and new the pass took these many steps out of the shard. The take stands in what the pass has
-- then seen, after everything that the pass had seen before, and before it `from` steps of the shard had been taken out.
-- The pass counts them, and none of any other shard.
pub record TakesOut (old new : PassState) (shard from many : ℕ) : Type 0 where
  pub took : AppendsTake old.takes from (record { pass = old.number; shard = shard; many = many }) new.takes
  pub counted : slice_index new.taken shard ≡ slice_index old.taken shard + many
  pub others : (s : ℕ) → s ≢ shard → slice_index new.taken s ≡ slice_index old.taken s
  pub seen : IsPrefix old.seen new.seen
  pub shown : IsPrefix old.shown new.shown
  pub counts : new.counts ≡ old.counts
  pub wakes : new.wakes ≡ old.wakes
  pub of : new.of ≡ old.of
  pub number : new.number ≡ old.number

-- In what the pass has seen, this many steps of the shard are gone, the first ones. A streamed table stores the steps
-- that were not taken out, and an unrecorded one stores none.
abbrev pub AreGone : Keeping → PassState → ℕ → ℕ → Type 0
AreGone Whole p shard n = n ≡ 0
AreGone Streamed p shard n = n ≡ taken_of shard p.takes
AreGone Unrecorded p shard n = n ≡ length (part shard p.seen)

-- They are the passes of a new book, whether or not they have room to note lets for a waker.
abbrev pub AreFresh : Opening → ℕ → List PassState → Type 0
AreFresh of n ps = map quiet ps ≡ map quiet (fresh_passes of n)

-- Each of them has room to note this many lets of one step, and has nobody to wake.
abbrev pub AreNoting : ℕ → List PassState → Type 0
AreNoting room ps = All (λ p. (room ≤ p.wakes.room) × OwesNoWakeUp p) ps

-- Each of them keeps the lets of its steps for its caller, has none yet, and has nobody to wake.
abbrev pub AreTelling : List PassState → Type 0
AreTelling ps = All (λ p. (p.wakes.untold ≡ replicate (p.of.passes + 1) None) × OwesNoWakeUp p) ps
