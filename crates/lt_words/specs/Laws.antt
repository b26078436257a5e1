-- Laws of table histories. What a pass or a front has seen is a legal history that only grows. So if one of two
-- histories below is a prefix of the other, the shorter one is what was seen at some time, and the longer one is
-- what is seen later.
use Rattle.std.specs.Prelude.{ℕ, ◌≡◌, ◌+◌, ◌<◌, ◌≤◌, Some, List, ◌∷◌, ◌++◌, slice_get}
use Rattle.std.specs.List.{AllByRecursion}
use mathlib.Core.List.{IsPrefix}
use Rattle.lt_ids.specs.Ids.{Wait}
use Rattle.lt_ids.specs.declared.ticket.Through.{Through}
use Rattle.lt_entry.specs.declared.entry.Entry.{Entry}
use Rattle.lt_entry.specs.Legal.{AreLegalKeys}
use Rattle.lt_words.specs.declared.event.Event.{Event}
use Rattle.lt_words.specs.declared.event.Event.TheVariants.{Draw}
use Rattle.lt_words.specs.History.{part, draws_of, shard_of, IsLegalHistory, DrewIn, LetIn, IsStatus}
use Rattle.lt_words.specs.Shown.{word_of, IsShown, AreLet}

-- ---- draws

-- A draw gives one more than the number of draws before it.
abbrev pub DrawsGiveTheNext : Type 0
DrawsGiveTheNext = (shards : ℕ) (past rest : List Event) (pass number : ℕ) → IsLegalHistory shards (past ++ Draw pass number ∷ rest) → number ≡ draws_of past + 1

-- Of two draws the later one gives the greater number.
abbrev pub NumbersRise : Type 0
NumbersRise = (shards : ℕ) (past between rest : List Event) (p m q n : ℕ) → IsLegalHistory shards (past ++ Draw p m ∷ (between ++ Draw q n ∷ rest)) → m < n

-- A number that was drawn is at least 1, and at most the number of draws.
abbrev pub NumbersAreOfDraws : Type 0
NumbersAreOfDraws = (shards : ℕ) (h : List Event) (pass number : ℕ) → IsLegalHistory shards h → DrewIn h pass number → (1 ≤ number) × (number ≤ draws_of h)

-- Two draws of one number are the same draw: by one pass, at one index.
abbrev pub NumbersAreDrawnOnce : Type 0
NumbersAreDrawnOnce = (shards : ℕ) (h past past2 rest rest2 : List Event) (p q number : ℕ) → IsLegalHistory shards h →
    h ≡ past ++ Draw p number ∷ rest → h ≡ past2 ++ Draw q number ∷ rest2 → (p ≡ q) × (past ≡ past2)

-- Each number was drawn by one pass only.
abbrev pub NumbersAreOfOnePass : Type 0
NumbersAreOfOnePass = (shards : ℕ) (h : List Event) (p q number : ℕ) → IsLegalHistory shards h → DrewIn h p number → DrewIn h q number → p ≡ q

-- ---- prefixes

-- A prefix of a legal history is legal.
abbrev pub PrefixesAreLegal : Type 0
PrefixesAreLegal = (shards : ℕ) (g h : List Event) → IsPrefix g h → IsLegalHistory shards h → IsLegalHistory shards g

-- A shard's part of a prefix is a prefix of the shard's part.
abbrev pub PartsBegin : Type 0
PartsBegin = (shard : ℕ) (g h : List Event) → IsPrefix g h → IsPrefix (part shard g) (part shard h)

-- A step keeps its index in its shard's part.
abbrev pub StepsStay : Type 0
StepsStay = (shard : ℕ) (g h : List Event) (at : ℕ) (entry : Entry) → IsPrefix g h → slice_get (part shard g) at ≡ Some entry → slice_get (part shard h) at ≡ Some entry

-- A draw is in every later history.
abbrev pub DrawsStay : Type 0
DrawsStay = (g h : List Event) (pass number : ℕ) → IsPrefix g h → DrewIn g pass number → DrewIn h pass number

-- A let is in every later history.
abbrev pub LetsStay : Type 0
LetsStay = (g h : List Event) (pass : ℕ) (ticket : Wait) → IsPrefix g h → LetIn g pass ticket → LetIn h pass ticket

-- ---- what was shown

-- The status word of a pass never falls.
abbrev pub WordsRise : Type 0
WordsRise = (pass : ℕ) (past later : List Through) → IsPrefix past later → word_of pass past ≤ word_of pass later

-- A ticket that was shown stays shown.
abbrev pub ShownStays : Type 0
ShownStays = (pass : ℕ) (ticket : Wait) (past later : List Through) → IsPrefix past later → IsShown past pass ticket → IsShown later pass ticket

-- A status word is 0 or a ticket of its pass that was let through.
abbrev pub WordsAreLets : Type 0
WordsAreLets = (h : List Event) (pass : ℕ) (shown : List Through) → AreLet h shown → IsStatus h pass (word_of pass shown)

-- ---- parts

-- Each step of a shard's part is at a key of that shard.
abbrev pub AllStepsAreInTheirShards : Type 0
AllStepsAreInTheirShards = (shards shard : ℕ) (h : List Event) → IsLegalHistory shards h → AllByRecursion (λ e. shard ≡ shard_of e.key shards) (part shard h)

-- The steps of each key in a shard's part are a legal history of that key.
abbrev pub PartsAreLegal : Type 0
PartsAreLegal = (shards shard : ℕ) (h : List Event) → IsLegalHistory shards h → AreLegalKeys (part shard h)
