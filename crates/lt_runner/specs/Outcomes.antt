-- What a call of a table tells about its pass.
use Rattle.std.specs.Prelude.{ℕ, ◌≡◌, ◌+◌, ◌<◌, ◌≤◌, List, [], ◌∷◌, length, Some, slice_get, slice_index}
use Rattle.std.specs.List.{AllByRecursion}
use mathlib.Core.List.{IsPrefix}
use Rattle.lt_ids.specs.Ids.{Wait}
use Rattle.lt_ids.specs.declared.ticket.Through.{Through}
use Rattle.lt_entry.specs.declared.entry.Entry.{Entry}
use Rattle.lt_words.specs.declared.event.Event.{Event}
use Rattle.lt_words.specs.History.{part, shard_of, draws_of, DrewIn, LetIn, IsStatus}
use Rattle.lt_words.specs.Row.{PassState}
use Rattle.lt_words.specs.Shown.{word_of, AreShown}
use Rattle.lt_walk.specs.Machine.{Step}
use Rattle.lt_walk.specs.Reported.{steps_at}

-- The step is at its index among these entries of its shard, as a step of this pass.
pub record StandsAt (pass : ℕ) (entries : List Entry) (x : Step) : Type 0 where
  pub entry : Entry
  pub key_is : entry.key ≡ x.key
  pub pass_is : entry.pass ≡ pass
  pub call_is : entry.call ≡ x.call
  pub reply_is : entry.reply ≡ x.answer.reply
  pub stands : slice_get entries x.answer.at ≡ Some entry

-- The part of a history that belongs to the step's shard, given the number of shards.
abbrev pub part_of : ℕ → List Event → Step → List Entry
part_of shards h x = part (shard_of x.key shards) h

abbrev pub StandsIn : ℕ → ℕ → List Event → Step → Type 0
StandsIn shards pass h x = StandsAt pass (part_of shards h x) x

-- The step's index is among those that were seen of its shard.
abbrev pub IsSeen : ℕ → List Event → Step → Type 0
IsSeen shards h x = x.answer.at < length (part_of shards h x)

-- The step was seen, and each of its lets was shown.
pub record LetsAreShown (shards : ℕ) (h : List Event) (shown : List Through) (x : Step) : Type 0 where
  pub entry : Entry
  pub stands : slice_get (part_of shards h x) x.answer.at ≡ Some entry
  pub lets_shown : AreShown shown entry.lets

-- The step comes after everything that was seen of its shard.
abbrev pub ComesAfter : ℕ → List Event → Step → Type 0
ComesAfter shards h x = length (part_of shards h x) ≤ x.answer.at

-- If both steps are in one shard, the second has the greater index.
abbrev pub IsBefore : ℕ → Step → Step → Type 0
IsBefore shards x y = shard_of x.key shards ≡ shard_of y.key shards → x.answer.at < y.answer.at

-- Among the steps of one shard, each has a greater index than those before it.
abbrev pub Ascend : ℕ → List Step → Type 0
Ascend shards [] = Unit {0}
Ascend shards (x ∷ xs) = AllByRecursion (IsBefore shards x) xs × Ascend shards xs

abbrev pub IsRising : List ℕ → Type 0
IsRising [] = Unit {0}
IsRising (n ∷ ns) = AllByRecursion (λ m. n < m) ns × IsRising ns

-- This pass drew the number, between the old seen prefix and the new one.
pub record IsDrawn (pass : ℕ) (old new : List Event) (number : ℕ) : Type 0 where
  pub drew : DrewIn new pass number
  pub above : draws_of old < number
  pub within : number ≤ draws_of new

-- The pass made exactly these steps, drew these numbers, and was let through with these tickets, in this order.
-- Each step and each draw is in what the pass has seen afterwards, as its own and after everything that it had seen
-- before. The pass counts that many more steps in each shard, and each ticket was let through in what it has seen.
-- Each let of the steps was shown.
pub record OutcomeTells (old new : PassState) (steps : List Step) (numbers : List ℕ) (lets : List Wait) : Type 0 where
  pub of : new.of ≡ old.of
  pub number : new.number ≡ old.number
  pub seen : IsPrefix old.seen new.seen
  pub stand : AllByRecursion (StandsIn old.of.shards old.number new.seen) steps
  pub after : AllByRecursion (ComesAfter old.of.shards old.seen) steps
  pub ascend : Ascend old.of.shards steps
  pub counted : (s : ℕ) → slice_index new.counts s ≡ slice_index old.counts s + steps_at old.of.shards s steps
  pub drawn : AllByRecursion (IsDrawn old.number old.seen new.seen) numbers
  pub rise : IsRising numbers
  pub let_in : AllByRecursion (LetIn new.seen old.number) lets
  pub shown : IsPrefix old.shown new.shown
  pub lets_shown : AllByRecursion (LetsAreShown old.of.shards new.seen new.shown) steps

-- A pass read this status word before it made the steps: the word is at or above each ticket that had been shown to the
-- pass before, and is 0 or the value of a ticket that was let through in what the pass had seen when it read the word.
pub record Hears (old new : PassState) (steps : List Step) (word : ℕ) : Type 0 where
  pub above : word_of old.number old.shown ≤ word
  pub seen : List Event
  pub status : IsStatus seen old.number word
  pub within : IsPrefix seen new.seen
  pub after : AllByRecursion (ComesAfter old.of.shards seen) steps
