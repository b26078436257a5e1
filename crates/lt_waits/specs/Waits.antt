-- The waits that a caller was told of, and the wait that its request is in.
use Rattle.std.specs.Prelude.{ℕ, ◌≡◌, ◌<◌, ◌≤◌, ◌⊎◌, ◌++◌, false, Option, Some, List, slice_get}
use Rattle.std.specs.List.{AllByRecursion}
use Rattle.lt_ids.specs.Ids.{Wait}
use Rattle.lt_ids.specs.declared.request.Access.{Access}
use Rattle.lt_ids.specs.declared.timestamp.Timestamp.{Timestamp}
use Rattle.lt_rules.specs.declared.call.Call.TheVariants.{Visit}
use Rattle.lt_rules.specs.declared.call.Reply.TheVariants.{MustWait}
use Rattle.lt_rules.specs.Step.{is_visit}
use Rattle.lt_entry.specs.declared.entry.Entry.{Entry}
use Rattle.lt_words.specs.declared.event.Event.{Event}
use Rattle.lt_words.specs.History.{part, draws_of}
use Rattle.lt_words.specs.Row.{PassState}
use Rattle.lt_walk.specs.Machine.{Step}
use Rattle.lt_walk.specs.Reported.{GuardState, current_wait}
use Rattle.lt_walk.specs.Theorem.{Told, Heard, steps_told}

-- The step told the request that made it to wait, with this ticket.
pub record TellsOfWait (x : Step) (t : Wait) : Type 0 where
  pub txn : Option ℕ
  pub ts : Timestamp
  pub access : Access
  pub longest : ℕ
  pub call : x.call ≡ Visit t txn ts access longest
  pub reply : x.answer.reply ≡ MustWait

-- The first is not a later wait than the second: it is the same one, an earlier one of its request, or one of a request
-- with a smaller number.
abbrev pub IsNoLater : Wait → Wait → Type 0
IsNoLater t u = (t.number < u.number) ⊎ ((t.number ≡ u.number) × (t.wait ≤ u.wait))

-- No wait that these steps told of is later than this one.
abbrev pub AreNoLater : Wait → List Step → Type 0
AreNoLater u steps = AllByRecursion (λ x. (t : Wait) → TellsOfWait x t → IsNoLater t u) steps

-- Of the caller of a pass without a request under way: no request with which it was told to wait has a number above those
-- that were drawn in what the pass has seen.
abbrev pub AreOfDraws : List Told → PassState → Type 0
AreOfDraws told p = AllByRecursion (λ x. (t : Wait) → TellsOfWait x t → t.number ≤ draws_of p.seen) (steps_told told)

-- Of the caller of a request under way: the request's number is not above those that were drawn in what its pass has seen,
-- and no wait that the caller was told of is later than the request's latest, which has the number 0 before the first.
pub record IsInLatestWait (told : List Told) (g : GuardState) : Type 0 where
  pub drawn : g.walk.asked.number ≤ draws_of g.pass.seen
  pub latest : AreNoLater (current_wait g.walk) (steps_told told)

-- None of these steps is a visit.
abbrev pub AreNoVisits : List Step → Type 0
AreNoVisits steps = AllByRecursion (λ x. is_visit x.call ≡ false) steps

-- One of the passes that were handed back came to its end from the state `now`. Its caller was told `after` meanwhile, and
-- `told ++ after` in all. The other lists are those of the other callers.
pub record HadHeard (ps : List PassState) (all : List (List Told)) (told : List Told) (now : PassState) : Type 0 where
  pub index : ℕ
  pub pass : PassState
  pub after : List Told
  pub is_pass : slice_get ps index ≡ Some pass
  pub is_told : slice_get all index ≡ Some (told ++ after)
  pub later : Heard now after pass

-- This pass was told to wait with this ticket, by a step at this index of a shard.
pub record WasToldToWait (shards : ℕ) (h : List Event) (p : ℕ) (t : Wait) : Type 0 where
  pub shard : ℕ
  pub below : shard < shards
  pub index : ℕ
  pub entry : Entry
  pub at : slice_get (part shard h) index ≡ Some entry
  pub pass : entry.pass ≡ p
  pub txn : Option ℕ
  pub ts : Timestamp
  pub access : Access
  pub longest : ℕ
  pub call : entry.call ≡ Visit t txn ts access longest
  pub reply : entry.reply ≡ MustWait
