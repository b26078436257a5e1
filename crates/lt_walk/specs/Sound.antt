-- What holds of a guard between any two of its events.
use Rattle.std.specs.Prelude.{ℕ, ◌≡◌, ◌<◌, ◌≤◌, ◌^◌, List, length, vec_capacity}
use Rattle.std.specs.Global.{Vec}
use Rattle.lt_ids.specs.Ids.{IsNumber}
use Rattle.lt_ids.specs.declared.request.Access.{Access}
use Rattle.lt_shard.specs.declared.answer.Answer.{Answer}
use Rattle.lt_walk.specs.declared.walk_progress.Mode.TheVariants.{Awaiting, Let, Leaving}
use Rattle.lt_walk.specs.declared.walk_progress.Progress.{Progress}
use Rattle.lt_walk.specs.Machine.{WalkState}

-- The progress fits a list of this many keys, with this many answers.
pub record IsSoundProgress (keys : ℕ) (p : Progress) (answers : ℕ) : Type 0 where
  pub in_list : p.index ≤ keys
  pub in_range : p.waits < 2 ^ 24
  -- a request that waits has a ticket, and waits at a key
  pub has_ticket : p.mode ≡ Awaiting → 1 ≤ p.waits
  pub waits_at_key : p.mode ≡ Awaiting → p.index < keys
  pub let_at_key : p.mode ≡ Let → p.index < keys
  -- the keys that are still to be left have no answer yet
  pub leaves_in_order : p.mode ≡ Leaving → answers ≤ p.index

-- The progress fits the request's keys and answers.
abbrev pub IsSoundWalk : WalkState → Type 0
IsSoundWalk w = IsSoundProgress (length w.asked.keys) w.progress (length w.answers)

-- A request with this number, these keys and these answers is in a state that it can reach, and has room for one
-- answer for each key.
abbrev pub IsSoundRequest : ℕ → List (List ℕ × Access) → Progress → Vec Answer → Type 0
IsSoundRequest number keys progress answers =
    IsNumber number × (length keys < 2 ^ 63) × (length keys ≤ vec_capacity answers)
    × IsSoundProgress (length keys) progress (length answers.items)
