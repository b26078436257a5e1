-- What the workers hand to the close of a table, and what the close gives.
use Rattle.std.specs.Prelude.{ℕ, ◌≡◌, ◌<◌, ◌≤◌, ◌+◌, List, [], ◌∷◌, ◌++◌, length, map, Contains, vec_capacity}
use Rattle.std.specs.Global.{Vec}
use Rattle.std.specs.List.{AllByRecursion}
use mathlib.Core.List.{IsPrefix}
use Rattle.lt_words.specs.declared.event.Event.{Event}
use Rattle.lt_words.specs.History.{part, IsLegalHistory}
use Rattle.lt_words.specs.Row.{PassState}
use Rattle.lt_walk.specs.Closed.{counts_at}
use Rattle.lt_walk.specs.Reported.{GuardState}
use Rattle.lt_runner.specs.declared.session.Session.{Session}
use Rattle.lt_runner.specs.declared.session.Session.TheVariants.{Free, Open}
use Rattle.lt_runner.specs.declared.outcome.Finish.{Finish}
use Rattle.lt_runner.specs.declared.outcome.Finish.TheVariants.{Done, TurnsOut}
use Rattle.lt_runner.specs.declared.outcome.Work.{Work}
use Rattle.lt_runner.specs.Sessions.{session_pass}
use Rattle.lt_runner.specs.Standing.{Finals, final_of}

-- The pass of each worker is handed over.
abbrev pub AreHanded : List PassState → List Work → Type 0
AreHanded ps ws = AllByRecursion (λ w. Contains ps (session_pass w.session)) ws

-- In each shard, these passes made as many steps as the workers' passes.
abbrev pub CountAlike : List PassState → List Work → Type 0
CountAlike ps ws = (s : ℕ) → counts_at s ps ≡ counts_at s (map (λ w. session_pass w.session) ws)

-- The session's pass was appended to the passes, or its guard to the guards.
abbrev pub IsPut : Session → List PassState → List GuardState → List PassState → List GuardState → Type 0
IsPut (Free p) passes guards more_passes more_guards = (more_passes ≡ passes ++ p ∷ []) × (more_guards ≡ guards)
IsPut (Open g) passes guards more_passes more_guards = (more_passes ≡ passes) × (more_guards ≡ guards ++ g ∷ [])

-- The vector keeps its room, and gains at most one item.
abbrev pub GainsAtMostOne : {A : Type 0} → Vec A → Vec A → Type 0
GainsAtMostOne old new = (vec_capacity new ≡ vec_capacity old) × (length new.items ≤ length old.items + 1)

-- How two passes ended together: done only if both are done.
abbrev pub join : Finish → Finish → Finish
join Done f = f
join TurnsOut f = TurnsOut

-- Done, if every pass is done.
abbrev pub finish_all : List Finish → Finish
finish_all [] = Done
finish_all (f ∷ fs) = join f (finish_all fs)

-- What a pass has seen is a prefix of the one history, and its part of each shard is a prefix of that shard's
-- history.
pub record IsWithin (shards : ℕ) (h : List Event) (finals : Finals) (p : PassState) : Type 0 where
  pub seen : IsPrefix p.seen h
  pub parts : (s : ℕ) → s < shards → IsPrefix (part s p.seen) (final_of finals s)

-- What the passes have seen are prefixes of one legal history, and of the final histories of the shards.
pub record AreInFinalHistories (shards : ℕ) (finals : Finals) (ws : List Work) : Type 0 where
  pub some : 0 < shards
  pub whole : List Event
  pub legal : IsLegalHistory shards whole
  pub within : AllByRecursion (λ w. IsWithin shards whole finals (session_pass w.session)) ws
