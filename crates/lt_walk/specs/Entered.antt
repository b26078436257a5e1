-- What an enter gives: the guard of the request that entered, or the reason for the refusal and the pass.
use Rattle.std.specs.Prelude.{ℕ, ◌≡◌, ◌≢◌, ◌+◌, ◌<◌, ◌≤◌, Option, List, [], length, false}
use Rattle.lt_ids.specs.declared.request.Access.{Access}
use Rattle.lt_ids.specs.declared.timestamp.Timestamp.{Timestamp}
use Rattle.lt_words.specs.declared.event.Event.TheVariants.{Draw}
use Rattle.lt_words.specs.History.{draws_of}
use Rattle.lt_words.specs.Row.{PassState, SeesMore, Appends}
use Rattle.lt_walk.specs.declared.keys.EnterError.{EnterError}
use Rattle.lt_walk.specs.declared.keys.EnterError.TheVariants.{NoKeys, TooManyKeys, Memory, NumbersOut}
use Rattle.lt_walk.specs.declared.walk_progress.Mode.TheVariants.{Free}
use Rattle.lt_walk.specs.declared.walk_progress.Progress.{Progress}
use Rattle.lt_walk.specs.Keys.{IsKeyList}
use Rattle.lt_walk.specs.Reported.{GuardState}

-- the progress of a request before its first scan
abbrev pub at_start : Progress
at_start = record { index = 0; waits = 0; waited = false; mode = Free }

-- The guard is at the start of the key list of what was given, with the number that its pass has just drawn.
pub record IsEntered (old : PassState) (given : List (List ℕ × Access)) (txn : Option ℕ) (ts : Timestamp) (longest : ℕ) (max_requests : ℕ) (guard : GuardState) : Type 0 where
  pub some : given ≢ []
  pub few : length given ≤ 256
  pub keys : IsKeyList given guard.walk.asked.keys
  pub txn_is : guard.walk.asked.txn ≡ txn
  pub ts_is : guard.walk.asked.ts ≡ ts
  pub longest_is : guard.walk.asked.longest ≡ longest
  pub progress : guard.walk.progress ≡ at_start
  pub answers : guard.walk.answers ≡ []
  pub low : 0 < guard.walk.asked.number
  pub high : guard.walk.asked.number ≤ max_requests
  pub drawn : Appends old.seen (λ h. draws_of h + 1 ≡ guard.walk.asked.number) (Draw old.number guard.walk.asked.number) guard.pass.seen
  pub more : SeesMore old guard.pass

-- Why a request does not enter, and the pass that comes back.
abbrev pub IsRefused : EnterError → PassState → List (List ℕ × Access) → ℕ → PassState → Type 0
IsRefused NoKeys old given max_requests pass = (given ≡ []) × (pass ≡ old)
IsRefused TooManyKeys old given max_requests pass = (256 < length given) × (pass ≡ old)
IsRefused Memory old given max_requests pass = (given ≢ []) × (length given ≤ 256) × (pass ≡ old)
IsRefused NumbersOut old given max_requests pass = (given ≢ []) × (length given ≤ 256) × (max_requests ≤ draws_of pass.seen) × SeesMore old pass
