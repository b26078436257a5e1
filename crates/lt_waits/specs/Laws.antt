-- What a caller may conclude about the wait that its request is in.
use Rattle.std.specs.Prelude.{ℕ, ◌≡◌, ◌≢◌, ◌<◌, ◌++◌, Option, Err, Result, List, [], ◌∷◌, map}
use mathlib.Core.List.{IsPrefix}
use Rattle.lt_ids.specs.Ids.{Wait}
use Rattle.lt_ids.specs.declared.request.Access.{Access}
use Rattle.lt_ids.specs.declared.timestamp.Timestamp.{Timestamp}
use Rattle.lt_words.specs.declared.event.Event.{Event}
use Rattle.lt_words.specs.History.{IsLegalHistory, IsLetAmong, LetIn}
use Rattle.lt_words.specs.Shown.{IsShown}
use Rattle.lt_words.specs.Row.{Opening, PassState, MakesNoStep}
use Rattle.lt_shard.specs.declared.answer.Answer.{Answer}
use Rattle.lt_walk.specs.declared.walk_progress.Mode.TheVariants.{Awaiting}
use Rattle.lt_walk.specs.declared.scan_results.Scan.{Scan}
use Rattle.lt_walk.specs.declared.scan_results.ScanError.{ScanError}
use Rattle.lt_walk.specs.declared.scan_results.ScanError.TheVariants.{StillWaiting}
use Rattle.lt_walk.specs.declared.scan_results.Poll.{Poll}
use Rattle.lt_walk.specs.declared.scan_results.Poll.TheVariants.{Through}
use Rattle.lt_walk.specs.Machine.{Step}
use Rattle.lt_walk.specs.Reported.{Reported, AreReported, GuardState, IsScan, IsPoll, AllLeft, StoppedLeaving, current_wait}
use Rattle.lt_walk.specs.Entered.{IsEntered}
use Rattle.lt_walk.specs.Laws.{LaterLet}
use Rattle.lt_walk.specs.Theorem.{Told, Heard, AreHeard, ShardHistories, IsEnd}
use Rattle.lt_walk.specs.Theorem.Told.{Made, WasLet}
use Rattle.lt_waits.specs.Waits.{AreOfDraws, IsInLatestWait, AreNoVisits, HadHeard, WasToldToWait}

-- Who is let through in a legal history had been told to wait, with the same ticket and as the same pass. Premise: there
-- is a shard.
abbrev pub LetWasToldToWait : Type 0
LetWasToldToWait = (shards : ℕ) (h : List Event) (p : ℕ) (t : Wait) → 0 < shards → IsLegalHistory shards h → LetIn h p t → WasToldToWait shards h p t

-- ---- how a caller comes to the premises

-- Since a moment nothing was told yet.
abbrev pub LaterBegins : Type 0
LaterBegins = (p : PassState) → Heard p [] p

-- Who was told nothing was told of no wait.
abbrev pub NothingToldIsOfDraws : Type 0
NothingToldIsOfDraws = (p : PassState) → AreOfDraws [] p

-- `AreOfDraws` still holds after a call by which the pass makes no step, after steps that are not visits, and after the
-- caller hears that a request was let through.
abbrev pub NoWaitIsToldWithoutRequest : Type 0
NoWaitIsToldWithoutRequest = (told : List Told) (p q : PassState) → AreOfDraws told p →
    (MakesNoStep p q → AreOfDraws told q)
    × ((steps : List Step) → AreReported p steps q → AreNoVisits steps → AreOfDraws (told ++ map Made steps) q)
    × ((t : Wait) → AreOfDraws (told ++ WasLet t ∷ []) p)

-- A request that has entered is in the latest wait, before its first.
abbrev pub EnteredIsInLatestWait : Type 0
EnteredIsInLatestWait = (told : List Told) (old : PassState) (given : List (List ℕ × Access)) (txn : Option ℕ) (ts : Timestamp) (longest max_requests : ℕ) (guard : GuardState) →
    AreOfDraws told old → IsEntered old given txn ts longest max_requests guard → IsInLatestWait told guard

-- `IsInLatestWait` still holds after a scan, whatever it answers; after a poll or a wait; after steps that are not visits;
-- after a call by which the pass makes no step; after a leave that was refused; and after the caller hears of a let.
abbrev pub LatestWaitStaysLatest : Type 0
LatestWaitStaysLatest = (told : List Told) (old new : GuardState) → IsInLatestWait told old →
    ((max_waits : ℕ) (result : Result Scan ScanError) (scan : IsScan max_waits old new result) → IsInLatestWait (told ++ map Made scan.steps) new)
    × ((result : Poll) → IsPoll old new result → IsInLatestWait told new)
    × ((steps : List Step) → AreReported old.pass steps new.pass → AreNoVisits steps → new.walk ≡ old.walk → IsInLatestWait (told ++ map Made steps) new)
    × (MakesNoStep old.pass new.pass → new.walk ≡ old.walk → IsInLatestWait told new)
    × ((stopped : StoppedLeaving old new) → IsInLatestWait (told ++ map Made stopped.steps) new)
    × ((t : Wait) → IsInLatestWait (told ++ WasLet t ∷ []) old)

-- After a leave that is done, `AreOfDraws` holds for the pass that it gives back.
abbrev pub LeftIsOfDraws : Type 0
LeftIsOfDraws = (told : List Told) (old : GuardState) (pass : PassState) (answers : List Answer) → IsInLatestWait told old →
    (left : AllLeft old pass answers) → AreOfDraws (told ++ map Made left.steps) pass

-- ---- the conclusions

-- A table was closed. One of its passes had been in the state `now`, and a request in the latest wait that its caller had been
-- told of. Then no later wait of this pass was let through in what it had seen.
abbrev pub NoLaterWaitIsLet : Type 0
NoLaterWaitIsLet = (of : Opening) (ps : List PassState) (finals : ShardHistories of) (all : List (List Told)) (told : List Told) (g : GuardState) (now : PassState) →
    0 < of.shards → IsEnd of ps finals → AreHeard of all ps → HadHeard ps all told now → IsInLatestWait told g →
    LaterLet now.seen now.number (current_wait g.walk) → ⊥

-- Then a request that waits, and whose pass had seen that this very wait was shown to it, hears so from its next poll.
abbrev pub ShownIsAlwaysThrough : Type 0
ShownIsAlwaysThrough = (of : Opening) (ps : List PassState) (finals : ShardHistories of) (all : List (List Told)) (told : List Told) (old new : GuardState) (result : Poll) →
    0 < of.shards → IsEnd of ps finals → AreHeard of all ps → HadHeard ps all told new.pass → IsInLatestWait told old →
    IsPoll old new result → old.walk.progress.mode ≡ Awaiting → IsShown old.pass.shown old.pass.number (current_wait old.walk) →
    result ≡ Through

-- And its next scan goes on.
abbrev pub ShownAlwaysGoesOn : Type 0
ShownAlwaysGoesOn = (of : Opening) (ps : List PassState) (finals : ShardHistories of) (all : List (List Told)) (told : List Told) (old new : GuardState) (max_waits : ℕ) (result : Result Scan ScanError) →
    (scan : IsScan max_waits old new result) → 0 < of.shards → IsEnd of ps finals → AreHeard of all ps → HadHeard ps all (told ++ map Made scan.steps) new.pass → IsInLatestWait told old →
    old.walk.progress.mode ≡ Awaiting → IsShown old.pass.shown old.pass.number (current_wait old.walk) →
    result ≢ Err StillWaiting

-- No wake-up is ever lost: if any reported step lets through the very wait that a request is in, and the request's pass has
-- seen what was shown to the pass that made the step, the request's next poll answers Through.
abbrev pub NoWakeUpIsEverLost : Type 0
NoWakeUpIsEverLost = (of : Opening) (ps : List PassState) (finals : ShardHistories of) (all : List (List Told)) (told : List Told) (before after : PassState) (x : Step) (old new : GuardState) (result : Poll) →
    0 < of.shards → IsEnd of ps finals → AreHeard of all ps → HadHeard ps all told new.pass → IsInLatestWait told old →
    (step : Reported before after x) → IsLetAmong step.entry.lets old.pass.number (current_wait old.walk) → IsPrefix after.shown old.pass.shown →
    old.walk.progress.mode ≡ Awaiting → IsPoll old new result →
    result ≡ Through
