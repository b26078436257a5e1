-- The main theorem: what the callers of a table were told, beside the histories that its close tells of. It holds of
-- both closes, and whichever way the table keeps its steps.
use Rattle.std.specs.Prelude.{ℕ, ◌≡◌, ◌≢◌, ◌<◌, ◌≤◌, ◌⊎◌, ◌++◌, Option, Some, Result, List, [], ◌∷◌, length, map, slice_get, slice_index_or}
use Rattle.std.specs.Global.{Vec}
use Rattle.std.specs.List.{AllByRecursion}
use mathlib.Core.List.{IsPrefix}
use Rattle.lt_ids.specs.Ids.{Wait}
use Rattle.lt_ids.specs.declared.ticket.Through.{Through}
use Rattle.lt_ids.specs.declared.timestamp.Timestamp.{Timestamp}
use Rattle.lt_ids.specs.declared.request.Access.TheVariants.{Read}
use Rattle.lt_rules.specs.declared.call.Call.TheVariants.{Visit}
use Rattle.lt_rules.specs.declared.call.Reply.TheVariants.{Passed, MustWait}
use Rattle.lt_rules.specs.Step.{Event as KeyEvent, Holds, IsBelowOthers}
use Rattle.lt_entry.specs.declared.entry.Entry.{Entry}
use Rattle.lt_words.specs.declared.event.Event.{Event}
use Rattle.lt_words.specs.History.{part, shard_of, key_history, IsLegalHistory, LetIn}
use Rattle.lt_words.specs.Shown.{AreShown, AreLet}
use Rattle.lt_words.specs.Row.{Opening, PassState, MakesNoStep, AreFresh, fresh}
use Rattle.lt_shard.specs.declared.holding.Rest.{Rest}
use Rattle.lt_walk.specs.declared.scan_results.Scan.{Scan}
use Rattle.lt_walk.specs.declared.scan_results.ScanError.{ScanError}
use Rattle.lt_walk.specs.declared.scan_results.Poll.{Poll}
use Rattle.lt_walk.specs.declared.scan_results.Poll.TheVariants as polls
use Rattle.lt_walk.specs.Machine.{Step}
use Rattle.lt_walk.specs.Reported.{shard_at, Reported, AreReported, GuardState, SeesLet, IsScan, IsPoll, current_wait}
use Rattle.lt_walk.specs.Closed.{IsFinal, IsClosed, IsClosedRest}
use Rattle.lt_walk.specs.Laws.{at_index_of}

-- What a call told the caller of a pass: a key step that it made, or that the request in this wait was let through.
pub data Told : Type 0 where
  Made : Step → Told
  WasLet : Wait → Told

-- What the caller of a pass was told, in order. In between the pass makes no step: it sees more, or takes stored steps
-- out.
abbrev pub Heard : PassState → List Told → PassState → Type 0
Heard p [] q = MakesNoStep p q
Heard p (Made x ∷ told) q = (m : PassState) × (n : PassState) × MakesNoStep p m × Reported m n x × Heard n told q
Heard p (WasLet t ∷ told) q = (n : PassState) × MakesNoStep p n × LetIn n.seen n.number t × Heard n told q

-- These are all passes of a table, with different numbers, and what their callers were told since the table was opened.
abbrev pub AreHeard : Opening → List (List Told) → List PassState → Type 0
AreHeard of [] [] = Unit {0}
AreHeard of [] (p ∷ ps) = ⊥
AreHeard of (told ∷ all) [] = ⊥
AreHeard of (told ∷ all) (p ∷ ps) = Heard (fresh of p.number) told p × AllByRecursion (λ q. p.number ≢ q.number) ps × AreHeard of all ps

-- the key steps that a caller was told of
abbrev pub steps_told : List Told → List Step
steps_told [] = []
steps_told (Made x ∷ told) = x ∷ steps_told told
steps_told (WasLet t ∷ told) = steps_told told

-- one history for each shard
abbrev pub ShardHistories : Opening → Type 0
ShardHistories of = (s : ℕ) → s < of.shards → List Entry

-- What a close of a table tells, whichever close it is: a final history of each shard; one legal history of all shards,
-- which extends what each pass had seen; and one list of the lets that were shown, which extends what each had seen
-- shown.
pub record IsEnd (of : Opening) (ps : List PassState) (finals : ShardHistories of) : Type 0 where
  pub whole : List Event
  pub legal : IsLegalHistory of.shards whole
  pub seen : AllByRecursion (λ p. IsPrefix p.seen whole) ps
  pub whole_shown : List Through
  pub let_through : AreLet whole whole_shown
  pub shown : AllByRecursion (λ p. IsPrefix p.shown whole_shown) ps
  pub each : (s : ℕ) (here : s < of.shards) → IsFinal of ps whole s (finals s here)
  pub lets_shown : (s : ℕ) (here : s < of.shards) → AllByRecursion (λ e. AreShown whole_shown e.lets) (finals s here)

-- The step is at its index in the final history of its key's shard: the entry there has its key, its pass, its call and
-- its reply.
pub record IsInFinal (of : Opening) (finals : ShardHistories of) (number : ℕ) (x : Step) : Type 0 where
  pub entry : Entry
  pub key : entry.key ≡ x.key
  pub pass : entry.pass ≡ number
  pub call : entry.call ≡ x.call
  pub reply : entry.reply ≡ x.answer.reply
  pub at : (here : shard_of x.key of.shards < of.shards) → slice_get (finals (shard_of x.key of.shards) here) x.answer.at ≡ Some entry

-- The step comes after all steps of its shard that its pass had seen before.
abbrev pub FollowsSeen : PassState → Step → Type 0
FollowsSeen before x = length (part (shard_at before x) before.seen) ≤ x.answer.at

-- P holds of each key step that the caller was told of, with the pass as it was just before; Q holds of each wait that he
-- was told to be let through.
abbrev pub AllTold : (PassState → Step → Type 0) → (Wait → Type 0) → (p : PassState) (told : List Told) (q : PassState) → Heard p told q → Type 0
AllTold P Q p [] q h = Unit {0}
AllTold P Q p (Made x ∷ told) q h = P h.0 x × AllTold P Q h.1 told q h.4
AllTold P Q p (WasLet t ∷ told) q h = Q t × AllTold P Q h.0 told q h.3

-- the same of each caller, whose pass has this number
abbrev pub AllHeard : (ℕ → PassState → Step → Type 0) → (ℕ → Wait → Type 0) → (of : Opening) (all : List (List Told)) (ps : List PassState) → AreHeard of all ps → Type 0
AllHeard P Q of [] [] h = Unit {0}
AllHeard P Q of [] (p ∷ ps) h = Unit {0}
AllHeard P Q of (told ∷ all) [] h = Unit {0}
AllHeard P Q of (told ∷ all) (p ∷ ps) h = AllTold (P p.number) (Q p.number) (fresh of p.number) told p h.0 × AllHeard P Q of all ps h.2

pub record MainTheorem (of : Opening) (ps : List PassState) (finals : ShardHistories of) (end : IsEnd of ps finals) (all : List (List Told)) (heard : AreHeard of all ps) : Type 0 where
  -- each step of each final history was told to one caller, and to him once
  pub once : (s at : ℕ) (here : s < of.shards) → at < length (finals s here) → at_index_of of.shards s at (map steps_told all) ≡ 1
  -- each step that a caller was told of stands there
  pub stands : AllHeard (λ number before x. IsInFinal of finals number x) (λ number t. Unit {0}) of all ps heard
  -- and after all steps of its shard that its pass had seen
  pub after : AllHeard (λ number before x. FollowsSeen before x) (λ number t. Unit {0}) of all ps heard
  -- each request that a caller was told to be let through was let through, by a step of the one history
  pub let_through : AllHeard (λ number before x. Unit {0}) (λ number t. LetIn end.whole number t) of all ps heard
  -- each let of the final histories was shown to the pass that waited
  pub shown : (s : ℕ) (here : s < of.shards) → AllByRecursion (λ e. AreShown end.whole_shown e.lets) (finals s here)
  -- no two transactions hold a key's lock at the same point of its history
  pub one_holder : (s : ℕ) (here : s < of.shards) (key : List ℕ) (past rest : List KeyEvent) (T U : ℕ) →
      key_history key (finals s here) ≡ past ++ rest → Holds past T → Holds past U → T ≡ U
  -- a read passes exactly when each other holder's stamp is above its timestamp, and else has to wait
  pub reads_below : (s : ℕ) (here : s < of.shards) (key : List ℕ) (past rest : List KeyEvent) (e : KeyEvent) (ticket : Wait) (txn : Option ℕ) (ts : Timestamp) (longest : ℕ) →
      key_history key (finals s here) ≡ past ++ e ∷ rest → e.call ≡ Visit ticket txn ts Read longest →
      ((e.reply ≡ Passed) × IsBelowOthers past txn ts) ⊎ ((e.reply ≡ MustWait) × (IsBelowOthers past txn ts → ⊥))

-- whatever the callers of a table were told until it was closed
abbrev pub TheMainTheorem : Type 0
TheMainTheorem = (of : Opening) (ps : List PassState) (finals : ShardHistories of) (end : IsEnd of ps finals) (all : List (List Told)) (heard : AreHeard of all ps) → MainTheorem of ps finals end all heard

-- ---- the same while the table is open

-- The same of what callers have been told so far, if a legal history extends what each of their passes has seen: such is
-- what a pass has seen that has learned from all of them. The final history of a shard is its part of that history.
pub record TheoremSoFar (of : Opening) (ps : List PassState) (h : List Event) (all : List (List Told)) (heard : AreHeard of all ps) : Type 0 where
  -- no index of a shard was told twice, to one caller or to two
  pub once : (s at : ℕ) → at_index_of of.shards s at (map steps_told all) ≤ 1
  pub stands : AllHeard (λ number before x. IsInFinal of (λ s here. part s h) number x) (λ number t. Unit {0}) of all ps heard
  pub after : AllHeard (λ number before x. FollowsSeen before x) (λ number t. Unit {0}) of all ps heard
  pub let_through : AllHeard (λ number before x. Unit {0}) (λ number t. LetIn h number t) of all ps heard
  pub one_holder : (s : ℕ) (key : List ℕ) (past rest : List KeyEvent) (T U : ℕ) →
      key_history key (part s h) ≡ past ++ rest → Holds past T → Holds past U → T ≡ U
  pub reads_below : (s : ℕ) (key : List ℕ) (past rest : List KeyEvent) (e : KeyEvent) (ticket : Wait) (txn : Option ℕ) (ts : Timestamp) (longest : ℕ) →
      key_history key (part s h) ≡ past ++ e ∷ rest → e.call ≡ Visit ticket txn ts Read longest →
      ((e.reply ≡ Passed) × IsBelowOthers past txn ts) ⊎ ((e.reply ≡ MustWait) × (IsBelowOthers past txn ts → ⊥))

abbrev pub TheTheoremSoFar : Type 0
TheTheoremSoFar = (of : Opening) (ps : List PassState) (h : List Event) (all : List (List Told)) (heard : AreHeard of all ps) →
    IsLegalHistory of.shards h → AllByRecursion (λ p. IsPrefix p.seen h) ps → TheoremSoFar of ps h all heard

-- ---- how a caller comes to its premises

-- The passes of a table have heard nothing when it is opened.
abbrev pub FreshHaveHeardNothing : Type 0
FreshHaveHeardNothing = (of : Opening) (n : ℕ) (ps : List PassState) → AreFresh of n ps → AreHeard of (map (λ p. []) ps) ps

-- Each call extends what the caller was told: it makes no step, or it tells of steps, or it tells that the request was let
-- through.
abbrev pub HearingGoesOn : Type 0
HearingGoesOn = (p q r : PassState) (told : List Told) → Heard p told q →
    (MakesNoStep q r → Heard p told r)
    × ((steps : List Step) → AreReported q steps r → Heard p (told ++ map Made steps) r)
    × ((t : Wait) → MakesNoStep q r → LetIn r.seen r.number t → Heard p (told ++ WasLet t ∷ []) r)

-- what a poll or a wait tells the caller of a request in this wait
abbrev pub told_by_poll : Poll → Wait → List Told
told_by_poll polls.Through t = WasLet t ∷ []
told_by_poll _ t = []

-- A poll, a wait and a scan extend what the caller was told, by what they answered. What each asks for is a clause of the
-- call: `through` of a poll and of a wait; `went_on` or `was_let` of a scan that went on after a let.
abbrev pub ThroughIsTold : Type 0
ThroughIsTold = (p : PassState) (told : List Told) (old new : GuardState) → Heard p told old.pass →
    ((result : Poll) → IsPoll old new result → (result ≡ polls.Through → SeesLet new.pass new.walk) → Heard p (told ++ told_by_poll result (current_wait old.walk)) new.pass)
    × ((max_waits : ℕ) (result : Result Scan ScanError) (scan : IsScan max_waits old new result) → Heard p (told ++ map Made scan.steps) new.pass)
    × ((max_waits : ℕ) (result : Result Scan ScanError) (scan : IsScan max_waits old new result) → SeesLet new.pass old.walk → Heard p (told ++ map Made scan.steps ++ WasLet (current_wait old.walk) ∷ []) new.pass)

-- Both closes tell such an end.
abbrev pub CloseIsEnd : Type 0
CloseIsEnd = (of : Opening) (ps : List PassState) (shards : List (Vec Entry)) (draws : ℕ) (d : Vec Entry) → IsClosed of ps shards draws →
    IsEnd of ps (λ s here. (slice_index_or shards s d).items)

abbrev pub RestIsEnd : Type 0
RestIsEnd = (of : Opening) (ps : List PassState) (rests : List Rest) (draws : ℕ) (d : Rest) (closed : IsClosedRest of ps rests draws) →
    IsEnd of ps (λ s here. (closed.each s d here).all)
