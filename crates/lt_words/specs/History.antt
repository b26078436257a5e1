-- What a list of events says (its steps, its draws and its lets), and which lists are legal table histories. The
-- opening is the first event of a log, and no legal history contains one. So a count over a log equals the count
-- over the history that follows its opening.
use Rattle.std.specs.Prelude.{ℕ, ◌≡◌, ◌+◌, ◌==◌, ◌⊎◌, ◌%◌, Option, List, [], ◌∷◌, ◌++◌, map, if◌then◌else◌}
use Rattle.std.specs.List.{sum}
use Rattle.lt_ids.specs.Ids.{Wait, IsNumber, IsWaitNumber, value_of}
use Rattle.lt_ids.specs.declared.ticket.Through.{Through}
use Rattle.lt_ids.specs.declared.timestamp.Timestamp.{Timestamp}
use Rattle.lt_ids.specs.declared.request.Access.TheVariants.{Read}
use Rattle.lt_rules.specs.declared.call.Call.TheVariants.{Visit}
use Rattle.lt_rules.specs.declared.call.Reply.TheVariants.{Passed, MustWait}
use Rattle.lt_rules.specs.Rules.{Record, empty}
use Rattle.lt_rules.specs.Step.{Event as KeyEvent, step, record_after, Holds, IsBelowOthers}
use Rattle.lt_entry.specs.declared.entry.Entry.{Entry}
use Rattle.lt_entry.specs.Legal.{event_of, AreLegalKeys}
use Rattle.lt_entry.specs.Legal.{key_part}
use Rattle.lt_words.specs.declared.event.Event.{Event}
use Rattle.lt_words.specs.declared.event.Event.TheVariants.{Opened, Draw, Step}

-- the shard of a key: the sum of its bytes modulo the number of shards
abbrev pub shard_of : List ℕ → ℕ → ℕ
shard_of key shards = sum key % shards

-- the steps of all shards, in order
abbrev pub steps_of : List Event → List Entry
steps_of [] = []
steps_of (Opened shards passes keeping ∷ h) = steps_of h
steps_of (Draw pass number ∷ h) = steps_of h
steps_of (Step shard entry ∷ h) = entry ∷ steps_of h

-- the part of one shard: its steps, in order
abbrev pub part : ℕ → List Event → List Entry
part s [] = []
part s (Opened shards passes keeping ∷ h) = part s h
part s (Draw pass number ∷ h) = part s h
part s (Step shard entry ∷ h) = if s == shard then entry ∷ part s h else part s h

-- the number of draws
abbrev pub draws_of : List Event → ℕ
draws_of [] = 0
draws_of (Opened shards passes keeping ∷ h) = draws_of h
draws_of (Draw pass number ∷ h) = draws_of h + 1
draws_of (Step shard entry ∷ h) = draws_of h

-- After n draws, each draw gives the next number. No event is an opening.
abbrev pub DrawsCount : ℕ → List Event → Type 0
DrawsCount n [] = Unit {0}
DrawsCount n (Opened shards passes keeping ∷ h) = ⊥
DrawsCount n (Draw pass number ∷ h) = (number ≡ n + 1) × DrawsCount (n + 1) h
DrawsCount n (Step shard entry ∷ h) = DrawsCount n h

-- Each step is in the shard of its key. No event is an opening.
abbrev pub StepsAreInTheirShards : ℕ → List Event → Type 0
StepsAreInTheirShards shards [] = Unit {0}
StepsAreInTheirShards shards (Opened s p way ∷ h) = ⊥
StepsAreInTheirShards shards (Draw pass number ∷ h) = StepsAreInTheirShards shards h
StepsAreInTheirShards shards (Step shard entry ∷ h) = (shard ≡ shard_of entry.key shards) × StepsAreInTheirShards shards h

-- A legal table history: draws and steps such that each key's steps are legal, each step is in the shard of its
-- key, and the k-th draw gives k.
pub record IsLegalHistory (shards : ℕ) (h : List Event) : Type 0 where
  pub keys : AreLegalKeys (steps_of h)
  pub home : StepsAreInTheirShards shards h
  pub draws : DrawsCount 0 h

-- the record of a key after these steps
abbrev pub key_record : List ℕ → List Entry → Record
key_record key es = record_after empty (map event_of (key_part key es))

-- The entry may come next: its reply and its lets are the ones that the rules give at its key's record.
pub record MayFollow (es : List Entry) (e : Entry) : Type 0 where
  pub reply : e.reply ≡ (step (key_record e.key es) e.pass e.call).reply
  pub lets : e.lets ≡ (step (key_record e.key es) e.pass e.call).lets

-- One of these lets is for this pass and this ticket.
abbrev pub IsLetAmong : List Through → ℕ → Wait → Type 0
IsLetAmong [] p t = ⊥
IsLetAmong (x ∷ xs) p t = ((x.pass ≡ p) × (x.ticket ≡ t)) ⊎ IsLetAmong xs p t

-- Some step lets this ticket of this pass through.
abbrev pub LetIn : List Event → ℕ → Wait → Type 0
LetIn [] p t = ⊥
LetIn (Opened shards passes keeping ∷ h) p t = LetIn h p t
LetIn (Draw pass number ∷ h) p t = LetIn h p t
LetIn (Step shard entry ∷ h) p t = IsLetAmong entry.lets p t ⊎ LetIn h p t

-- This pass drew this number.
abbrev pub DrewIn : List Event → ℕ → ℕ → Type 0
DrewIn [] p n = ⊥
DrewIn (Opened shards passes keeping ∷ h) p n = DrewIn h p n
DrewIn (Draw pass number ∷ h) p n = ((pass ≡ p) × (number ≡ n)) ⊎ DrewIn h p n
DrewIn (Step shard entry ∷ h) p n = DrewIn h p n

-- n is the value of a ticket of this pass that was let through.
pub record ShowsLet (h : List Event) (pass n : ℕ) : Type 0 where
  pub ticket : Wait
  pub number : IsNumber ticket.number
  pub wait : IsWaitNumber ticket.wait
  pub value : n ≡ value_of ticket
  pub through : LetIn h pass ticket

-- n is 0, or the value of a ticket of this pass that was let through.
abbrev pub IsStatus : List Event → ℕ → ℕ → Type 0
IsStatus h pass n = (n ≡ 0) ⊎ ShowsLet h pass n

-- ---- for any list of steps that is legal at each key, such as a shard's part

-- the history of a key among these steps
abbrev pub key_history : List ℕ → List Entry → List KeyEvent
key_history key es = map event_of (key_part key es)

-- After any prefix of a key's history, at most one transaction holds the lock.
abbrev pub OneHolderAtEachKey : Type 0
OneHolderAtEachKey = (es : List Entry) (key : List ℕ) (past rest : List KeyEvent) (T U : ℕ) → AreLegalKeys es →
    key_history key es ≡ past ++ rest → Holds past T → Holds past U → T ≡ U

-- A read passes exactly when each other holder's stamp is above the read's timestamp; otherwise it has to wait.
abbrev pub ReadsPassAtEachKey : Type 0
ReadsPassAtEachKey = (es : List Entry) (key : List ℕ) (past rest : List KeyEvent) (e : KeyEvent) (ticket : Wait) (txn : Option ℕ) (ts : Timestamp) (longest : ℕ) → AreLegalKeys es →
    key_history key es ≡ past ++ e ∷ rest → e.call ≡ Visit ticket txn ts Read longest →
    ((e.reply ≡ Passed) × IsBelowOthers past txn ts) ⊎ ((e.reply ≡ MustWait) × (IsBelowOthers past txn ts → ⊥))
