-- A request that waited for a lock, and whose poll heard of the let. So the laws of this crate speak of something.
use Rattle.std.specs.Prelude.{ℕ, ◌≡◌, ◌<◌, true, Some, List, [], ◌∷◌}
use mathlib.Core.List.{IsPrefix}
use Rattle.lt_ids.specs.Ids.{Wait}
use Rattle.lt_ids.specs.declared.ticket.Through.{Through as Letting}
use Rattle.lt_ids.specs.declared.timestamp.Timestamp.{Timestamp}
use Rattle.lt_ids.specs.declared.request.Access.TheVariants.{Write}
use Rattle.lt_rules.specs.declared.call.Call.{Call}
use Rattle.lt_rules.specs.declared.call.Call.TheVariants.{Visit, Acquire, Finish}
use Rattle.lt_rules.specs.declared.call.Reply.{Reply}
use Rattle.lt_rules.specs.declared.call.Reply.TheVariants.{Taken, MustWait, Freed}
use Rattle.lt_entry.specs.declared.entry.Entry.{Entry}
use Rattle.lt_words.specs.declared.event.Event.{Event}
use Rattle.lt_words.specs.declared.event.Event.TheVariants.{Draw, Step}
use Rattle.lt_words.specs.declared.keeping.Keeping.TheVariants.{Whole}
use Rattle.lt_words.specs.History.{part, IsLetAmong}
use Rattle.lt_words.specs.Row.{Opening, PassState, brand_opening, wake_ups}
use Rattle.lt_walk.specs.declared.walk_progress.Mode.TheVariants.{Awaiting, Let}
use Rattle.lt_walk.specs.declared.scan_results.Poll.TheVariants.{Through}
use Rattle.lt_walk.specs.Machine.{WalkState}
use Rattle.lt_walk.specs.Machine as machine
use Rattle.lt_walk.specs.Reported.{Reported, GuardState, IsPoll, current_wait}
use Rattle.lt_walk.specs.Theorem.{Told, AreHeard, ShardHistories, IsEnd}
use Rattle.lt_walk.specs.Theorem.Told.{Made}
use Rattle.lt_waits.specs.Waits.{IsInLatestWait, HadHeard}

abbrev pub waited_key : List ℕ
waited_key = 97 ∷ []

abbrev pub waited_time : Timestamp
waited_time = record { wall = 1; logical = 0 }

-- the first wait of request 1
abbrev pub first_wait : Wait
first_wait = record { number = 1; wait = 1 }

abbrev pub first_let : Letting
first_let = record { pass = 2; ticket = first_wait }

-- a step at the key
abbrev pub waited_step : ℕ → Call → Reply → List Letting → Entry
waited_step pass call reply lets = record { key = waited_key; pass = pass; call = call; reply = reply; lets = lets }

-- transaction 1 takes the lock by pass 1; request 1 has to wait by pass 2, for transaction 2; the lock is freed for it
abbrev pub lock_taken : Entry
lock_taken = waited_step 1 (Acquire 1 waited_time) Taken []

abbrev pub request_waits : Entry
request_waits = waited_step 2 (Visit first_wait (Some 2) waited_time Write 0) MustWait []

abbrev pub lock_freed : Entry
lock_freed = waited_step 1 (Finish 1) Freed (first_let ∷ [])

abbrev pub waited_history : List Event
waited_history = Step 0 lock_taken ∷ Draw 2 1 ∷ Step 0 request_waits ∷ Step 0 lock_freed ∷ []

-- a table of one shard and two passes
abbrev pub waited_table : Opening
waited_table = record { book = brand_opening.book; shards = 1; passes = 2; keeping = Whole }

-- a pass that has seen these events and lets, and made this many steps
abbrev pub pass_after : ℕ → List Event → List Letting → ℕ → PassState
pass_after number seen shown made = record { of = waited_table; number = number; seen = seen; shown = shown; takes = []; counts = made ∷ []; taken = 0 ∷ []; wakes = wake_ups 0 [] 0 [] }

-- pass 1 once it has taken the lock, and once it has freed it
abbrev pub one_took : PassState
one_took = pass_after 1 (Step 0 lock_taken ∷ []) [] 1

abbrev pub one_freed : PassState
one_freed = pass_after 1 waited_history (first_let ∷ []) 2

-- pass 2 once its request has entered, once it waits, and once it has learned from pass 1
abbrev pub two_entered : PassState
two_entered = pass_after 2 (Step 0 lock_taken ∷ Draw 2 1 ∷ []) [] 0

abbrev pub two_waits : PassState
two_waits = pass_after 2 (Step 0 lock_taken ∷ Draw 2 1 ∷ Step 0 request_waits ∷ []) [] 1

abbrev pub two_learned : PassState
two_learned = pass_after 2 waited_history (first_let ∷ []) 1

-- the steps as their calls tell of them
abbrev pub told_step : Entry → ℕ → machine.Step
told_step e at = record { key = e.key; call = e.call; answer = record { reply = e.reply; at = at } }

abbrev pub told_one : List Told
told_one = Made (told_step lock_taken 0) ∷ Made (told_step lock_freed 2) ∷ []

abbrev pub told_two : List Told
told_two = Made (told_step request_waits 1) ∷ []

abbrev pub waited_finals : ShardHistories waited_table
waited_finals = λ s here. part s waited_history

-- request 1 in its first wait, before the poll and after it
abbrev pub waiting_walk : WalkState
waiting_walk = record {
  asked = record { keys = (waited_key, Write) ∷ []; number = 1; txn = Some 2; ts = waited_time; longest = 0 };
  progress = record { index = 0; waits = 1; waited = true; mode = Awaiting };
  answers = [];
}

abbrev pub let_walk : WalkState
let_walk = record waiting_walk { progress = record waiting_walk.progress { mode = Let } }

abbrev pub before_poll : GuardState
before_poll = record { pass = two_learned; walk = waiting_walk }

abbrev pub after_poll : GuardState
after_poll = record { pass = two_learned; walk = let_walk }

-- All premises of `NoWakeUpIsEverLost`, and what it concludes.
abbrev pub SomePollHears : Type 0
SomePollHears =
    (0 < waited_table.shards)
    × IsEnd waited_table (one_freed ∷ two_learned ∷ []) waited_finals
    × AreHeard waited_table (told_one ∷ told_two ∷ []) (one_freed ∷ two_learned ∷ [])
    × HadHeard (one_freed ∷ two_learned ∷ []) (told_one ∷ told_two ∷ []) told_two two_learned
    × IsInLatestWait told_two before_poll
    × (step : Reported one_took one_freed (told_step lock_freed 2))
    × IsLetAmong step.entry.lets 2 first_wait
    × IsPrefix one_freed.shown two_learned.shown
    × (waiting_walk.progress.mode ≡ Awaiting)
    × (current_wait waiting_walk ≡ first_wait)
    × IsPoll before_poll after_poll Through
