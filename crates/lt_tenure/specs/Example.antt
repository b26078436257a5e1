-- Two transactions that hold locks at the same time and take one of them in turn. So the laws of committed transactions
-- speak of something, and the owner of a lock can be read off a history step by step.
use Rattle.std.specs.Prelude.{ℕ, ◌≡◌, ◌≢◌, Some, None, List, [], ◌∷◌, map, take}
use Rattle.lt_rules.specs.declared.call.Call.{Call}
use Rattle.lt_rules.specs.declared.call.Call.TheVariants.{Acquire, Update, Finish}
use Rattle.lt_rules.specs.declared.call.Reply.{Reply}
use Rattle.lt_rules.specs.declared.call.Reply.TheVariants.{Taken, Raised, Other, Freed}
use Rattle.lt_words.specs.declared.event.Event.{Event}
use Rattle.lt_words.specs.declared.event.Event.TheVariants.{Step}
use Rattle.lt_words.specs.History.{part, IsLegalHistory}
use Rattle.lt_tenure.specs.Tenure.{owner_with, lock_owner}
use Rattle.lt_tenure.specs.Committed.{Committed, AreCommittedIn, AreOrderedBy}

-- the keys "a" and "b"
abbrev pub key_a : List ℕ
key_a = 97 ∷ []

abbrev pub key_b : List ℕ
key_b = 98 ∷ []

-- a step of a pass in a table of one shard
abbrev pub example_step : ℕ → List ℕ → Call → Reply → Event
example_step pass key call reply = Step 0 (record { key = key; pass = pass; call = call; reply = reply; lets = [] })

-- transaction 1, of pass 1, locks a; transaction 2, of pass 2, locks b and then a
abbrev pub example_history : List Event
example_history =
    example_step 1 key_a (Acquire 1 (record { wall = 1; logical = 0 })) Taken
    ∷ example_step 2 key_a (Acquire 2 (record { wall = 2; logical = 0 })) Other
    ∷ example_step 2 key_b (Acquire 2 (record { wall = 2; logical = 0 })) Taken
    ∷ example_step 1 key_a (Update 1 (record { wall = 3; logical = 0 })) Raised
    ∷ example_step 1 key_a (Finish 1) Freed
    ∷ example_step 2 key_a (Acquire 2 (record { wall = 2; logical = 0 })) Taken
    ∷ example_step 2 key_a (Finish 2) Freed
    ∷ example_step 2 key_b (Finish 2) Freed
    ∷ []

-- The owner of a, before the first step and after each.
abbrev pub ExampleOwners : Type 0
ExampleOwners =
    map (λ n. lock_owner key_a (take n (part 0 example_history))) (0 ∷ 1 ∷ 2 ∷ 3 ∷ 4 ∷ 5 ∷ 6 ∷ 7 ∷ 8 ∷ [])
    ≡ None
    ∷ Some (owner_with 1 0)
    ∷ Some (owner_with 1 0)
    ∷ Some (owner_with 1 0)
    ∷ Some (owner_with 1 0)
    ∷ None
    ∷ Some (owner_with 2 5)
    ∷ None
    ∷ None
    ∷ []

-- The lock point of transaction 2 is the moment after step 5, that of transaction 1 the moment after step 3. They are
-- listed in no order.
abbrev pub example_committed : List Committed
example_committed =
    record {
      txn = 2;
      tenures = record { key = key_b; taken = 2; freed = 7 } ∷ record { key = key_a; taken = 5; freed = 6 } ∷ [];
      point = take 6 example_history;
      seen = example_history;
    }
    ∷ record {
      txn = 1;
      tenures = record { key = key_a; taken = 0; freed = 4 } ∷ [];
      point = take 4 example_history;
      seen = take 5 example_history;
    }
    ∷ []

-- The two committed in a legal history, under different names.
abbrev pub SomeCommit : Type 0
SomeCommit = IsLegalHistory 1 example_history × AreCommittedIn 1 example_history example_committed × AreOrderedBy (λ a b. a.txn ≢ b.txn) example_committed
