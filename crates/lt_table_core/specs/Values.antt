-- What the value beside a shard is told of a step, what it owes, and what a caller learns of it.
use Rattle.std.specs.Prelude.{ℕ, ◌≡◌, List, [], ◌∷◌, ◌++◌, length}
use Rattle.lt_rules.specs.declared.call.Call.{Call}
use Rattle.lt_entry.specs.declared.entry.Entry.{Entry}
use Rattle.lt_entry.specs.Legal.{AreLegalKeys}
use Rattle.lt_words.specs.History.{part, shard_of}
use Rattle.lt_words.specs.Row.{PassState}
use Rattle.lt_shard.specs.declared.answer.Answer.{Answer}
use Rattle.lt_shard.specs.Shards.{entry_of}

-- After these steps of a shard, which are legal, this pass's call at this key is the next one. Its answer has its index
-- and its reply, which is the one that the rules give.
pub record IsNextStep (es : List Entry) (key : List ℕ) (pass : ℕ) (call : Call) (answer : Answer) : Type 0 where
  pub at_is : answer.at ≡ length es
  pub reply_is : answer.reply ≡ (entry_of es pass key call).reply
  pub legal : AreLegalKeys es

-- Whatever steps the old value fits, if this one is the next, then the new value fits the steps up to this one.
abbrev pub FollowsStep : {A : Type 0} → (List Entry → A → Type 0) → A → A → List ℕ → ℕ → Call → Answer → Type 0
FollowsStep fits old new key pass call answer =
    (es : List Entry) → IsNextStep es key pass call answer → fits es old → fits (es ++ entry_of es pass key call ∷ []) new

-- the key's shard's part of what the pass has seen
abbrev pub seen_at : ℕ → List ℕ → PassState → List Entry
seen_at shards key p = part (shard_of key shards) p.seen
