-- The words of a reply, the reply that words spell, and the replies that each call can have.
use Rattle.std.specs.Prelude.{ℕ, Bool, true, false, ◌^◌, if◌then◌else◌, List, [], ◌∷◌, Option, Some, None, decimal, codes, find}
use Rattle.std.specs.Str.{bytes_eq}
use Rattle.lt_rules.specs.declared.call.Call.{Call}
use Rattle.lt_rules.specs.declared.call.Call.TheVariants.{Visit, Acquire, Update, Finish, Leave, Look}
use Rattle.lt_rules.specs.declared.call.Reply.{Reply}
use Rattle.lt_rules.specs.declared.call.Reply.TheVariants.{Passed, MustWait, TooLong, Taken, Kept, Raised, Other, Freed, Left, Absent, Nothing, Reserved, Idle, WaitFor, WaitFirst, WaitOwn}
use Rattle.lt_text.specs.Maybe.{◌>>=◌}
use Rattle.lt_text.specs.Fields.{number_within}
use Rattle.lt_text.specs.Calls.{field_at}

-- the first word of a reply
abbrev pub reply_name : Reply → List ℕ
reply_name Passed = codes "pass"
reply_name MustWait = codes "wait"
reply_name TooLong = codes "long"
reply_name Taken = codes "taken"
reply_name Kept = codes "kept"
reply_name Raised = codes "raised"
reply_name Other = codes "other"
reply_name Freed = codes "freed"
reply_name Left = codes "left"
reply_name Absent = codes "absent"
reply_name Nothing = codes "nothing"
reply_name Reserved = codes "reserved"
reply_name Idle = codes "idle"
reply_name (WaitFor txn held) = codes "for"
reply_name (WaitFirst txn held) = codes "first"
reply_name (WaitOwn txn) = codes "own"

abbrev pub held_word : Bool → List ℕ
held_word true = codes "held"
held_word false = codes "reserved"

-- the words after the first
abbrev pub reply_numbers : Reply → List (List ℕ)
reply_numbers (WaitFor txn held) = decimal txn ∷ held_word held ∷ []
reply_numbers (WaitFirst txn held) = decimal txn ∷ held_word held ∷ []
reply_numbers (WaitOwn txn) = decimal txn ∷ []
reply_numbers _ = []

-- the words of a reply
abbrev pub reply_words : Reply → List (List ℕ)
reply_words r = reply_name r ∷ reply_numbers r

-- ---- the replies of each call

abbrev pub is_visit_reply : Reply → Bool
is_visit_reply Passed = true
is_visit_reply MustWait = true
is_visit_reply TooLong = true
is_visit_reply _ = false

abbrev pub is_acquire_reply : Reply → Bool
is_acquire_reply Taken = true
is_acquire_reply Kept = true
is_acquire_reply Raised = true
is_acquire_reply Other = true
is_acquire_reply _ = false

abbrev pub is_update_reply : Reply → Bool
is_update_reply Kept = true
is_update_reply Raised = true
is_update_reply Other = true
is_update_reply _ = false

abbrev pub is_finish_reply : Reply → Bool
is_finish_reply Freed = true
is_finish_reply Other = true
is_finish_reply _ = false

abbrev pub is_leave_reply : Reply → Bool
is_leave_reply Left = true
is_leave_reply Absent = true
is_leave_reply _ = false

abbrev pub is_look_reply : Reply → Bool
is_look_reply Nothing = true
is_look_reply Reserved = true
is_look_reply Idle = true
is_look_reply (WaitFor txn held) = true
is_look_reply (WaitFirst txn held) = true
is_look_reply (WaitOwn txn) = true
is_look_reply _ = false

-- The call can have this reply.
abbrev pub is_reply_of : Call → Reply → Bool
is_reply_of (Visit ticket txn ts access longest) r = is_visit_reply r
is_reply_of (Acquire txn ts) r = is_acquire_reply r
is_reply_of (Update txn ts) r = is_update_reply r
is_reply_of (Finish txn) r = is_finish_reply r
is_reply_of (Leave number) r = is_leave_reply r
is_reply_of (Look number) r = is_look_reply r

-- ---- reading

-- the replies that consist of one word
abbrev pub fixed_replies : List Reply
fixed_replies = Passed ∷ MustWait ∷ TooLong ∷ Taken ∷ Kept ∷ Raised ∷ Other ∷ Freed ∷ Left ∷ Absent ∷ Nothing ∷ Reserved ∷ Idle ∷ []

unfoldable pub fixed_reply : List ℕ → Option Reply
fixed_reply word = find (λ r. bytes_eq (reply_name r) word) fixed_replies

abbrev pub held_of : List ℕ → Option Bool
held_of word = if bytes_eq word (codes "held") then Some true else (if bytes_eq word (codes "reserved") then Some false else None)

abbrev pub waits_at : (ℕ → Bool → Reply) → List (List ℕ) → Option (Reply × List (List ℕ))
waits_at reply words = do
  txn ← field_at (number_within 1 (2 ^ 64)) words
  held ← field_at held_of txn.1
  Some (reply txn.0 held.0, held.1)

abbrev pub own_at : List (List ℕ) → Option (Reply × List (List ℕ))
own_at words = do
  txn ← field_at (number_within 1 (2 ^ 64)) words
  Some (WaitOwn txn.0, txn.1)

unfoldable pub reply_in_words : List ℕ → List (List ℕ) → Option (Reply × List (List ℕ))
reply_in_words name words =
    if bytes_eq name (codes "for") then waits_at (λ txn held. WaitFor txn held) words
    else if bytes_eq name (codes "first") then waits_at (λ txn held. WaitFirst txn held) words
    else if bytes_eq name (codes "own") then own_at words
    else (fixed_reply name >>= λ r. Some (r, words))

abbrev pub reply_at : List (List ℕ) → Option (Reply × List (List ℕ))
reply_at [] = None
reply_at (name ∷ words) = reply_in_words name words
