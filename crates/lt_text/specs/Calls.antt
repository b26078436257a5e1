-- The words of a call, and the call that words spell.
use Rattle.std.specs.Prelude.{ℕ, ◌≡◌, ◌^◌, false, if◌then◌else◌, List, [], ◌∷◌, Option, Some, None, decimal, codes}
use Rattle.std.specs.Str.{bytes_eq}
use Rattle.lt_rules.specs.declared.call.Call.{Call}
use Rattle.lt_rules.specs.declared.call.Call.TheVariants.{Visit, Acquire, Update, Finish, Leave, Look}
use Rattle.lt_text.specs.Maybe.{◌>>=◌}
use Rattle.lt_text.specs.Fields.{ticket_word, time_word, access_word, owner_word, bound_words, number_within, ticket_of, time_of, access_of, owner_of, is_bound, bound_of}

-- the words of a call
abbrev pub call_words : Call → List (List ℕ)
call_words (Visit ticket txn ts access longest) = codes "visit" ∷ ticket_word ticket ∷ owner_word txn ∷ time_word ts ∷ access_word access ∷ bound_words longest
call_words (Acquire txn ts) = codes "acquire" ∷ decimal txn ∷ time_word ts ∷ []
call_words (Update txn ts) = codes "update" ∷ decimal txn ∷ time_word ts ∷ []
call_words (Finish txn) = codes "finish" ∷ decimal txn ∷ []
call_words (Leave number) = codes "leave" ∷ decimal number ∷ []
call_words (Look number) = codes "look" ∷ decimal number ∷ []

-- ---- reading

-- The result, and the words that remain, are what this reading gives.
abbrev pub Gives : {A : Type 0} → Option A → List (List ℕ) → Option (A × List (List ℕ)) → Type 0
Gives None rest read = read ≡ None
Gives (Some x) rest read = read ≡ Some (x, rest)

-- the value of the first word, read by this function, and the words after it
abbrev pub field_at : {A : Type 0} → (List ℕ → Option A) → List (List ℕ) → Option (A × List (List ℕ))
field_at read [] = None
field_at read (word ∷ words) = read word >>= λ x. Some (x, words)

-- the bound in the first word, and the words after it; 0 and all the words, if the first one does not begin as a
-- bound does
unfoldable pub bound_at : List (List ℕ) → Option (ℕ × List (List ℕ))
bound_at [] = Some (0, [])
bound_at (word ∷ words) = if is_bound word then (bound_of word >>= λ longest. Some (longest, words)) else Some (0, word ∷ words)

-- The first of these words does not begin as a bound does, so they can follow a call.
abbrev pub AreBoundless : List (List ℕ) → Type 0
AreBoundless [] = Unit {0}
AreBoundless (word ∷ words) = is_bound word ≡ false

unfoldable pub visit_at : List (List ℕ) → Option (Call × List (List ℕ))
visit_at words = do
  ticket ← field_at ticket_of words
  txn ← field_at owner_of ticket.1
  ts ← field_at time_of txn.1
  access ← field_at access_of ts.1
  longest ← bound_at access.1
  Some (Visit ticket.0 txn.0 ts.0 access.0 longest.0, longest.1)

unfoldable pub acquire_at : List (List ℕ) → Option (Call × List (List ℕ))
acquire_at words = do
  txn ← field_at (number_within 1 (2 ^ 64)) words
  ts ← field_at time_of txn.1
  Some (Acquire txn.0 ts.0, ts.1)

unfoldable pub update_at : List (List ℕ) → Option (Call × List (List ℕ))
update_at words = do
  txn ← field_at (number_within 1 (2 ^ 64)) words
  ts ← field_at time_of txn.1
  Some (Update txn.0 ts.0, ts.1)

unfoldable pub finish_at : List (List ℕ) → Option (Call × List (List ℕ))
finish_at words = do
  txn ← field_at (number_within 1 (2 ^ 64)) words
  Some (Finish txn.0, txn.1)

unfoldable pub leave_at : List (List ℕ) → Option (Call × List (List ℕ))
leave_at words = do
  number ← field_at (number_within 1 (2 ^ 40)) words
  Some (Leave number.0, number.1)

unfoldable pub look_at : List (List ℕ) → Option (Call × List (List ℕ))
look_at words = do
  number ← field_at (number_within 1 (2 ^ 40)) words
  Some (Look number.0, number.1)

unfoldable pub call_in_words : List ℕ → List (List ℕ) → Option (Call × List (List ℕ))
call_in_words name words =
    if bytes_eq name (codes "visit") then visit_at words
    else if bytes_eq name (codes "acquire") then acquire_at words
    else if bytes_eq name (codes "update") then update_at words
    else if bytes_eq name (codes "finish") then finish_at words
    else if bytes_eq name (codes "leave") then leave_at words
    else if bytes_eq name (codes "look") then look_at words
    else None

abbrev pub call_at : List (List ℕ) → Option (Call × List (List ℕ))
call_at [] = None
call_at (name ∷ words) = call_in_words name words
