-- The codes that the calls answer, as numbers. `src/codes.rt` says what each means.
use Rattle.std.specs.Prelude.{ℕ, ◌≡◌, ◌≢◌, ◌<◌, true, false, Option, Some, None}
use Rattle.lt_ids.specs.declared.error.IdError.{IdError}
use Rattle.lt_ids.specs.declared.error.IdError.TheVariants.{KeyEmpty, KeyTooLong, KeyByte}
use Rattle.lt_ids.specs.declared.error.IdError.TheVariants as key_errors
use Rattle.lt_checker.specs.declared.error.Fault.{Fault}
use Rattle.lt_checker.specs.declared.error.Fault.TheVariants.{Header, Shape, KeyOrder, Index, WrongReply, WrongLets}
use Rattle.lt_rules.specs.declared.call.Reply.{Reply}
use Rattle.lt_rules.specs.declared.call.Reply.TheVariants.{Passed, MustWait, TooLong, Taken, Kept, Raised, Other, Freed, Left, Absent, Nothing, Reserved, Idle, WaitFor, WaitFirst, WaitOwn}

-- the code of a reply
abbrev pub reply_code : Reply → ℕ
reply_code Passed = 32
reply_code MustWait = 33
reply_code TooLong = 34
reply_code Taken = 35
reply_code Kept = 36
reply_code Raised = 37
reply_code Other = 38
reply_code Freed = 39
reply_code Left = 40
reply_code Absent = 41
reply_code Nothing = 42
reply_code Reserved = 43
reply_code Idle = 44
reply_code (WaitFor txn true) = 45
reply_code (WaitFor txn false) = 46
reply_code (WaitFirst txn true) = 47
reply_code (WaitFirst txn false) = 48
reply_code (WaitOwn txn) = 49

-- the transaction that a reply names, or 0
abbrev pub reply_txn : Reply → ℕ
reply_txn (WaitFor txn held) = txn
reply_txn (WaitFirst txn held) = txn
reply_txn (WaitOwn txn) = txn
reply_txn _ = 0

-- the code of a fault of a key
abbrev pub key_code : IdError → ℕ
key_code KeyEmpty = 5
key_code KeyTooLong = 6
key_code (KeyByte index) = 7
key_code key_errors.Memory = 2

-- the code of a fault of a line
abbrev pub fault_code : Fault → ℕ
fault_code Header = 16
fault_code Shape = 17
fault_code KeyOrder = 18
fault_code Index = 19
fault_code WrongReply = 20
fault_code WrongLets = 21

-- a transaction as C sees it: its number, or 0 for none
abbrev pub txn_number : Option ℕ → ℕ
txn_number None = 0
txn_number (Some txn) = txn

-- The call answers this refusal. If it has no reason to refuse, it refuses only if an allocation fails.
abbrev pub IsReplyUnless : Option ℕ → ℕ → Type 0
IsReplyUnless (Some code) result = result ≡ code
IsReplyUnless None result = result < 32 → result ≡ 2

-- The call answers this refusal. If it has no reason to refuse, it is done unless an allocation fails.
abbrev pub IsDoneUnless : Option ℕ → ℕ → Type 0
IsDoneUnless (Some code) result = result ≡ code
IsDoneUnless None result = result ≢ 0 → result ≡ 2
