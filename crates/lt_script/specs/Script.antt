-- What the lines of a script say, and the first fault of a script that has one.
use Rattle.std.specs.Prelude.{ℕ, ◌≡◌, ◌+◌, ◌-◌, ◌^◌, Bool, ◌&&◌, ◌||◌, not, if◌then◌else◌, List, [], ◌∷◌, ◌++◌, length, take, drop, codes, Option, Some, None, Result, Ok, Err}
use Rattle.std.specs.Str.{bytes_eq}
use Rattle.lt_ids.specs.Key.{key_fault}
use Rattle.lt_ids.specs.declared.error.IdError.{IdError}
use Rattle.lt_ids.specs.declared.timestamp.Timestamp.{Timestamp}
use Rattle.lt_ids.specs.declared.request.Access.{Access}
use Rattle.lt_ids.specs.declared.request.Access.TheVariants.{Read, Write}
use Rattle.lt_text.specs.Fields.{number_within, time_of, is_bound, bound_of}
use Rattle.lt_text.specs.Fields as fields
use Rattle.lt_script.specs.declared.command.Action.{Action}
use Rattle.lt_script.specs.declared.command.Action.TheVariants.{Open, Scan, Await, Look, Acquire, Update, Finish, Leave}
use Rattle.lt_script.specs.declared.command.Command.{Command}
use Rattle.lt_script.specs.declared.error.ScriptFault.{ScriptFault}
use Rattle.lt_script.specs.declared.error.ScriptFault.TheVariants.{BadPass, BadCall, BadWords, BadTxn, BadTime, BadMax, BadKey, BadAccess}
use Rattle.lt_script.specs.declared.error.LineError.{LineError}
use Rattle.lt_script.specs.declared.error.LineError.TheVariants as refusals
use Rattle.lt_script.specs.declared.error.ScriptError.{ScriptError}
use Rattle.lt_script.specs.declared.error.ScriptError.TheVariants as errors
use Rattle.lt_script.specs.Reading.{◌>>=◌, or_fault}
use Rattle.lt_script.specs.Lines.{script_lines, is_comment, words_of}

-- ---- single words

abbrev pub pass_of : List ℕ → Result ℕ ScriptFault
pass_of word = or_fault BadPass (number_within 1 65 word)

abbrev pub txn_of : List ℕ → Result ℕ ScriptFault
txn_of word = or_fault BadTxn (number_within 1 (2 ^ 64) word)

-- The transaction of a request, or none if the word is `-`.
abbrev pub parsed_owner : List ℕ → Result (Option ℕ) ScriptFault
parsed_owner word = or_fault BadTxn (fields.owner_of word)

abbrev pub ts_of : List ℕ → Result Timestamp ScriptFault
ts_of word = or_fault BadTime (time_of word)

abbrev pub unless_faulty : Option IdError → List ℕ → Result (List ℕ) ScriptFault
unless_faulty None word = Ok word
unless_faulty (Some fault) word = Err BadKey

abbrev pub key_of : List ℕ → Result (List ℕ) ScriptFault
key_of word = unless_faulty (key_fault word) word

-- A word without its last two bytes, and the access that those two name.
unfoldable pub split_access : List ℕ → Result (List ℕ × Access) ScriptFault
split_access word =
    let n = length word - 2 in
    if bytes_eq (drop n word) (codes ":r") then Ok (take n word, Read)
    else if bytes_eq (drop n word) (codes ":w") then Ok (take n word, Write)
    else Err BadAccess

-- The last two bytes of the word name an access.
abbrev pub names_access : List ℕ → Bool
names_access word =
    let n = length word - 2 in
    bytes_eq (drop n word) (codes ":r") || bytes_eq (drop n word) (codes ":w")

-- The word begins as a bound does, and is not a key with its access.
abbrev pub is_for_bound : List ℕ → Bool
is_for_bound word = is_bound word && not (names_access word)

-- The bound, if the first word is meant as one, and the words after it; otherwise 0 and all the words.
unfoldable pub longest_of : List (List ℕ) → Result (ℕ × List (List ℕ)) ScriptFault
longest_of [] = Ok (0, [])
longest_of (word ∷ words) = if is_for_bound word then (or_fault BadMax (bound_of word) >>= λ longest. Ok (longest, words)) else Ok (0, word ∷ words)

-- A key with its access. The access is checked first.
abbrev pub parsed_access : List ℕ → Result (List ℕ × Access) ScriptFault
parsed_access word = do
  parts ← split_access word
  key ← key_of parts.0
  Ok (key, parts.1)

-- The keys with their accesses, from left to right.
abbrev pub accesses_of : List (List ℕ) → Result (List (List ℕ × Access)) ScriptFault
accesses_of [] = Ok []
accesses_of (word ∷ words) = do
  first ← parsed_access word
  others ← accesses_of words
  Ok (first ∷ others)

-- ---- a fixed number of words

-- The first word, and the words after it.
abbrev pub next_of : List (List ℕ) → Result (List ℕ × List (List ℕ)) ScriptFault
next_of [] = Err BadWords
next_of (word ∷ words) = Ok (word, words)

abbrev pub none_of : List (List ℕ) → Result (Unit {0}) ScriptFault
none_of [] = Ok tt
none_of (word ∷ words) = Err BadWords

abbrev pub one_of : List (List ℕ) → Result (List ℕ) ScriptFault
one_of [] = Err BadWords
one_of (word ∷ words) = do
  end ← none_of words
  Ok word

abbrev pub two_of : List (List ℕ) → Result (List ℕ × List ℕ) ScriptFault
two_of [] = Err BadWords
two_of (word ∷ words) = do
  second ← one_of words
  Ok (word, second)

abbrev pub three_of : List (List ℕ) → Result (List ℕ × List ℕ × List ℕ) ScriptFault
three_of [] = Err BadWords
three_of (word ∷ words) = do
  others ← two_of words
  Ok (word, others.0, others.1)

-- ---- the calls, by the words after their names

-- A request names any number of keys, including none. Its bound comes before them.
unfoldable pub open_of : List (List ℕ) → Result Action ScriptFault
open_of args = do
  first ← next_of args
  second ← next_of first.1
  txn ← parsed_owner first.0
  ts ← ts_of second.0
  longest ← longest_of second.1
  accesses ← accesses_of longest.1
  Ok (Open txn ts accesses longest.0)

unfoldable pub look_of : List (List ℕ) → Result Action ScriptFault
look_of args = do
  word ← one_of args
  key ← key_of word
  Ok (Look key)

unfoldable pub acquire_of : List (List ℕ) → Result Action ScriptFault
acquire_of args = do
  words ← three_of args
  txn ← txn_of words.0
  ts ← ts_of words.1
  key ← key_of words.2
  Ok (Acquire txn ts key)

unfoldable pub update_of : List (List ℕ) → Result Action ScriptFault
update_of args = do
  words ← three_of args
  txn ← txn_of words.0
  ts ← ts_of words.1
  key ← key_of words.2
  Ok (Update txn ts key)

unfoldable pub parsed_finish : List (List ℕ) → Result Action ScriptFault
parsed_finish args = do
  words ← two_of args
  txn ← txn_of words.0
  key ← key_of words.1
  Ok (Finish txn key)

-- A call without arguments.
abbrev pub alone : Action → List (List ℕ) → Result Action ScriptFault
alone action args = do
  end ← none_of args
  Ok action

unfoldable pub action_named : List ℕ → List (List ℕ) → Result Action ScriptFault
action_named name args =
    if bytes_eq name (codes "open") then open_of args
    else if bytes_eq name (codes "scan") then alone Scan args
    else if bytes_eq name (codes "await") then alone Await args
    else if bytes_eq name (codes "look") then look_of args
    else if bytes_eq name (codes "acquire") then acquire_of args
    else if bytes_eq name (codes "update") then update_of args
    else if bytes_eq name (codes "finish") then parsed_finish args
    else if bytes_eq name (codes "leave") then alone Leave args
    else Err BadCall

abbrev pub action_of : List (List ℕ) → Result Action ScriptFault
action_of [] = Err BadCall
action_of (name ∷ args) = action_named name args

-- ---- lines

-- What a line says: which pass asks for what.
pub record ParsedLine : Type 0 where
  pub pass : ℕ
  pub action : Action

-- What the words of a line say. A line without words says nothing.
abbrev pub parsed_line_of : List (List ℕ) → Result (Option ParsedLine) ScriptFault
parsed_line_of [] = Ok None
parsed_line_of (word ∷ words) = do
  pass ← pass_of word
  action ← action_of words
  Ok (Some (record { pass = pass; action = action }))

-- What a line says, or its first fault.
abbrev pub line_of : List ℕ → Result (Option ParsedLine) ScriptFault
line_of line = if is_comment line then Ok None else parsed_line_of (words_of line)

-- ---- texts

abbrev pub command_at : ℕ → ParsedLine → Command
command_at n s = record { line = n; pass = s.pass; action = s.action }

abbrev pub onto : Command → Result (List Command) ScriptError → Result (List Command) ScriptError
onto c (Ok cs) = Ok (c ∷ cs)
onto c (Err e) = Err e

-- What line n says, followed by what the lines after it say.
abbrev pub then_lines : ℕ → Result (Option ParsedLine) ScriptFault → Result (List Command) ScriptError → Result (List Command) ScriptError
then_lines n (Err fault) after = Err (errors.Fault n fault)
then_lines n (Ok None) after = after
then_lines n (Ok (Some s)) after = onto (command_at n s) after

-- The commands of these lines, the first of which has number n, or the first faulty line and its first fault.
abbrev pub commands_from : ℕ → List (List ℕ) → Result (List Command) ScriptError
commands_from n [] = Ok []
commands_from n (line ∷ lines) = then_lines n (line_of line) (commands_from (n + 1) lines)

-- The commands of a script, or its first faulty line and the first fault in it.
abbrev pub commands_of : List ℕ → Result (List Command) ScriptError
commands_of text = commands_from 1 (script_lines text)

-- The reported fault is the first one. Out of memory says nothing about the text.
abbrev pub IsFirstFault : ScriptError → Result (List Command) ScriptError → Type 0
IsFirstFault errors.Memory read = Unit {0}
IsFirstFault (errors.Fault line fault) read = read ≡ Err (errors.Fault line fault)

abbrev pub told : LineError → ℕ → ScriptError
told refusals.Memory line = errors.Memory
told (refusals.Fault fault) line = errors.Fault line fault

-- The commands so far, followed by those that are still to be read.
abbrev pub with_prefix : List Command → Result (List Command) ScriptError → Result (List Command) ScriptError
with_prefix prefix (Ok cs) = Ok (prefix ++ cs)
with_prefix prefix (Err e) = Err e

-- The commands so far, followed by the command of line n, if it has one.
abbrev pub with_said : ℕ → List Command → Option ParsedLine → List Command
with_said n prefix None = prefix
with_said n prefix (Some s) = prefix ++ command_at n s ∷ []

abbrev pub lines_so_far : ℕ → List Command → Result (Option ParsedLine) ScriptFault → Result (List Command) ScriptFault
lines_so_far n prefix read = read >>= λ parsed_line. Ok (with_said n prefix parsed_line)

-- The commands so far, followed by the command of this line and pass.
abbrev pub with_command : ℕ → ℕ → List Command → Action → List Command
with_command n pass prefix action = prefix ++ record { line = n; pass = pass; action = action } ∷ []

-- The commands so far, followed by the command with the action that was read.
abbrev pub command_so_far : ℕ → ℕ → List Command → Result Action ScriptFault → Result (List Command) ScriptFault
command_so_far n pass prefix read = read >>= λ action. Ok (with_command n pass prefix action)
