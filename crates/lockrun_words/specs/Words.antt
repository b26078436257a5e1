-- What the words after the program's name ask for.
use Rattle.std.specs.Prelude.{ℕ, ◌≡◌, ◌≢◌, ◌<◌, ◌≤◌, ◌==◌, ◌^◌, ◌⊎◌, Bool, true, false, List, [], ◌∷◌, map, Option, Some, None, Result, Ok, Err, if◌then◌else◌, codes, decimal, option_map}
use Rattle.std.specs.Borrow.{Bor}
use Rattle.std.specs.Str.{bytes_eq}
use Rattle.clap.specs.Words.{App, Row, Rule, Text, IsAmong, Kinds, fault_of, first_of, new_app, new_rule, subcommand_of, with_rule, with_subcommand}
use Rattle.clap.specs.declared.builder.action.ArgAction.TheVariants.{SetTrue}
use Rattle.clap.specs.declared.error.kind.ErrorKind.{ErrorKind}
use Rattle.clap.specs.declared.error.kind.ErrorKind.TheVariants as kind
use Rattle.lt_text.specs.Number.{decimal_of}
use Rattle.lockrun_words.specs.Options.{AreInRange, default_options, options_of}
use Rattle.lockrun_words.specs.declared.options.Options.{Options}
use Rattle.lockrun_words.specs.declared.words.Job.{Job}
use Rattle.lockrun_words.specs.declared.words.Job.TheVariants as jobs
use Rattle.lockrun_words.specs.declared.words.WordsError.{WordsError}
use Rattle.lockrun_words.specs.declared.words.WordsError.TheVariants as errors

-- ---- jobs, without references

-- What to do, and with which file.
pub data Order : Type 0 where
  run : Option Text → Options → Order
  check : Option Text → Order
  upgrade : Option Text → Order

abbrev pub order : Job → Order
order (jobs.Run file options) = run (option_map (λ s. s.now) file) options
order (jobs.Check file) = check (option_map (λ s. s.now) file)
order (jobs.Upgrade file) = upgrade (option_map (λ s. s.now) file)

-- If the job is to run a script, its options are in their ranges.
abbrev pub HasOptionsInRange : Job → Type 0
HasOptionsInRange (jobs.Run file options) = AreInRange options
HasOptionsInRange (jobs.Check file) = Unit {0}
HasOptionsInRange (jobs.Upgrade file) = Unit {0}

-- ---- the command line

abbrev pub file_rule : Rule
file_rule = record (new_rule (codes "file")) { value_names = 1 }

-- An option that takes a number.
abbrev pub number_rule : Text → Rule
number_rule name = record (new_rule name) { long = Some name; value_names = 1 }

abbrev pub threads_rule : Rule
threads_rule = record (new_rule (codes "threads")) { long = Some (codes "threads"); action = Some SetTrue }

-- A command that reads a file.
abbrev pub reader : Text → App
reader name = with_rule (new_app name) file_rule

-- `run` with its options.
abbrev pub runner : App
runner =
    with_rule (with_rule (with_rule (with_rule (reader (codes "run")) (number_rule (codes "shards"))) (number_rule (codes "steps"))) threads_rule)
    (number_rule (codes "turns"))

-- The program without its commands. The program's name is not among the words.
abbrev pub program : App
program = record { top = record (new_app (codes "lockrun")).top { no_binary_name = true }; subs = [] }

abbrev pub lockrun : App
lockrun = with_subcommand (with_subcommand (with_subcommand program runner.top) (reader (codes "check")).top) (reader (codes "upgrade")).top

-- The options of `run`.
abbrev pub chosen_of : List Row → Option Options
chosen_of rows =
    options_of (first_of (codes "shards") rows) (first_of (codes "steps") rows) (first_of (codes "threads") rows)
    (first_of (codes "turns") rows)

-- What `run` asks for, with its file and its options, if their numbers are in range.
abbrev pub run_of : List Row → Option Order
run_of rows = option_map (run (first_of (codes "file") rows)) (chosen_of rows)

-- What a command asks for. No command means `run`.
abbrev pub order_of : Option (Text × List Row) → Option Order
order_of None = Some (run None default_options)
order_of (Some p) =
    if bytes_eq p.0 (codes "run") then run_of p.1
    else if bytes_eq p.0 (codes "check") then Some (check (first_of (codes "file") p.1))
    else if bytes_eq p.0 (codes "upgrade") then Some (upgrade (first_of (codes "file") p.1))
    else None

-- The result for an error of this kind.
abbrev pub IsToldBy : ErrorKind → WordsError → Type 0
IsToldBy k (errors.Help text) = k ≡ kind.DisplayHelp
IsToldBy k errors.Refused = (k ≢ kind.DisplayHelp) × (k ≢ kind.OutOfMemory)
IsToldBy k errors.Memory = (k ≡ kind.DisplayHelp) ⊎ (k ≡ kind.OutOfMemory)

-- ---- what the words say, by clap's own rules

abbrev pub texts : List (Bor Text) → List Text
texts = map (λ s. s.now)

-- The job that the words name if they have no fault. They name none if a number is out of its range.
abbrev pub named : List Text → Option Order
named words = order_of (subcommand_of lockrun words)

-- The first fault of the words, or the faults of which one is the first.
abbrev pub faults : List Text → Kinds
faults words = fault_of lockrun words

-- One of the faults is not a request for help.
pub record IsMistaken (kinds : Kinds) : Type 0 where
  pub fault : ErrorKind
  pub among : IsAmong fault kinds
  pub other : fault ≢ kind.DisplayHelp

-- The result is what the words say. It is a job only if they have no fault and name that job. Otherwise it is their
-- fault, or the refusal of words that name none. Memory may run out in any case.
abbrev pub IsReadOf : List Text → Result Job WordsError → Type 0
IsReadOf words (Ok job) = (faults words ≡ []) × (named words ≡ Some (order job))
IsReadOf words (Err (errors.Help text)) = IsAmong kind.DisplayHelp (faults words)
IsReadOf words (Err errors.Refused) = IsMistaken (faults words) ⊎ ((faults words ≡ []) × (named words ≡ None))
IsReadOf words (Err errors.Memory) = Unit {0}

-- ---- the same for the words as they are typed

-- The word begins with a hyphen (45).
abbrev pub is_option : Text → Bool
is_option [] = false
is_option (b ∷ rest) = b == 45

-- A command that reads a text of histories.
abbrev pub ReadsHistories : Text → Type 0
ReadsHistories word = (word ≡ codes "check") ⊎ (word ≡ codes "upgrade")

abbrev pub IsCommand : Text → Type 0
IsCommand word = (word ≡ codes "run") ⊎ ReadsHistories word

-- The option takes a number from 1 to this one.
abbrev pub HasMost : Text → ℕ → Type 0
HasMost name most =
    ((name ≡ codes "--shards") × (most ≡ 64)) ⊎ (((name ≡ codes "--steps") × (most ≡ 2 ^ 32)) ⊎ ((name ≡ codes "--turns") × (most ≡ 1000000000)))

-- The word spells no number from 1 to this one.
abbrev pub IsOutOfRange : Text → ℕ → Type 0
IsOutOfRange word most = (n : ℕ) → decimal_of word ≡ Some n → (n ≡ 0) ⊎ (most < n)

-- The word is not an option, not a command, and not `help`.
pub record IsStray (word : Text) : Type 0 where
  pub plain : is_option word ≡ false
  pub command : IsCommand word → ⊥
  pub help : word ≢ codes "help"

-- The words are read as this job, unless memory runs out.
abbrev pub IsJobOf : Result Job WordsError → Order → Type 0
IsJobOf (Ok job) said = order job ≡ said
IsJobOf (Err errors.Memory) said = Unit {0}
IsJobOf (Err _) said = ⊥

-- The words are read as a request for help, unless memory runs out.
abbrev pub Helps : Result Job WordsError → Type 0
Helps (Err (errors.Help text)) = Unit {0}
Helps (Err errors.Memory) = Unit {0}
Helps _ = ⊥

-- The words are refused, unless memory runs out.
abbrev pub Refuses : Result Job WordsError → Type 0
Refuses (Err errors.Refused) = Unit {0}
Refuses (Err errors.Memory) = Unit {0}
Refuses _ = ⊥

-- ---- what the words of a command line are read as

-- The command with the name of a file is read as this job, done with that file.
abbrev pub ReadsFile : Text → (Option Text → Order) → List (Bor Text) → Result Job WordsError → Type 0
ReadsFile command job words result =
    (file : Text) → is_option file ≡ false → texts words ≡ command ∷ file ∷ [] → IsJobOf result (job (Some file))

-- The option of `run` takes each number from 1 to this one, and sets these options.
abbrev pub Accepts : Text → ℕ → (ℕ → Options) → List (Bor Text) → Result Job WordsError → Type 0
Accepts option most options words result =
    (n : ℕ) → 1 ≤ n → n ≤ most → texts words ≡ codes "run" ∷ option ∷ decimal n ∷ [] → IsJobOf result (run None (options n))

-- `run` takes a file and more than one option: here one shard, and two key steps.
abbrev pub ReadsFileAndOptions : List (Bor Text) → Result Job WordsError → Type 0
ReadsFileAndOptions words result =
    (file : Text) → is_option file ≡ false
    → texts words ≡ codes "run" ∷ file ∷ codes "--shards" ∷ codes "1" ∷ codes "--steps" ∷ codes "2" ∷ []
    → IsJobOf result (run (Some file) (record default_options { shards = 1; steps = 2 }))

-- Every command refuses a second file.
abbrev pub RefusesTwoFiles : List (Bor Text) → Result Job WordsError → Type 0
RefusesTwoFiles words result =
    (name first second : Text) → IsCommand name → is_option first ≡ false → is_option second ≡ false
    → texts words ≡ name ∷ first ∷ second ∷ [] → Refuses result

-- `run` refuses an option whose word spells no number in the option's range.
abbrev pub RefusesOutOfRange : List (Bor Text) → Result Job WordsError → Type 0
RefusesOutOfRange words result =
    (name word : Text) (most : ℕ) → HasMost name most → is_option word ≡ false → IsOutOfRange word most
    → texts words ≡ codes "run" ∷ name ∷ word ∷ [] → Refuses result

-- `check` and `upgrade` refuse the options of `run` that take a number.
abbrev pub RefusesOptionsOfRun : List (Bor Text) → Result Job WordsError → Type 0
RefusesOptionsOfRun words result =
    (command name word : Text) (most : ℕ) → ReadsHistories command → HasMost name most
    → texts words ≡ command ∷ name ∷ word ∷ [] → Refuses result
