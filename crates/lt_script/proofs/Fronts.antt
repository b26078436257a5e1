-- Reading commands line after line, as the loop does.
use Rattle.std.proofs.Common.{◌≡◌, ℕ, ◌+◌, List, [], ◌∷◌, ◌++◌, refl, sym, ap, ◌∙◌, append_assoc}
use Rattle.std.specs.Prelude.{Option, Some, None, Result, Ok, Err}
use Rattle.std.proofs.lemmas.List.{append-nil}
use Rattle.lt_script.specs.declared.command.Action.{Action}
use Rattle.lt_script.specs.declared.command.Command.{Command}
use Rattle.lt_script.specs.declared.error.ScriptFault.{ScriptFault}
use Rattle.lt_script.specs.declared.error.LineError.{LineError}
use Rattle.lt_script.specs.declared.error.LineError.TheVariants as refusals
use Rattle.lt_script.specs.declared.error.ScriptError.{ScriptError}
use Rattle.lt_script.specs.declared.error.ScriptError.TheVariants as errors
use Rattle.lt_script.specs.Reading.{◌>>=◌, IsReadFault}
use Rattle.lt_script.specs.Script.{ParsedLine, line_of, command_at, onto, then_lines, command_so_far, commands_from, with_prefix, lines_so_far, told, IsFirstFault}

-- What a line says, after its pass, is what its action says.
pub of_action : (n pass : ℕ) (prefix : List Command) (read : Result Action ScriptFault) → lines_so_far n prefix (read >>= λ action. Ok (Some (record { pass = pass; action = action }))) ≡ command_so_far n pass prefix read
of_action n pass prefix (Ok action) = refl
of_action n pass prefix (Err fault) = refl

prefix_onto : (prefix : List Command) (c : Command) (read : Result (List Command) ScriptError) → with_prefix prefix (onto c read) ≡ with_prefix (prefix ++ c ∷ []) read
prefix_onto prefix c (Ok cs) = ap (λ (all : List Command). Ok all) (sym (append_assoc prefix (c ∷ []) cs))
prefix_onto prefix c (Err e) = refl

same_commands : (a b : List Command) → ◌≡◌ {A = Result (List Command) ScriptFault} (Ok a) (Ok b) → a ≡ b
same_commands a b e = cc

said : (n : ℕ) (prefix new : List Command) (read : Result (Option ParsedLine) ScriptFault) (after : Result (List Command) ScriptError)
    → lines_so_far n prefix read ≡ Ok new → with_prefix prefix (then_lines n read after) ≡ with_prefix new after
said n prefix new (Err fault) after e = absurd cc
said n prefix new (Ok None) after e = ap (λ (cs : List Command). with_prefix cs after) (same_commands prefix new e)
said n prefix new (Ok (Some s)) after e = prefix_onto prefix (command_at n s) after ∙ ap (λ (cs : List Command). with_prefix cs after) (same_commands (prefix ++ command_at n s ∷ []) new e)

-- After a line without a fault, reading proceeds with the next line.
pub goes_on : (n : ℕ) (prefix new : List Command) (all : Result (List Command) ScriptError) (lines : List (List ℕ)) (line : List ℕ) (rest : List (List ℕ))
    → with_prefix prefix (commands_from n lines) ≡ all → lines ≡ line ∷ rest → lines_so_far n prefix (line_of line) ≡ Ok new → with_prefix new (commands_from (n + 1) rest) ≡ all
goes_on n prefix new all lines line rest so_far cut e =
    sym (said n prefix new (line_of line) (commands_from (n + 1) rest) e) ∙ (ap (λ (ls : List (List ℕ)). with_prefix prefix (commands_from n ls)) (sym cut) ∙ so_far)

faulty : (n : ℕ) (prefix : List Command) (read : Result (Option ParsedLine) ScriptFault) (fault : ScriptFault) (after : Result (List Command) ScriptError)
    → lines_so_far n prefix read ≡ Err fault → with_prefix prefix (then_lines n read after) ≡ Err (errors.Fault n fault)
faulty n prefix (Err f) fault after e = let same : f ≡ fault = cc in ap (λ (x : ScriptFault). Err (errors.Fault n x)) same
faulty n prefix (Ok None) fault after e = absurd cc
faulty n prefix (Ok (Some s)) fault after e = absurd cc

-- A line with a fault ends the reading, and its fault is reported.
pub stops : (n : ℕ) (prefix : List Command) (all : Result (List Command) ScriptError) (lines : List (List ℕ)) (line : List ℕ) (rest : List (List ℕ)) (refusal : LineError)
    → with_prefix prefix (commands_from n lines) ≡ all → lines ≡ line ∷ rest → IsReadFault refusal (lines_so_far n prefix (line_of line)) → IsFirstFault (told refusal n) all
stops n prefix all lines line rest refusals.Memory so_far cut e = tt
stops n prefix all lines line rest (refusals.Fault fault) so_far cut e =
    sym so_far ∙ (ap (λ (ls : List (List ℕ)). with_prefix prefix (commands_from n ls)) cut ∙ faulty n prefix (line_of line) fault (commands_from (n + 1) rest) e)

-- At the end of the text all commands have been read.
pub ends : (n : ℕ) (prefix : List Command) (all : Result (List Command) ScriptError) (lines : List (List ℕ)) → with_prefix prefix (commands_from n lines) ≡ all → lines ≡ [] → all ≡ Ok prefix
ends n prefix all lines so_far cut =
    sym so_far ∙ (ap (λ (ls : List (List ℕ)). with_prefix prefix (commands_from n ls)) cut ∙ ap (λ (cs : List Command). Ok cs) (append-nil prefix))
