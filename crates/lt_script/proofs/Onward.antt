-- Reading keys with their accesses one after the other, as the loop does.
use Rattle.std.proofs.Common.{ℕ, List, ◌++◌}
use Rattle.std.specs.Prelude.{Result, Ok}
use Rattle.lt_ids.specs.declared.request.Access.{Access}
use Rattle.lt_script.specs.declared.error.ScriptFault.{ScriptFault}
use Rattle.lt_script.specs.Reading.{◌>>=◌}

-- What was read so far, followed by what is still to be read.
abbrev pub behind : List (List ℕ × Access) → Result (List (List ℕ × Access)) ScriptFault → Result (List (List ℕ × Access)) ScriptFault
behind prefix read = read >>= λ accesses. Ok (prefix ++ accesses)
