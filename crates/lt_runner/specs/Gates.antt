-- What a gate may answer before a line.
use Rattle.std.specs.Prelude.{ℕ, Bool, true, false, IsTrue, List, [], ◌∷◌}
use Rattle.lt_script.specs.declared.command.Command.{Command}

-- Whether a gate may give this answer before this line of this pass. True lets the line run, and false refuses it.
abbrev pub GateAnswers : Type 0
GateAnswers = ℕ → ℕ → Bool → Bool

-- The gate that lets every line run.
abbrev pub open_gate : GateAnswers
open_gate = λ pass line answer. answer

-- The gate may let the line run.
abbrev pub MayRun : GateAnswers → Command → Type 0
MayRun gate line = IsTrue (gate line.pass line.line true)

-- The gate may refuse the line.
abbrev pub MayRefuse : GateAnswers → Command → Type 0
MayRefuse gate line = IsTrue (gate line.pass line.line false)

-- The gate may refuse the first of these lines.
abbrev pub MayRefuseNext : GateAnswers → List Command → Type 0
MayRefuseNext gate [] = ⊥
MayRefuseNext gate (line ∷ lines) = MayRefuse gate line

-- The gate refuses no line.
abbrev pub NeverRefuses : GateAnswers → Type 0
NeverRefuses gate = (line : Command) → MayRefuse gate line → ⊥
