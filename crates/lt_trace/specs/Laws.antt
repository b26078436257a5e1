-- What follows from the definitions.
use Rattle.std.specs.Prelude.{ℕ, ◌≡◌, ◌^◌, ◌≤◌, ◌<◌, List, Some}
use Rattle.lt_trace.specs.declared.line.TraceLine.{TraceLine}
use Rattle.lt_trace.specs.Step.{line_of_parts}
use Rattle.lt_trace.specs.Trace.{numbered_text, parts_of_line, IsHistoryLine}

-- The line with this key and step, with any index after its key, is the text of a line of histories. Both forms of a
-- trace are read by `line_of_parts`.
abbrev pub NumberedIsLine : Type 0
NumberedIsLine = (word step : List ℕ) (line : TraceLine) (index : ℕ) → line_of_parts word step ≡ Some (parts_of_line line)
    → 1 ≤ index → index < 2 ^ 64 → IsHistoryLine line.key index (numbered_text index line)
