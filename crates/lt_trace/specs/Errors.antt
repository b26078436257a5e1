-- Which errors come before the first write of the output.
use Rattle.std.specs.Prelude.{◌≡◌, Bool, true, false}
use Rattle.lt_trace.specs.declared.error.SortError.{SortError}
use Rattle.lt_trace.specs.declared.error.SortError.TheVariants.{Refused, Read}

-- The error is one of the input: a line was refused, or a read failed.
abbrev pub is_input_error : SortError → Bool
is_input_error (Refused line fault) = true
is_input_error Read = true
is_input_error _ = false

-- The error is none of the input.
abbrev pub IsOfOutput : SortError → Type 0
IsOfOutput e = is_input_error e ≡ false
