-- Reading that stops at the first fault.
use Rattle.std.specs.Prelude.{◌≡◌, Option, Some, None, Result, Ok, Err}
use Rattle.lt_script.specs.declared.error.ScriptFault.{ScriptFault}
use Rattle.lt_script.specs.declared.error.LineError.{LineError}
use Rattle.lt_script.specs.declared.error.LineError.TheVariants as refusals

-- Proceeds with what was read, or stops at the fault.
infixl 10 ◌>>=◌
abbrev pub ◌>>=◌ : {A B : Type 0} → Result A ScriptFault → (A → Result B ScriptFault) → Result B ScriptFault
(Ok x) >>= f = f x
(Err fault) >>= f = Err fault

-- The value, or this fault if there is none.
abbrev pub or_fault : {A : Type 0} → ScriptFault → Option A → Result A ScriptFault
or_fault fault None = Err fault
or_fault fault (Some x) = Ok x

-- The fault is the one that reading meets. Out of memory says nothing about it.
abbrev pub IsReadFault : {Y : Type 0} → LineError → Result Y ScriptFault → Type 0
IsReadFault refusals.Memory read = Unit {0}
IsReadFault (refusals.Fault fault) read = read ≡ Err fault

-- What the code has read is, seen through `view`, what reading gives.
abbrev pub IsParsedAs : {X Y : Type 0} → (X → Y) → Result X LineError → Result Y ScriptFault → Type 0
IsParsedAs view (Ok x) read = read ≡ Ok (view x)
IsParsedAs view (Err refusal) read = IsReadFault refusal read
