-- The codes of what a call on a shared table answers.
use Rattle.std.specs.Prelude.{ℕ, Result, Ok, Err}
use Rattle.lt_walk.specs.declared.config.PrepareError.{PrepareError}
use Rattle.lt_walk.specs.declared.config.PrepareError.TheVariants as prepares
use Rattle.lt_walk.specs.declared.keys.EnterError.{EnterError}
use Rattle.lt_walk.specs.declared.keys.EnterError.TheVariants as enters
use Rattle.lt_walk.specs.declared.scan_results.Scan.{Scan}
use Rattle.lt_walk.specs.declared.scan_results.Scan.TheVariants as scans
use Rattle.lt_walk.specs.declared.scan_results.ScanError.{ScanError}
use Rattle.lt_walk.specs.declared.scan_results.ScanError.TheVariants as refused
use Rattle.lt_walk.specs.declared.scan_results.Poll.{Poll}
use Rattle.lt_walk.specs.declared.scan_results.Poll.TheVariants as polls
use Rattle.lt_walk.specs.declared.closing.CloseError.{CloseError}
use Rattle.lt_walk.specs.declared.closing.CloseError.TheVariants as closes
use Rattle.lt_try.specs.declared.error.TryError.{TryError}
use Rattle.lt_try.specs.declared.error.TryError.TheVariants as tries

-- the code of a number that is out of its range
abbrev pub prepare_code : PrepareError → ℕ
prepare_code prepares.Shards = 22
prepare_code prepares.Passes = 23
prepare_code prepares.Steps = 24
prepare_code prepares.Requests = 25
prepare_code prepares.Waits = 26
prepare_code prepares.Memory = 2

-- the code of a step that was refused
abbrev pub try_code : TryError → ℕ
try_code tries.HistoryFull = 13
try_code tries.Memory = 2
try_code tries.Busy = 12
try_code tries.Lost = 15

-- the code of a table that was not ended
abbrev pub close_code : CloseError → ℕ
close_code (closes.PassesOut missing) = 76
close_code closes.Memory = 2
close_code (closes.Counts index) = 77

-- the code of a request that did not enter
abbrev pub enter_code : EnterError → ℕ
enter_code enters.NoKeys = 28
enter_code enters.TooManyKeys = 29
enter_code enters.Memory = 2
enter_code enters.NumbersOut = 30

-- the code of what a scan answers
abbrev pub scan_code : Result (Result Scan ScanError) TryError → ℕ
scan_code (Ok (Ok scans.Proceed)) = 64
scan_code (Ok (Ok scans.Rescan)) = 65
scan_code (Ok (Ok (scans.Waiting index))) = 66
scan_code (Ok (Ok (scans.TooLong index))) = 67
scan_code (Ok (Err refused.Leaving)) = 68
scan_code (Ok (Err refused.StillWaiting)) = 69
scan_code (Ok (Err refused.WaitsOut)) = 70
scan_code (Ok (Err refused.HistoryFull)) = 13
scan_code (Ok (Err refused.Memory)) = 2
scan_code (Err e) = try_code e

-- the index of the key at which a scan ended, or 0
abbrev pub scan_index : Result (Result Scan ScanError) TryError → ℕ
scan_index (Ok (Ok (scans.Waiting index))) = index
scan_index (Ok (Ok (scans.TooLong index))) = index
scan_index _ = 0

-- the code of what a poll finds
abbrev pub poll_code : Poll → ℕ
poll_code polls.Through = 71
poll_code polls.Waiting = 66
poll_code polls.Idle = 72
