-- What holds of each scan, said of a scan whose steps may be refused with other errors.
use Rattle.std.proofs.Common.{◌≡◌, ℕ, ◌<◌, length, Result, Ok, Err}
use Rattle.lt_ids.specs.Ids.{IsNumber}
use Rattle.lt_words.specs.History.{LetIn}
use Rattle.lt_shard.specs.declared.answer.StepError.TheVariants.{Memory}
use Rattle.lt_walk.specs.declared.scan_results.Scan.{Scan}
use Rattle.lt_walk.specs.declared.scan_results.Scan.TheVariants.{Waiting, TooLong}
use Rattle.lt_walk.specs.declared.scan_results.ScanError.{ScanError}
use Rattle.lt_walk.specs.declared.scan_results.ScanError.TheVariants as refused
use Rattle.lt_walk.specs.Laws.{IsTooLong}
use Rattle.std.specs.Result.{IsErr}
use Rattle.lt_walk.specs.Reported.{GuardState, GuardStays, IsScanPartway, TellsScan, GoesOnOnlyIfLet, current_wait}
use Rattle.lt_walk.specs.Sound.{IsSoundWalk}
use Rattle.lt_walk.proofs.WentOn.{went_on, was_let, scan_stays, waits_inside}
use Rattle.lt_walk.proofs.Stopping.{too_long, long_inside}

-- a scan that a refused step ended
pub tells_partway : {E : Type 0} (max_waits : ℕ) (old new : GuardState) (r : Result (Result Scan ScanError) E) → IsErr r → IsScanPartway max_waits old new → TellsScan max_waits old new r
tells_partway max_waits old new (Ok result) failed scan = absurd cc
tells_partway max_waits old new (Err e) failed scan = scan

pub tells_went_on : {E : Type 0} (max_waits : ℕ) (old new : GuardState) (r : Result (Result Scan ScanError) E) → TellsScan max_waits old new r → IsNumber old.walk.asked.number → IsSoundWalk old.walk → GoesOnOnlyIfLet old new r
tells_went_on max_waits old new (Ok result) scan number sound = went_on max_waits old new result scan number sound
tells_went_on max_waits old new (Err e) scan number sound = λ waits. went_on max_waits old new (Err refused.Memory) (scan Memory) number sound waits (λ same. cc)

pub tells_was_let : {E : Type 0} (max_waits : ℕ) (old new : GuardState) (r : Result (Result Scan ScanError) E) → TellsScan max_waits old new r → LetIn old.pass.seen old.pass.number (current_wait old.walk) → LetIn new.pass.seen new.pass.number (current_wait old.walk)
tells_was_let max_waits old new (Ok result) scan there = was_let max_waits old new result scan there
tells_was_let max_waits old new (Err e) scan there = was_let max_waits old new (Err refused.Memory) (scan Memory) there

pub tells_stays : {E : Type 0} (max_waits : ℕ) (old new : GuardState) (r : Result (Result Scan ScanError) E) → TellsScan max_waits old new r → GuardStays old new
tells_stays max_waits old new (Ok result) scan = scan_stays max_waits old new result scan
tells_stays max_waits old new (Err e) scan = scan_stays max_waits old new (Err refused.Memory) (scan Memory)

pub tells_waits_inside : {E : Type 0} (max_waits : ℕ) (old new : GuardState) (r : Result (Result Scan ScanError) E) (index : ℕ) → TellsScan max_waits old new r → IsSoundWalk new.walk → r ≡ Ok (Ok (Waiting index)) → index < length new.walk.asked.keys
tells_waits_inside max_waits old new (Ok result) index scan sound is = waits_inside max_waits old new result index scan sound (let same : result ≡ Ok (Waiting index) = cc in same)
tells_waits_inside max_waits old new (Err e) index scan sound is = absurd cc

pub tells_too_long : {E : Type 0} (max_waits : ℕ) (old new : GuardState) (r : Result (Result Scan ScanError) E) (index : ℕ) → TellsScan max_waits old new r → r ≡ Ok (Ok (TooLong index)) → IsTooLong old new index
tells_too_long max_waits old new (Ok result) index scan is = too_long max_waits old new result index scan (let same : result ≡ Ok (TooLong index) = cc in same)
tells_too_long max_waits old new (Err e) index scan is = absurd cc

pub tells_long_inside : {E : Type 0} (max_waits : ℕ) (old new : GuardState) (r : Result (Result Scan ScanError) E) (index : ℕ) → TellsScan max_waits old new r → r ≡ Ok (Ok (TooLong index)) → index < length new.walk.asked.keys
tells_long_inside max_waits old new (Ok result) index scan is = long_inside max_waits old new result index scan (scan_stays max_waits old new result scan).asked (let same : result ≡ Ok (TooLong index) = cc in same)
tells_long_inside max_waits old new (Err e) index scan is = absurd cc
