-- What holds of a guard still holds after each event.
use Rattle.std.proofs.Common.{◌≡◌, ℕ, Bool, true, false, cond, nat_lt, Result, arith}
use Rattle.lt_walk.specs.declared.walk_progress.Progress.{Progress}
use Rattle.lt_walk.specs.declared.walk_progress.ScanEnd.{ScanEnd}
use Rattle.lt_walk.specs.declared.scan_results.Scan.{Scan}
use Rattle.lt_walk.specs.declared.scan_results.ScanError.{ScanError}
use Rattle.lt_walk.specs.Machine.{scan_end, restarted, is_awaiting, is_stopped}
use Rattle.lt_walk.specs.Sound.{IsSoundProgress}

-- back at the list's start, with nothing to wait for
restarted_sound : (keys : ℕ) (p : Progress) (answers : ℕ) → IsSoundProgress keys p answers → IsSoundProgress keys (restarted p) answers
restarted_sound keys p answers sound = record {
  in_list = omega arith;
  in_range = sound.in_range;
  has_ticket = λ e. absurd cc;
  waits_at_key = λ e. absurd cc;
  let_at_key = λ e. absurd cc;
  leaves_in_order = λ e. absurd cc;
}

abbrev ended : Progress → Result Scan ScanError → ScanEnd
ended p r = record { after = p; result = r }

-- by cases: the request waits, was stopped, or has keys left
at_end_by : (waits stops inside : Bool) (keys : ℕ) (p : Progress) (answers : ℕ) (a b c d : Result Scan ScanError) → IsSoundProgress keys p answers →
    IsSoundProgress keys (cond waits (ended p a) (cond stops (ended (restarted p) b) (cond inside (ended p c) (ended (restarted p) d)))).after answers
at_end_by true stops inside keys p answers a b c d sound = sound
at_end_by false true inside keys p answers a b c d sound = restarted_sound keys p answers sound
at_end_by false false true keys p answers a b c d sound = sound
at_end_by false false false keys p answers a b c d sound = restarted_sound keys p answers sound

at_end : (keys : ℕ) (p : Progress) (answers : ℕ) → IsSoundProgress keys p answers → IsSoundProgress keys (scan_end keys p).after answers
at_end keys p answers sound = at_end_by (is_awaiting p.mode) (is_stopped p.mode) (nat_lt p.index keys) keys p answers _ _ _ _ sound

pub sound_at_end : (keys : ℕ) (p : Progress) (answers : ℕ) (ended : ScanEnd) → ended ≡ scan_end keys p → IsSoundProgress keys p answers → IsSoundProgress keys ended.after answers
sound_at_end keys p answers ended e sound = rw e (at_end keys p answers sound)
