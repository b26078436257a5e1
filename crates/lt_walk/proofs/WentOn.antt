-- What a scan keeps, at which key a request waits, and that a request that waited proceeds only if it was let
-- through.
use Rattle.std.proofs.Common.{◌≡◌, ◌≢◌, ℕ, ◌<◌, Bool, true, false, cond, nat_eq, nat_lt, List, [], ◌∷◌, length, Option, Some, None, Result, Ok, Err, refl, sym, ◌∙◌, ap, subst}
use mathlib.Core.List.{IsPrefix}
use Rattle.lt_ids.specs.Ids.{IsNumber, value_of}
use Rattle.lt_words.specs.History.{LetIn}
use Rattle.lt_rules.specs.declared.call.Call.{Call}
use Rattle.lt_words.specs.Row.{PassState, SeesMore}
use Rattle.lt_words.proofs.Prefixes.{prefix_trans}
use Rattle.lt_walk.specs.declared.walk_progress.Mode.{Mode}
use Rattle.lt_walk.specs.declared.walk_progress.Mode.TheVariants.{Free, Awaiting, Let, Stopped, Leaving}
use Rattle.lt_walk.specs.declared.walk_progress.Progress.{Progress}
use Rattle.lt_walk.specs.declared.walk_progress.ScanEnd.{ScanEnd}
use Rattle.lt_walk.specs.declared.scan_results.Scan.{Scan}
use Rattle.lt_walk.specs.declared.scan_results.Scan.TheVariants.{Proceed, Rescan, Waiting, TooLong}
use Rattle.lt_walk.specs.declared.scan_results.ScanError.{ScanError}
use Rattle.lt_walk.specs.declared.scan_results.ScanError.TheVariants.{StillWaiting, WaitsOut}
use Rattle.lt_walk.specs.Machine.{after_status, mode_after_status, scan_start, scan_start_in, scan_end, restarted, is_awaiting, is_stopped, next_visit, WalkState, IsScanBegun, Ends, of_step, leaving}
use Rattle.lt_walk.specs.Machine as runs
use Rattle.lt_walk.specs.Reported.{GuardState, AreReported, IsScan, IsLeavingFrom, PassStays, GuardStays, current_wait}
use Rattle.lt_walk.specs.Sound.{IsSoundProgress}
use Rattle.lt_words.proofs.Histories.{let_later}
use Rattle.lt_walk.proofs.InPlace.{all_stand, prefix_same}
use Rattle.lt_walk.proofs.UnderWay.{status_tells, named}

still_waits : (m : Mode) (b : Bool) (p : Progress) (max_waits : ℕ) (old : WalkState) (steps : List runs.Step) (result : Result Scan ScanError) (after : WalkState) → m ≡ Awaiting → b ≡ false →
    IsScanBegun (scan_start_in (mode_after_status m b) p) max_waits old steps result after → result ≡ Err StillWaiting
still_waits Awaiting false p max_waits old steps result after e f s = s.1
still_waits Awaiting true p max_waits old steps result after e f s = absurd cc
still_waits Free b p max_waits old steps result after e f s = absurd cc
still_waits Let b p max_waits old steps result after e f s = absurd cc
still_waits Stopped b p max_waits old steps result after e f s = absurd cc
still_waits Leaving b p max_waits old steps result after e f s = absurd cc

-- what reported steps keep
pub reported_stays : (p : PassState) (xs : List runs.Step) (q : PassState) → AreReported p xs q → PassStays p q
reported_stays p xs q c = record { of = same_of p xs q c; number = same_number p xs q c; seen = (all_stand p q xs c).0; shown = same_shown p xs q c }
  where
    same_of : (p : PassState) (xs : List runs.Step) (q : PassState) → AreReported p xs q → q.of ≡ p.of
    same_of p [] q c = ap (λ s. s.of) c
    same_of p (x ∷ xs) q c = same_of c.0 xs q c.2 ∙ c.1.reports.of

    same_number : (p : PassState) (xs : List runs.Step) (q : PassState) → AreReported p xs q → q.number ≡ p.number
    same_number p [] q c = ap (λ s. s.number) c
    same_number p (x ∷ xs) q c = same_number c.0 xs q c.2 ∙ c.1.reports.number

    same_shown : (p : PassState) (xs : List runs.Step) (q : PassState) → AreReported p xs q → IsPrefix p.shown q.shown
    same_shown p [] q c = prefix_same p.shown q.shown (ap (λ s. s.shown) c)
    same_shown p (x ∷ xs) q c = prefix_trans p.shown c.0.shown q.shown c.1.reports.shown (same_shown c.0 xs q c.2)

stays_on : (p q r : PassState) → SeesMore p q → PassStays q r → PassStays p r
stays_on p q r a b = record { of = b.of ∙ a.of; number = b.number ∙ a.number; seen = prefix_trans p.seen q.seen r.seen a.seen b.seen; shown = prefix_trans p.shown q.shown r.shown a.shown b.shown }

begun_asked : (b : Result Progress ScanError) (max_waits : ℕ) (old : WalkState) (steps : List runs.Step) (result : Result Scan ScanError) (after : WalkState) → IsScanBegun b max_waits old steps result after → after.asked ≡ old.asked
begun_asked (Err e) max_waits old steps result after s = ap (λ w. w.asked) s.2
begun_asked (Ok p) max_waits old steps result after s = s.stays

pub scan_stays : (max_waits : ℕ) (old new : GuardState) (result : Result Scan ScanError) → IsScan max_waits old new result → GuardStays old new
scan_stays max_waits old new result s = record {
  pass = stays_on old.pass s.read new.pass s.reads (reported_stays s.read s.steps new.pass s.reported);
  asked = begun_asked (scan_start (after_status old.walk.asked.number old.walk.progress s.word)) max_waits old.walk s.steps result new.walk s.scan;
}

pub leave_stays : (begun after : GuardState) → IsLeavingFrom begun after → GuardStays begun after
leave_stays begun after l = record { pass = reported_stays begun.pass l.steps after.pass l.reported; asked = l.run.stays }

-- what is kept since a leave began is kept since before it
pub begun_stays : (old begun new : GuardState) → begun ≡ record old { walk = leaving old.walk } → GuardStays begun new → GuardStays old new
begun_stays old begun new is stays = record {
  pass = subst (λ p. PassStays p new.pass) (ap (λ g. g.pass) is) stays.pass;
  asked = stays.asked ∙ ap (λ g. g.walk.asked) is;
}

-- ---- a request that waits does so at a key

abbrev pub ended : Progress → Result Scan ScanError → ScanEnd
ended p r = record { after = p; result = r }

abbrev pub end_in : Bool → Bool → Bool → Progress → Progress → ScanEnd
end_in waits stops inside p q =
    cond waits (ended p (Ok (Waiting p.index))) (cond stops (ended q (Ok (TooLong p.index))) (cond inside (ended p (Err WaitsOut)) (ended q (Ok (cond p.waited Rescan Proceed)))))

waits_in : (waits stops inside waited : Bool) (p q : Progress) (index : ℕ) → p.waited ≡ waited → Ok (Waiting index) ≡ (end_in waits stops inside p q).result → (waits ≡ true) × (index ≡ p.index) × ((end_in waits stops inside p q).after ≡ p)
waits_in true stops inside waited p q index w e = (refl, cc, refl)
waits_in false true inside waited p q index w e = absurd cc
waits_in false false true waited p q index w e = absurd cc
waits_in false false false true p q index w e = absurd (let never : Ok (Waiting index) ≡ Ok Rescan = rw w at e in cc)
waits_in false false false false p q index w e = absurd (let never : Ok (Waiting index) ≡ Ok Proceed = rw w at e in cc)

pub stops_in : (waits stops inside waited : Bool) (p q : Progress) (index : ℕ) → p.waited ≡ waited → Ok (TooLong index) ≡ (end_in waits stops inside p q).result → (stops ≡ true) × (index ≡ p.index) × ((end_in waits stops inside p q).after ≡ q)
stops_in true stops inside waited p q index w e = absurd cc
stops_in false true inside waited p q index w e = (refl, cc, refl)
stops_in false false true waited p q index w e = absurd cc
stops_in false false false true p q index w e = absurd (let never : Ok (TooLong index) ≡ Ok Rescan = rw w at e in cc)
stops_in false false false false p q index w e = absurd (let never : Ok (TooLong index) ≡ Ok Proceed = rw w at e in cc)

awaits : (m : Mode) → is_awaiting m ≡ true → m ≡ Awaiting
awaits Awaiting e = refl
awaits Free e = absurd cc
awaits Let e = absurd cc
awaits Stopped e = absurd cc
awaits Leaving e = absurd cc

-- a request that a scan left waiting, and its index
record WaitsAt (p : Progress) (index : ℕ) : Type 0 where
  waits : p.mode ≡ Awaiting
  here : index ≡ p.index

end_waits : (keys : ℕ) (p after : Progress) (index : ℕ) → Ok (Waiting index) ≡ (scan_end keys p).result → after ≡ (scan_end keys p).after → WaitsAt after index
end_waits keys p after index e f =
    let all = waits_in (is_awaiting p.mode) (is_stopped p.mode) (nat_lt p.index keys) p.waited p (restarted p) index refl e in
    let same : after ≡ p = f ∙ all.2 in
    record { waits = ap (λ s. s.mode) same ∙ awaits p.mode all.0; here = all.1 ∙ sym (ap (λ s. s.index) same) }

ends_waiting : (next : Option (List ℕ × Call)) (keys : ℕ) (last after : Progress) (result : Result Scan ScanError) (index : ℕ) → Ends next (scan_end keys last) last result after → result ≡ Ok (Waiting index) → WaitsAt after index
ends_waiting None keys last after result index e is = end_waits keys last after index (sym is ∙ e.0) e.1
ends_waiting (Some x) keys last after result index e is = absurd (let never : Ok (Waiting index) ≡ Err (of_step e.0.0) = sym is ∙ e.0.1 in cc)

begun_waits : (b : Result Progress ScanError) (max_waits : ℕ) (old : WalkState) (steps : List runs.Step) (result : Result Scan ScanError) (after : WalkState) (index : ℕ) → IsScanBegun b max_waits old steps result after → result ≡ Ok (Waiting index) → WaitsAt after.progress index
begun_waits (Err e) max_waits old steps result after index s is = absurd (let never : Ok (Waiting index) ≡ Err e = sym is ∙ s.1 in cc)
begun_waits (Ok p) max_waits old steps result after index s is = ends_waiting (next_visit old.asked max_waits s.last) (length old.asked.keys) s.last after.progress result index s.ends is

pub waits_inside : (max_waits : ℕ) (old new : GuardState) (result : Result Scan ScanError) (index : ℕ) → IsScan max_waits old new result → IsSoundProgress (length new.walk.asked.keys) new.walk.progress (length new.walk.answers) → result ≡ Ok (Waiting index) → index < length new.walk.asked.keys
waits_inside max_waits old new result index s sound is =
    let at = begun_waits (scan_start (after_status old.walk.asked.number old.walk.progress s.word)) max_waits old.walk s.steps result new.walk index s.scan is in
    subst (λ k. k < length new.walk.asked.keys) (sym at.here) (sound.waits_at_key at.waits)

-- ---- a request that proceeds

by_test : (P : Type 0) (b : Bool) → (b ≡ true → P) → (b ≡ false → P) → P
by_test P true t f = t refl
by_test P false t f = f refl

pub went_on : (max_waits : ℕ) (old new : GuardState) (result : Result Scan ScanError) → IsScan max_waits old new result → IsNumber old.walk.asked.number → IsSoundProgress (length old.walk.asked.keys) old.walk.progress (length old.walk.answers) →
    old.walk.progress.mode ≡ Awaiting → result ≢ Err StillWaiting → LetIn new.pass.seen new.pass.number (current_wait old.walk)
went_on max_waits old new result held number sound waits goes =
    let there : LetIn held.read.seen old.pass.number (current_wait old.walk) =
    by_test (LetIn held.read.seen old.pass.number (current_wait old.walk)) (nat_eq held.word (value_of (current_wait old.walk)))
    (λ e. status_tells held.read.seen old.pass.number held.word (current_wait old.walk) number (sound.has_ticket waits, sound.in_range) held.status (named held.word (value_of (current_wait old.walk)) e))
    (λ e. absurd (goes (still_waits old.walk.progress.mode (nat_eq held.word (value_of (current_wait old.walk))) (after_status old.walk.asked.number old.walk.progress held.word) max_waits old.walk held.steps result new.walk waits e held.scan))) in
    let same : new.pass.number ≡ old.pass.number = (reported_stays held.read held.steps new.pass held.reported).number ∙ held.reads.number in
    rw same (let_later held.read.seen new.pass.seen old.pass.number (current_wait old.walk) (all_stand held.read new.pass held.steps held.reported).0 there)

pub was_let : (max_waits : ℕ) (old new : GuardState) (result : Result Scan ScanError) → IsScan max_waits old new result → LetIn old.pass.seen old.pass.number (current_wait old.walk) → LetIn new.pass.seen new.pass.number (current_wait old.walk)
was_let max_waits old new result s there =
    let stays = (scan_stays max_waits old new result s).pass in
    rw stays.number (let_later old.pass.seen new.pass.seen old.pass.number (current_wait old.walk) stays.seen there)
