-- A request that waits learns that it was let through, if its wait was shown to it.
use Rattle.std.proofs.Common.{◌≡◌, ℕ, ◌<◌, ◌≤◌, Bool, true, false, nat_eq, nat_lt, List, [], ◌∷◌, length, Option, Some, None, Result, Err, inl, inr, ⊎_elim, refl, sym, subst, ◌∙◌, ap, arith}
use Rattle.std.proofs.lemmas.Bool.{cases_lt}
use Rattle.std.proofs.lemmas.Bool.Decides.{nat_tests}
use Rattle.lt_ids.specs.Ids.{Wait, value_of}
use Rattle.lt_ids.specs.declared.ticket.Through.{Through as Letting}
use Rattle.lt_rules.specs.declared.call.Call.{Call}
use Rattle.lt_words.specs.declared.event.Event.{Event}
use Rattle.lt_words.specs.History.{IsLetAmong, IsStatus}
use Rattle.lt_words.specs.Shown.{IsShown, AreShown}
use Rattle.lt_words.proofs.Histories.{let_later}
use Rattle.lt_words.proofs.Showing.{word_later, shown_later}
use Rattle.lt_shard.specs.declared.answer.StepError.{StepError}
use Rattle.lt_shard.specs.declared.answer.StepError.TheVariants.{HistoryFull, Memory}
use Rattle.lt_walk.specs.declared.walk_progress.Mode.{Mode}
use Rattle.lt_walk.specs.declared.walk_progress.Mode.TheVariants.{Free, Awaiting, Let, Stopped, Leaving}
use Rattle.lt_walk.specs.declared.walk_progress.Progress.{Progress}
use Rattle.lt_walk.specs.declared.scan_results.Scan.{Scan}
use Rattle.lt_walk.specs.declared.scan_results.ScanError.{ScanError}
use Rattle.lt_walk.specs.declared.scan_results.ScanError.TheVariants.{StillWaiting}
use Rattle.lt_walk.specs.declared.scan_results.Poll.TheVariants.{Through}
use Rattle.lt_walk.specs.Machine.{polled_in, mode_after_status, after_status, Step, WalkState, IsScanBegun, Ends, of_step, scan_start_in, scan_end, restarted, is_awaiting, is_stopped, next_visit}
use Rattle.lt_walk.specs.Reported.{current_wait}
use Rattle.lt_walk.specs.Laws.{LaterLet, ShownIsThrough, ShownGoesOn, NoWakeUpIsLost}
use Rattle.lt_walk.proofs.InPlace.{all_stand}
use Rattle.lt_walk.proofs.WentOn.{end_in}

hears : (m : Mode) (b : Bool) → m ≡ Awaiting → b ≡ true → polled_in (mode_after_status m b) ≡ Through
hears m b waits named = rw (waits, named) refl

-- a status word above a ticket names a later ticket
above : (h : List Event) (pass word : ℕ) (t : Wait) → IsStatus h pass word → value_of t < word → LaterLet h pass t
above h pass word t (inl none) lt = absurd (omega (arith, none, lt))
above h pass word t (inr s) lt = (s.ticket, omega (arith, s.value, lt), s.through)

pub shown_is_through : ShownIsThrough
shown_is_through old new result poll waits shown =
    let reached : value_of (current_wait old.walk) ≤ poll.word = omega (arith, shown, word_later old.pass.number old.pass.shown new.pass.shown poll.reads.shown, poll.word_is) in
    ⊎_elim
    (λ lt. inr (above new.pass.seen old.pass.number poll.word (current_wait old.walk) poll.status lt))
    (λ le.
    let here : poll.word ≡ value_of (current_wait old.walk) = omega (arith, reached, le) in
    let named : nat_eq poll.word (value_of (current_wait old.walk)) ≡ true = grind (arith, nat_tests) in
    inl (poll.answer ∙ (ap (λ w. polled_in w.progress.mode) poll.walk ∙ hears old.walk.progress.mode _ waits named)))
    (cases_lt (value_of (current_wait old.walk)) poll.word)

-- ---- the same for a scan

not_at_end : (waits stops inside waited : Bool) (p q : Progress) → p.waited ≡ waited → (end_in waits stops inside p q).result ≡ Err StillWaiting → ⊥
not_at_end true stops inside waited p q w e = absurd cc
not_at_end false true inside waited p q w e = absurd cc
not_at_end false false true waited p q w e = absurd cc
not_at_end false false false waited p q w e = absurd cc

not_of_step : (e : StepError) → of_step e ≡ StillWaiting → ⊥
not_of_step HistoryFull h = absurd cc
not_of_step Memory h = absurd cc

not_ended : (next : Option (List ℕ × Call)) (keys : ℕ) (last after : Progress) (result : Result Scan ScanError) → Ends next (scan_end keys last) last result after → result ≡ Err StillWaiting → ⊥
not_ended None keys last after result e is = not_at_end (is_awaiting last.mode) (is_stopped last.mode) (nat_lt last.index keys) last.waited last (restarted last) refl (sym e.0 ∙ is)
not_ended (Some x) keys last after result e is = not_of_step e.0.0 (let same : Err (of_step e.0.0) ≡ Err StillWaiting = sym e.0.1 ∙ is in cc)

goes : (m : Mode) (b : Bool) (p : Progress) (max_waits : ℕ) (old : WalkState) (steps : List Step) (result : Result Scan ScanError) (after : WalkState) → m ≡ Awaiting → b ≡ true →
    IsScanBegun (scan_start_in (mode_after_status m b) p) max_waits old steps result after → result ≡ Err StillWaiting → ⊥
goes Awaiting true p max_waits old steps result after e f s is = not_ended (next_visit old.asked max_waits s.last) (length old.asked.keys) s.last after.progress result s.ends is
goes Awaiting false p max_waits old steps result after e f s is = absurd cc
goes Free b p max_waits old steps result after e f s is = absurd cc
goes Let b p max_waits old steps result after e f s is = absurd cc
goes Stopped b p max_waits old steps result after e f s is = absurd cc
goes Leaving b p max_waits old steps result after e f s is = absurd cc

pub shown_goes_on : ShownGoesOn
shown_goes_on max_waits old new result s waits shown =
    let reached : value_of (current_wait old.walk) ≤ s.word = omega (arith, shown, word_later old.pass.number old.pass.shown s.read.shown s.reads.shown, s.word_is) in
    ⊎_elim
    (λ lt.
    let later : LaterLet s.read.seen old.pass.number (current_wait old.walk) = above s.read.seen old.pass.number s.word (current_wait old.walk) s.status lt in
    inr (later.0, later.1, let_later s.read.seen new.pass.seen old.pass.number later.0 (all_stand s.read new.pass s.steps s.reported).0 later.2))
    (λ le.
    let here : s.word ≡ value_of (current_wait old.walk) = omega (arith, reached, le) in
    let named : nat_eq s.word (value_of (current_wait old.walk)) ≡ true = grind (arith, nat_tests) in
    inl (λ is. goes old.walk.progress.mode (nat_eq s.word (value_of (current_wait old.walk))) (after_status old.walk.asked.number old.walk.progress s.word) max_waits old.walk s.steps result new.walk waits named s.scan is))
    (cases_lt (value_of (current_wait old.walk)) s.word)

-- ---- each request that a step lets through

among_shown : (shown lets : List Letting) (pass : ℕ) (t : Wait) → AreShown shown lets → IsLetAmong lets pass t → IsShown shown pass t
among_shown shown [] pass t all here = absurd here
among_shown shown (x ∷ lets) pass t all here = ⊎_elim
    (λ same. subst (λ (u : ℕ × Wait). IsShown shown u.0 u.1) (λ i. (same.0 i, same.1 i)) all.0)
    (λ rest. among_shown shown lets pass t all.1 rest)
    here

pub no_wake_up_is_lost : NoWakeUpIsLost
no_wake_up_is_lost before after x old new result step among told waits poll =
    shown_is_through old new result poll waits
    (shown_later old.pass.number (current_wait old.walk) after.shown old.pass.shown told (among_shown after.shown step.entry.lets old.pass.number (current_wait old.walk) step.reports.lets_shown among))
