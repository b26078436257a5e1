-- What a scan and a poll tell.
use Rattle.std.proofs.Common.{◌≡◌, ◌≢◌, ◌≤◌, arith, ℕ, Bool, true, false, cond, nat_eq, nat_lt, List, [], length, Option, Some, None, Result, Ok, Err, refl, sym, ap, subst, ◌∙◌}
use Rattle.std.specs.Prelude.{slice_get}
use Rattle.std.specs.List.{AllByRecursion}
use Rattle.lt_ids.specs.Ids.{Wait, value_of}
use Rattle.lt_ids.specs.declared.request.Access.{Access}
use Rattle.lt_rules.specs.declared.call.Call.{Call}
use Rattle.lt_words.specs.History.{LetIn, IsStatus}
use Rattle.lt_words.specs.Shown.{word_of}
use Rattle.lt_words.specs.Row.{Opening}
use Rattle.lt_words.proofs.Showing.{word_later}
use Rattle.lt_shard.specs.declared.answer.StepError.{StepError}
use Rattle.lt_shard.specs.declared.answer.StepError.TheVariants as steps
use Rattle.lt_walk.specs.declared.walk_progress.Mode.{Mode}
use Rattle.lt_walk.specs.declared.walk_progress.Mode.TheVariants.{Free, Awaiting, Let, Stopped, Leaving}
use Rattle.lt_walk.specs.declared.walk_progress.Progress.{Progress}
use Rattle.lt_walk.specs.declared.scan_results.Scan.{Scan}
use Rattle.lt_walk.specs.declared.scan_results.Scan.TheVariants as scans
use Rattle.lt_walk.specs.declared.scan_results.ScanError.{ScanError}
use Rattle.lt_walk.specs.declared.scan_results.ScanError.TheVariants as refused
use Rattle.lt_walk.specs.declared.scan_results.Poll.{Poll}
use Rattle.lt_walk.specs.declared.scan_results.Poll.TheVariants as polls
use Rattle.lt_walk.specs.Machine.{after_status, mode_after_status, polled, polled_in, scan_start_in, scan_end, is_awaiting, is_stopped, next_visit, WalkState, Step, Ends, IsScanBegun, of_step}
use Rattle.lt_walk.specs.Reported.{GuardState, IsScan, IsPoll, current_wait}
use Rattle.lt_runner.specs.Outcomes.{OutcomeTells, ComesAfter, Hears}
use Rattle.lt_runner.specs.declared.answer.LineAnswer.{LineAnswer}
use Rattle.lt_runner.specs.declared.answer.LineAnswer.TheVariants as answers
use Rattle.lt_runner.specs.Machine.{let_in_mode, let_from, let_read, let_gone_on, state_after_status, numbers_of, poll_answer, IsScanAnswer, IsToldAt}
use Rattle.lt_runner.specs.Execution.{Polls}
use Rattle.lt_runner.proofs.Telling.{prefix_self, tells_more, tells_then, tells_steps, tells_let}

-- ---- a scan that proceeds is not answered `StillWaiting`

pub by_test : (P : Type 0) (b : Bool) → (b ≡ true → P) → (b ≡ false → P) → P
by_test P true t f = t refl
by_test P false t f = f refl

-- How a scan ends if no visit comes next.
pub end_waits : (keys : ℕ) (p : Progress) → is_awaiting p.mode ≡ true → (scan_end keys p).result ≡ Ok (scans.Waiting p.index)
end_waits keys p w = rw w refl

pub end_stops : (keys : ℕ) (p : Progress) → is_awaiting p.mode ≡ false → is_stopped p.mode ≡ true → (scan_end keys p).result ≡ Ok (scans.TooLong p.index)
end_stops keys p w s = rw (w, s) refl

pub end_out : (keys : ℕ) (p : Progress) → is_awaiting p.mode ≡ false → is_stopped p.mode ≡ false → nat_lt p.index keys ≡ true → (scan_end keys p).result ≡ Err refused.WaitsOut
end_out keys p w s m = rw (w, s, m) refl

pub end_done : (keys : ℕ) (p : Progress) → is_awaiting p.mode ≡ false → is_stopped p.mode ≡ false → nat_lt p.index keys ≡ false → (scan_end keys p).result ≡ Ok (cond p.waited scans.Rescan scans.Proceed)
end_done keys p w s m = rw (w, s, m) refl

abbrev failed : ScanError → Result Scan ScanError
failed e = Err e

ended_so : (keys : ℕ) (p : Progress) → (scan_end keys p).result ≢ Err refused.StillWaiting
ended_so keys p = by_test ((scan_end keys p).result ≢ Err refused.StillWaiting) (is_awaiting p.mode)
    (λ w e. absurd (let never : Ok (scans.Waiting p.index) ≡ Err refused.StillWaiting = sym (end_waits keys p w) ∙ e in cc))
    (λ w. by_test ((scan_end keys p).result ≢ Err refused.StillWaiting) (is_stopped p.mode)
    (λ s e. absurd (let never : Ok (scans.TooLong p.index) ≡ Err refused.StillWaiting = sym (end_stops keys p w s) ∙ e in cc))
    (λ s. by_test ((scan_end keys p).result ≢ Err refused.StillWaiting) (nat_lt p.index keys)
    (λ m e. absurd (let never : failed refused.WaitsOut ≡ failed refused.StillWaiting = sym (end_out keys p w s m) ∙ e in cc))
    (λ m e. absurd (let never : Ok (cond p.waited scans.Rescan scans.Proceed) ≡ Err refused.StillWaiting = sym (end_done keys p w s m) ∙ e in cc))))

refused_so : (e : StepError) → failed (of_step e) ≢ failed refused.StillWaiting
refused_so steps.HistoryFull = λ e. cc
refused_so steps.Memory = λ e. cc

ends_so : (next : Option (List ℕ × Call)) (keys : ℕ) (last after : Progress) (result : Result Scan ScanError) → Ends next (scan_end keys last) last result after → result ≢ Err refused.StillWaiting
ends_so None keys last after result e = λ is. ended_so keys last (sym e.0 ∙ is)
ends_so (Some y) keys last after result e = λ is. refused_so e.0.0 (sym e.0.1 ∙ is)

goes_on : (m : Mode) (p : Progress) (max_waits : ℕ) (old : WalkState) (xs : List Step) (result : Result Scan ScanError) (after : WalkState) → m ≡ Let → IsScanBegun (scan_start_in m p) max_waits old xs result after → result ≢ Err refused.StillWaiting
goes_on Let p max_waits old xs result after e s = ends_so (next_visit old.asked max_waits s.last) (length old.asked.keys) s.last after.progress result s.ends
goes_on Free p max_waits old xs result after e s = absurd cc
goes_on Awaiting p max_waits old xs result after e s = absurd cc
goes_on Stopped p max_waits old xs result after e s = absurd cc
goes_on Leaving p max_waits old xs result after e s = absurd cc

-- The ticket with which a scan proceeds, if it proceeds because of its own reading of the word.
lets_in : (m n : Mode) (P : Wait → Type 0) (t : Wait) → (m ≡ Awaiting → n ≡ Let → P t) → AllByRecursion P (let_from m (let_in_mode n t))
lets_in Awaiting Let P t f = (f refl refl, tt)
lets_in Awaiting Free P t f = tt
lets_in Awaiting Awaiting P t f = tt
lets_in Awaiting Stopped P t f = tt
lets_in Awaiting Leaving P t f = tt
lets_in Free n P t f = tt
lets_in Let n P t f = tt
lets_in Stopped n P t f = tt
lets_in Leaving n P t f = tt

pub tells_scan : (max_waits : ℕ) (old new : GuardState) (result : Result Scan ScanError) → (s : IsScan max_waits old new result) → new.pass.number ≡ old.pass.number
    → (old.walk.progress.mode ≡ Awaiting → result ≢ Err refused.StillWaiting → LetIn new.pass.seen new.pass.number (current_wait old.walk)) → OutcomeTells old.pass new.pass s.steps [] (let_gone_on (Some old.walk) s.word)
tells_scan max_waits old new result s number went =
    let heard' : Progress = after_status old.walk.asked.number old.walk.progress s.word in
    let on : heard'.mode ≡ Let → result ≢ Err refused.StillWaiting = λ e. goes_on heard'.mode heard' max_waits old.walk s.steps result new.walk e s.scan in
    tells_let old.pass new.pass s.steps (let_gone_on (Some old.walk) s.word) (tells_then old.pass s.read new.pass [] s.steps [] [] [] [] (tells_more old.pass s.read s.reads) (tells_steps s.read s.steps new.pass s.reported))
    (lets_in old.walk.progress.mode heard'.mode (LetIn new.pass.seen old.pass.number) (current_wait old.walk)
    (λ w l. subst (λ (n : ℕ). LetIn new.pass.seen n (current_wait old.walk)) number (went w (on l))))

-- A scan hears the lets that were shown before.
pub hears_scan : (max_waits : ℕ) (old new : GuardState) (result : Result Scan ScanError) → (s : IsScan max_waits old new result) → Hears old.pass new.pass s.steps s.word
hears_scan max_waits old new result s =
    let made : OutcomeTells s.read new.pass s.steps [] [] = tells_steps s.read s.steps new.pass s.reported in
    let more : word_of old.pass.number old.pass.shown ≤ word_of old.pass.number s.read.shown = word_later old.pass.number old.pass.shown s.read.shown s.reads.shown in
    let shards : s.read.of.shards ≡ old.pass.of.shards = ap (λ (o : Opening). o.shards) s.reads.of in
    record {
      above = omega (arith, more, s.word_is);
      seen = s.read.seen;
      status = s.status;
      within = made.seen;
      after = subst (λ (n : ℕ). AllByRecursion (ComesAfter n s.read.seen) s.steps) shards made.after;
    }

-- ---- polls

through : (m : Mode) (P : Wait → Type 0) (t : Wait) → (polled_in m ≡ polls.Through → P t) → AllByRecursion P (let_in_mode m t)
through Let P t f = (f refl, tt)
through Free P t f = tt
through Awaiting P t f = tt
through Stopped P t f = tt
through Leaving P t f = tt

pub one_poll : (old new : GuardState) (found : Poll) → IsPoll old new found → (found ≡ polls.Through → LetIn new.pass.seen new.pass.number (current_wait new.walk)) → Polls old found new
one_poll old new found p let_in =
    let after : new.walk ≡ state_after_status old.walk p.word = p.walk in
    let mode : new.walk.progress.mode ≡ (state_after_status old.walk p.word).progress.mode = ap (λ (w : WalkState). w.progress.mode) after in
    let wait : current_wait new.walk ≡ current_wait old.walk = ap current_wait after in
    record {
      word = p.word;
      after = after;
      answer = p.answer;
      tells = tells_let old.pass new.pass [] (let_read (Some old.walk) p.word) (tells_more old.pass new.pass p.reads)
          (through (state_after_status old.walk p.word).progress.mode (LetIn new.pass.seen old.pass.number) (current_wait old.walk)
          (λ e. subst (λ (n : ℕ). LetIn new.pass.seen n (current_wait old.walk)) p.reads.number
          (subst (λ (t : Wait). LetIn new.pass.seen new.pass.number t) wait (let_in (p.answer ∙ (ap polled_in mode ∙ e))))));
      above = let more : word_of old.pass.number old.pass.shown ≤ word_of old.pass.number new.pass.shown = word_later old.pass.number old.pass.shown new.pass.shown p.reads.shown in omega (arith, more, p.word_is);
      status = p.status;
    }

still : (m : Mode) (b : Bool) → polls.Waiting ≡ polled_in (mode_after_status m b) → mode_after_status m b ≡ m
still Free true e = refl
still Free false e = refl
still Awaiting true e = cc
still Awaiting false e = refl
still Let true e = refl
still Let false e = refl
still Stopped true e = refl
still Stopped false e = refl
still Leaving true e = refl
still Leaving false e = refl

no_let : (m : Mode) (t : Wait) → polls.Waiting ≡ polled_in m → let_in_mode m t ≡ []
no_let Free t e = refl
no_let Awaiting t e = refl
no_let Let t e = cc
no_let Stopped t e = refl
no_let Leaving t e = refl

-- A request that still waits is unchanged.
same : (s : WalkState) (w : ℕ) → polls.Waiting ≡ polled (state_after_status s w).progress → state_after_status s w ≡ s
same s w e = ap (λ (m : Mode). record s { progress = record s.progress { mode = m } }) (still s.progress.mode (nat_eq w (value_of (current_wait s))) e)

-- After a poll that found nothing, a further poll is like the first.
pub polls_then : (a b c : GuardState) (r : Poll) → Polls a polls.Waiting b → Polls b r c → Polls a r c
polls_then a b c r p q =
    let waits : polls.Waiting ≡ polled (state_after_status a.walk p.word).progress = p.answer ∙ ap (λ (s : WalkState). polled s.progress) p.after in
    let b_is : b.walk ≡ a.walk = p.after ∙ same a.walk p.word waits in
    let none : let_read (Some a.walk) p.word ≡ [] = no_let (state_after_status a.walk p.word).progress.mode (current_wait a.walk) waits in
    let first : OutcomeTells a.pass b.pass [] [] [] = subst (λ (l : List Wait). OutcomeTells a.pass b.pass [] [] l) none p.tells in
    let second : OutcomeTells b.pass c.pass [] [] (let_read (Some a.walk) q.word) = subst (λ (s : WalkState). OutcomeTells b.pass c.pass [] [] (let_read (Some s) q.word)) b_is q.tells in
    record {
      word = q.word;
      after = q.after ∙ ap (λ (s : WalkState). state_after_status s q.word) b_is;
      answer = q.answer;
      tells = tells_then a.pass b.pass c.pass [] [] [] [] [] (let_read (Some a.walk) q.word) first second;
      above =
          let same : b.pass.number ≡ a.pass.number = first.number in
          let reached : word_of a.pass.number b.pass.shown ≤ q.word = subst (λ (n : ℕ). word_of n b.pass.shown ≤ q.word) same q.above in
          let more : word_of a.pass.number a.pass.shown ≤ word_of a.pass.number b.pass.shown = word_later a.pass.number a.pass.shown b.pass.shown first.shown in
          omega arith;
      status = subst (λ (n : ℕ). IsStatus c.pass.seen n q.word) first.number q.status;
    }

-- Polls hear the lets that were shown before them.
pub hears_polls : (old new : GuardState) (found : Poll) → (p : Polls old found new) → Hears old.pass new.pass [] p.word
hears_polls old new found p = record { above = p.above; seen = new.pass.seen; status = p.status; within = prefix_self new.pass.seen; after = tt }

-- A poll draws no number.
pub polls_draw_none : (turns : Option ℕ) (found : Poll) → numbers_of (poll_answer turns found) ≡ []
polls_draw_none turns polls.Through = refl
polls_draw_none None polls.Waiting = refl
polls_draw_none (Some n) polls.Waiting = refl
polls_draw_none turns polls.Idle = refl

-- A scan draws no number.
told_draws_none : (told : List ℕ → LineAnswer) (k : Option (List ℕ × Access)) (answer : LineAnswer) → ((key : List ℕ) → numbers_of (told key) ≡ []) → IsToldAt told k answer → numbers_of answer ≡ []
told_draws_none told None answer none h = absurd h
told_draws_none told (Some k) answer none h = ap numbers_of h ∙ none k.0

pub scans_draw_none : (keys : List (List ℕ × Access)) (result : Result Scan ScanError) (answer : LineAnswer) → IsScanAnswer keys result answer → numbers_of answer ≡ []
scans_draw_none keys (Ok scans.Proceed) answer h = ap numbers_of h
scans_draw_none keys (Ok scans.Rescan) answer h = ap numbers_of h
scans_draw_none keys (Ok (scans.Waiting index)) answer h = told_draws_none (λ key. answers.WaitingAt key) (slice_get keys index) answer (λ key. refl) h
scans_draw_none keys (Ok (scans.TooLong index)) answer h = told_draws_none (λ key. answers.TooLongAt key) (slice_get keys index) answer (λ key. refl) h
scans_draw_none keys (Err refused.Leaving) answer h = ap numbers_of h
scans_draw_none keys (Err refused.StillWaiting) answer h = ap numbers_of h
scans_draw_none keys (Err refused.WaitsOut) answer h = ap numbers_of h
scans_draw_none keys (Err refused.HistoryFull) answer h = ap numbers_of h
scans_draw_none keys (Err refused.Memory) answer h = absurd h
