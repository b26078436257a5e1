-- A scan through a pass that is under way, and what follows from a status word.
use Rattle.std.proofs.Common.{◌≡◌, ◌≢◌, inl, inr, ℕ, Bool, true, false, nat_eq, List, [], ◌∷◌, ◌++◌, refl, sym, ◌∙◌, ap, subst, arith, Some, length}
use Rattle.std.proofs.lemmas.Bool.Decides.{nat_tests}
use Rattle.lt_walk.specs.declared.scan_results.Poll.TheVariants.{Through}
use Rattle.lt_walk.specs.Sound.{IsSoundProgress}
use mathlib.Core.List.{IsPrefix}
use Rattle.lt_ids.specs.Ids.{Wait, IsNumber, IsWaitNumber, value_of}
use Rattle.lt_words.specs.declared.event.Event.{Event}
use Rattle.lt_words.specs.History.{LetIn, IsStatus}
use Rattle.lt_words.specs.Row.{PassState}
use Rattle.lt_words.proofs.Histories.{let_later}
use Rattle.lt_walk.specs.declared.walk_progress.Mode.{Mode}
use Rattle.lt_walk.specs.declared.walk_progress.Mode.TheVariants.{Free, Awaiting, Let, Stopped, Leaving}
use Rattle.lt_walk.specs.declared.walk_progress.Progress.{Progress}
use Rattle.std.specs.Prelude.{Result, Ok, Err, IfOk, OnErr}
use Rattle.lt_rules.specs.declared.call.Call.{Call}
use Rattle.lt_shard.specs.declared.answer.Answer.{Answer}
use Rattle.lt_walk.specs.Machine.{after_status, mode_after_status, polled_in, met, met_as, is_wait, is_long, next_visit, next_leave, passed, WalkState}
use Rattle.lt_walk.specs.Machine as runs
use Rattle.lt_walk.specs.Reported.{GuardState, Reported, AreReported, current_wait}
use Rattle.lt_walk.proofs.Going.{IsGoing, IsGoing-more}
use Rattle.lt_walk.proofs.Parting.{IsParting, IsParting-more}

-- one value names one wait
one_wait : (s t : Wait) → IsNumber s.number → IsWaitNumber s.wait → IsNumber t.number → IsWaitNumber t.wait → value_of s ≡ value_of t → s ≡ t
one_wait s t a b c d e =
    let number : s.number ≡ t.number = omega arith in
    let wait : s.wait ≡ t.wait = omega arith in
    (λ i. record { number = number i; wait = wait i })

-- a status word that is the value of a wait tells that it was let through
pub status_tells : (h : List Event) (p word : ℕ) (mine : Wait) → IsNumber mine.number → IsWaitNumber mine.wait → IsStatus h p word → word ≡ value_of mine → LetIn h p mine
status_tells h p word mine n w (inl none) e = absurd (omega arith)
status_tells h p word mine n w (inr s) e = subst (λ t. LetIn h p t) (one_wait s.ticket mine s.number s.wait n w (sym s.value ∙ e)) s.through

pub record IsUnderWay (begun : GuardState) (max_waits : ℕ) (now : GuardState) : Type 0 where
  pub steps : List runs.Step
  pub reported : AreReported begun.pass steps now.pass
  pub going : IsGoing begun.walk max_waits now.walk steps
  pub goes_on : now.walk.progress.mode ≢ Let
  pub of : now.pass.of ≡ begun.pass.of

-- ---- a request that was let through was let through in what was seen

let_from : (P : Type 0) (m : Mode) (b : Bool) → (m ≡ Awaiting → b ≡ true → P) → (m ≡ Let → P) → mode_after_status m b ≡ Let → P
let_from P Free b told was e = absurd cc
let_from P Awaiting true told was e = told refl refl
let_from P Awaiting false told was e = absurd cc
let_from P Let b told was e = was refl
let_from P Stopped b told was e = absurd cc
let_from P Leaving b told was e = absurd cc

pub named : (word n : ℕ) → nat_eq word n ≡ true → word ≡ n
named word n e = grind (arith, nat_tests)

pub after_status_tells : (old new : WalkState) (word : ℕ) (seen seen' : List Event) (pass pass' answers : ℕ) → new ≡ record old { progress = after_status old.asked.number old.progress word } → pass' ≡ pass → IsPrefix seen seen' →
    IsNumber old.asked.number → IsSoundProgress (length old.asked.keys) old.progress answers → IsStatus seen' pass word → (old.progress.mode ≡ Let → LetIn seen pass (current_wait old)) →
    new.progress.mode ≡ Let → LetIn seen' pass' (current_wait new)
after_status_tells old new word seen seen' pass pass' answers is same begins number sound status was e =
    let after_status_let : mode_after_status old.progress.mode (nat_eq word (value_of (current_wait old))) ≡ Let = ap (λ s. s.progress.mode) (sym is) ∙ e in
    let tells : LetIn seen' pass (current_wait old) =
    let_from (LetIn seen' pass (current_wait old)) old.progress.mode (nat_eq word (value_of (current_wait old)))
    (λ waits named_it. status_tells seen' pass word (current_wait old) number (sound.has_ticket waits, sound.in_range) status (named word (value_of (current_wait old)) named_it))
    (λ let_before. let_later seen seen' pass (current_wait old) begins (was let_before))
    after_status_let in
    rw (is, same) tells

pub through_is_let : (m : Mode) → polled_in m ≡ Through → m ≡ Let
through_is_let Let e = refl
through_is_let Free e = absurd cc
through_is_let Awaiting e = absurd cc
through_is_let Stopped e = absurd cc
through_is_let Leaving e = absurd cc

-- ---- one more visit

AreReported-more : (p : PassState) (xs : List runs.Step) (q : PassState) (x : runs.Step) (r : PassState) → AreReported p xs q → Reported q r x → AreReported p (xs ++ x ∷ []) r
AreReported-more p [] q x r e last = (r, rw (sym e) last, refl)
AreReported-more p (y ∷ ys) q x r c last = (c.0, c.1, AreReported-more c.0 ys q x r c.2 last)

met-goes_on : (p : Progress) (waits long : Bool) → p.mode ≢ Let → (met_as p waits long).mode ≢ Let
met-goes_on p true long goes = λ e. cc
met-goes_on p false true goes = λ e. cc
met-goes_on p false false goes = goes

pub IsUnderWay-more : (begun : GuardState) (max_waits : ℕ) (now : GuardState) (x : runs.Step) (pass : PassState) (walk : WalkState) → IsUnderWay begun max_waits now →
    next_visit now.walk.asked max_waits now.walk.progress ≡ Some (x.key, x.call) →
    walk ≡ record now.walk { progress = met now.walk.progress x.answer.reply; answers = now.walk.answers ++ x.answer ∷ [] } →
    Reported now.pass pass x → IsUnderWay begun max_waits (record { pass = pass; walk = walk })
IsUnderWay-more begun max_waits now x pass walk way next e reported = record {
  steps = way.steps ++ x ∷ [];
  reported = AreReported-more begun.pass way.steps now.pass x pass way.reported reported;
  going = IsGoing-more begun.walk max_waits now.walk way.steps x walk way.going next e;
  goes_on = rw e (met-goes_on now.walk.progress (is_wait x.answer.reply) (is_long x.answer.reply) way.goes_on);
  of = reported.reports.of ∙ way.of;
}

-- a leave through a pass, under way
pub record IsPartingGuard (begun now : GuardState) : Type 0 where
  pub steps : List runs.Step
  pub reported : AreReported begun.pass steps now.pass
  pub parting : IsParting begun.walk now.walk steps
  pub of : now.pass.of ≡ begun.pass.of

pub IsPartingGuard-more : (begun now : GuardState) (x : runs.Step) (pass : PassState) (walk : WalkState) → IsPartingGuard begun now →
    next_leave now.walk.asked now.walk.progress ≡ Some (x.key, x.call) →
    walk ≡ record now.walk { progress = passed now.walk.progress; answers = now.walk.answers ++ x.answer ∷ [] } →
    Reported now.pass pass x → IsPartingGuard begun (record { pass = pass; walk = walk })
IsPartingGuard-more begun now x pass walk way next e reported = record {
  steps = way.steps ++ x ∷ [];
  reported = AreReported-more begun.pass way.steps now.pass x pass way.reported reported;
  parting = IsParting-more begun.walk now.walk way.steps x walk way.parting next e;
  of = reported.reports.of ∙ way.of;
}

-- ---- a step of any key through the pass

pub still_let : {E : Type 0} (r : Result Answer E) (key : List ℕ) (call : Call) (old new : PassState) (walk : WalkState) →
    IfOk r (λ answer. Reported old new (record { key = key; call = call; answer = answer })) → OnErr r (new ≡ old) →
    (walk.progress.mode ≡ Let → LetIn old.seen old.number (current_wait walk)) → walk.progress.mode ≡ Let → LetIn new.seen new.number (current_wait walk)
still_let (Ok answer) key call old new walk made same was e = rw made.reports.number (let_later old.seen new.seen old.number (current_wait walk) made.reports.seen (was e))
still_let (Err refused) key call old new walk made same was e = rw same (was e)
