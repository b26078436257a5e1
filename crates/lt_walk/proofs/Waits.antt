-- Several polls, one after the other.
use Rattle.std.proofs.Common.{◌≡◌, Bool, true, false, refl, sym, ◌∙◌, ap, subst}
use Rattle.lt_ids.specs.Ids.{Wait, value_of}
use Rattle.std.specs.Prelude.{ℕ, nat_eq}
use Rattle.lt_words.specs.History.{IsStatus, LetIn}
use Rattle.lt_words.specs.Shown.{word_of}
use Rattle.lt_words.specs.Row.{PassState, SeesMore}
use Rattle.lt_words.proofs.Histories.{let_later}
use Rattle.lt_walk.specs.declared.walk_progress.Mode.{Mode}
use Rattle.lt_walk.specs.declared.walk_progress.Mode.TheVariants.{Free, Awaiting, Let, Stopped, Leaving}
use Rattle.lt_walk.specs.declared.scan_results.Poll.{Poll}
use Rattle.lt_walk.specs.declared.scan_results.Poll.TheVariants.{Waiting}
use Rattle.lt_walk.specs.Machine.{WalkState, after_status, mode_after_status, polled_in}
use Rattle.lt_walk.specs.Reported.{GuardState, IsPoll, GuardStays, current_wait}
use Rattle.lt_walk.proofs.Ends.{sees_on}

-- a request that still waits stays as it was
still : (m : Mode) (b : Bool) → polled_in (mode_after_status m b) ≡ Waiting → mode_after_status m b ≡ m
still Awaiting false e = refl
still Awaiting true e = absurd cc
still Free b e = absurd cc
still Let b e = absurd cc
still Stopped b e = absurd cc
still Leaving b e = absurd cc

same : (walk : WalkState) (word : ℕ) → polled_in (after_status walk.asked.number walk.progress word).mode ≡ Waiting → record walk { progress = after_status walk.asked.number walk.progress word } ≡ walk
same walk word e = ap (λ (m : Mode). record walk { progress = record walk.progress { mode = m } }) (still walk.progress.mode (nat_eq word (value_of (current_wait walk))) e)

-- Two polls are as one poll if the first found nothing.
pub poll_then : (a b c : GuardState) (r : Poll) → IsPoll a b Waiting → IsPoll b c r → IsPoll a c r
poll_then a b c r p q =
    let waits : polled_in (after_status a.walk.asked.number a.walk.progress p.word).mode ≡ Waiting = ap (λ (w : WalkState). polled_in w.progress.mode) (sym p.walk) ∙ sym p.answer in
    let b_is : b.walk ≡ a.walk = p.walk ∙ same a.walk p.word waits in
    record {
      word = q.word;
      reads = sees_on a.pass b.pass c.pass p.reads q.reads;
      word_is = subst (λ n. q.word ≡ word_of n c.pass.shown) p.reads.number q.word_is;
      status = subst (λ n. IsStatus c.pass.seen n q.word) p.reads.number q.status;
      walk = q.walk ∙ ap (λ (w : WalkState). record w { progress = after_status w.asked.number w.progress q.word }) b_is;
      answer = q.answer;
    }

-- a poll keeps the pass and what the request asks for
pub poll_stays : (a b : GuardState) (r : Poll) → IsPoll a b r → GuardStays a b
poll_stays a b r p = record {
  pass = record { of = p.reads.of; number = p.reads.number; seen = p.reads.seen; shown = p.reads.shown };
  asked = ap (λ (w : WalkState). w.asked) p.walk;
}

-- what was let through stays let through in what is seen later
pub sees_let : (old new : PassState) (t : Wait) → SeesMore old new → LetIn old.seen old.number t → LetIn new.seen new.number t
sees_let old new t more was = subst (λ n. LetIn new.seen n t) (sym more.number) (let_later old.seen new.seen old.number t more.seen was)
