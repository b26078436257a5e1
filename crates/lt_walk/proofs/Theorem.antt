-- The main theorem, from what each caller was told and from what a close tells.
use Rattle.std.proofs.Common.{◌≡◌, ◌≢◌, ℕ, zero, suc, ◌<◌, ◌≤◌, List, [], ◌∷◌, ◌++◌, map, slice_get, Some, Result, refl, sym, ◌∙◌, ap, subst, arith}
use Rattle.std.specs.List.{AllByRecursion}
use mathlib.Core.List.{IsPrefix}
use Rattle.lt_words.specs.declared.event.Event.{Event}
use Rattle.lt_words.specs.History.{part, shard_of, LetIn, OneHolderAtEachKey, ReadsPassAtEachKey}
use Rattle.lt_words.specs.Laws.{LetsStay, PartsAreLegal}
use Rattle.lt_words.specs.Row.{Opening, PassState, MakesNoStep, fresh, fresh_passes, quiet}
use Rattle.lt_rules.proofs.Cases.{all_append}
use Rattle.lt_words.proofs.Prefixes.{prefix_trans, prefix_get}
use Rattle.lt_words.proofs.Histories.{part_prefix}
use Rattle.lt_walk.specs.Machine.{Step}
use Rattle.lt_walk.specs.declared.scan_results.Scan.{Scan}
use Rattle.lt_walk.specs.declared.scan_results.ScanError.{ScanError}
use Rattle.lt_walk.specs.declared.scan_results.Poll.{Poll}
use Rattle.lt_walk.specs.declared.scan_results.Poll.TheVariants as polls
use Rattle.lt_walk.specs.Reported.{shard_at, AreReported, GuardState, SeesLet, IsScan, IsPoll, current_wait}
use Rattle.lt_walk.specs.Laws.{Lived, AreLives}
use Rattle.lt_walk.specs.Theorem.{Told, Heard, AreHeard, steps_told, ShardHistories, IsInFinal, FollowsSeen, AllTold, AllHeard, TheMainTheorem, TheTheoremSoFar, FreshHaveHeardNothing, HearingGoesOn, ThroughIsTold, told_by_poll, CloseIsEnd, RestIsEnd}
use Rattle.lt_walk.specs.Theorem.Told.{Made, WasLet}
use Rattle.lt_words.proofs.Passes.{no_step, no_step_on}
use Rattle.lt_walk.proofs.Lives.{once_in_final, once_so_far, sees_same, sees_then}

heard_grows : (p q : PassState) (told : List Told) → Heard p told q → IsPrefix p.seen q.seen × (q.of ≡ p.of) × (q.number ≡ p.number)
heard_grows p q [] h = (h.seen, h.of, h.number)
heard_grows p q (Made x ∷ told) h =
    let rest = heard_grows h.1 q told h.4 in
    (prefix_trans p.seen h.0.seen q.seen h.2.seen (prefix_trans h.0.seen h.1.seen q.seen h.3.reports.seen rest.0), rest.1 ∙ (h.3.reports.of ∙ h.2.of), rest.2 ∙ (h.3.reports.number ∙ h.2.number))
heard_grows p q (WasLet t ∷ told) h =
    let rest = heard_grows h.0 q told h.3 in
    (prefix_trans p.seen h.0.seen q.seen h.1.seen rest.0, rest.1 ∙ h.1.of, rest.2 ∙ h.1.number)

lived_of : (p q : PassState) (told : List Told) → Heard p told q → Lived p (steps_told told) q
lived_of p q [] h = h
lived_of p q (Made x ∷ told) h = (h.0, h.1, h.2, h.3, lived_of h.1 q told h.4)
lived_of p q (WasLet t ∷ told) h = sees_then p h.0 q (steps_told told) h.1 (lived_of h.0 q told h.3)

lives_of : (of : Opening) (all : List (List Told)) (ps : List PassState) → AreHeard of all ps → AreLives of (map steps_told all) ps
lives_of of [] [] h = tt
lives_of of [] (p ∷ ps) h = absurd h
lives_of of (told ∷ all) [] h = absurd h
lives_of of (told ∷ all) (p ∷ ps) h = (lived_of (fresh of p.number) p told h.0, h.1, lives_of of all ps h.2)

-- ---- one caller

told_stands : (of : Opening) (finals : ShardHistories of) (number : ℕ) (p q : PassState) (told : List Told) → p.of ≡ of → p.number ≡ number →
    ((s : ℕ) (here : s < of.shards) → IsPrefix (part s q.seen) (finals s here)) → (h : Heard p told q) →
    AllTold (λ before x. IsInFinal of finals number x) (λ t. Unit {0}) p told q h
told_stands of finals number p q [] same is begins h = tt
told_stands of finals number p q (Made x ∷ told) same is begins h =
    let m : PassState = h.0 in
    let n : PassState = h.1 in
    let s : ℕ = shard_of x.key of.shards in
    let at_m : shard_at m x ≡ s = ap (λ (o : Opening). shard_of x.key o.shards) (h.2.of ∙ same) in
    let stands : slice_get (part s n.seen) x.answer.at ≡ Some h.3.entry = subst (λ k. slice_get (part k n.seen) x.answer.at ≡ Some h.3.entry) at_m h.3.reports.stands in (
      record {
        entry = h.3.entry;
        key = h.3.key_is;
        pass = h.3.reports.own ∙ (h.2.number ∙ is);
        call = h.3.call_is;
        reply = h.3.reply_is;
        at = λ here. prefix_get (part s n.seen) (finals s here) x.answer.at h.3.entry (prefix_trans (part s n.seen) (part s q.seen) (finals s here) (part_prefix s n.seen q.seen (heard_grows n q told h.4).0) (begins s here)) stands;
      },
      told_stands of finals number n q told (h.3.reports.of ∙ (h.2.of ∙ same)) (h.3.reports.number ∙ (h.2.number ∙ is)) begins h.4,
    )
told_stands of finals number p q (WasLet t ∷ told) same is begins h =
    (tt, told_stands of finals number h.0 q told (h.1.of ∙ same) (h.1.number ∙ is) begins h.3)

told_after : (p q : PassState) (told : List Told) (h : Heard p told q) → AllTold (λ before x. FollowsSeen before x) (λ t. Unit {0}) p told q h
told_after p q [] h = tt
told_after p q (Made x ∷ told) h = (h.3.reports.later, told_after h.1 q told h.4)
told_after p q (WasLet t ∷ told) h = (tt, told_after h.0 q told h.3)

told_let : LetsStay → (whole : List Event) (number : ℕ) (p q : PassState) (told : List Told) → p.number ≡ number → IsPrefix q.seen whole → (h : Heard p told q) →
    AllTold (λ before x. Unit {0}) (λ t. LetIn whole number t) p told q h
told_let stay whole number p q [] is seen h = tt
told_let stay whole number p q (Made x ∷ told) is seen h = (tt, told_let stay whole number h.1 q told (h.3.reports.number ∙ (h.2.number ∙ is)) seen h.4)
told_let stay whole number p q (WasLet t ∷ told) is seen h =
    let n : PassState = h.0 in (
      subst (λ k. LetIn whole k t) (h.1.number ∙ is) (stay n.seen whole n.number t (prefix_trans n.seen q.seen whole (heard_grows n q told h.3).0 seen) h.2),
      told_let stay whole number n q told (h.1.number ∙ is) seen h.3,
    )

-- ---- all callers

all_stand : (of : Opening) (finals : ShardHistories of) (all : List (List Told)) (ps : List PassState) → ((s : ℕ) (here : s < of.shards) → AllByRecursion (λ q. IsPrefix (part s q.seen) (finals s here)) ps) → (h : AreHeard of all ps) →
    AllHeard (λ number before x. IsInFinal of finals number x) (λ number t. Unit {0}) of all ps h
all_stand of finals [] [] begins h = tt
all_stand of finals [] (p ∷ ps) begins h = tt
all_stand of finals (told ∷ all) [] begins h = tt
all_stand of finals (told ∷ all) (p ∷ ps) begins h =
    (told_stands of finals p.number (fresh of p.number) p told refl refl (λ s here. (begins s here).0) h.0, all_stand of finals all ps (λ s here. (begins s here).1) h.2)

all_after : (of : Opening) (all : List (List Told)) (ps : List PassState) (h : AreHeard of all ps) → AllHeard (λ number before x. FollowsSeen before x) (λ number t. Unit {0}) of all ps h
all_after of [] [] h = tt
all_after of [] (p ∷ ps) h = tt
all_after of (told ∷ all) [] h = tt
all_after of (told ∷ all) (p ∷ ps) h = (told_after (fresh of p.number) p told h.0, all_after of all ps h.2)

all_let : LetsStay → (of : Opening) (whole : List Event) (all : List (List Told)) (ps : List PassState) → AllByRecursion (λ q. IsPrefix q.seen whole) ps → (h : AreHeard of all ps) →
    AllHeard (λ number before x. Unit {0}) (λ number t. LetIn whole number t) of all ps h
all_let stay of whole [] [] seen h = tt
all_let stay of whole [] (p ∷ ps) seen h = tt
all_let stay of whole (told ∷ all) [] seen h = tt
all_let stay of whole (told ∷ all) (p ∷ ps) seen h =
    (told_let stay whole p.number (fresh of p.number) p told refl seen.0 h.0, all_let stay of whole all ps seen.1 h.2)

pub main_theorem : OneHolderAtEachKey → ReadsPassAtEachKey → LetsStay → TheMainTheorem
main_theorem holders reads stay of ps finals end all heard = record {
  once = λ s at here lt. once_in_final of ps end.whole s (finals s here) (map steps_told all) at (end.each s here) (lives_of of all ps heard) here lt;
  stands = all_stand of finals all ps (λ s here. (end.each s here).seen) heard;
  after = all_after of all ps heard;
  let_through = all_let stay of end.whole all ps end.seen heard;
  shown = end.lets_shown;
  one_holder = λ s here key past rest T U is t u. holders (finals s here) key past rest T U (end.each s here).legal is t u;
  reads_below = λ s here key past rest e ticket txn ts longest is call. reads (finals s here) key past rest e ticket txn ts longest (end.each s here).legal is call;
}

-- ---- while the table is open

parts_begin : (s : ℕ) (h : List Event) (ps : List PassState) → AllByRecursion (λ p. IsPrefix p.seen h) ps → AllByRecursion (λ q. IsPrefix (part s q.seen) (part s h)) ps
parts_begin s h [] seen = tt
parts_begin s h (p ∷ ps) seen = (part_prefix s p.seen h seen.0, parts_begin s h ps seen.1)

pub theorem_so_far : OneHolderAtEachKey → ReadsPassAtEachKey → LetsStay → PartsAreLegal → TheTheoremSoFar
theorem_so_far holders reads stay parts of ps h all heard legal seen = record {
  once = λ s at. once_so_far of ps s (part s h) (map steps_told all) at (lives_of of all ps heard) (parts_begin s h ps seen);
  stands = all_stand of (λ s here. part s h) all ps (λ s here. parts_begin s h ps seen) heard;
  after = all_after of all ps heard;
  let_through = all_let stay of h all ps seen heard;
  one_holder = λ s key past rest T U is t u. holders (part s h) key past rest T U (parts of.shards s h legal) is t u;
  reads_below = λ s key past rest e ticket txn ts longest is call. reads (part s h) key past rest e ticket txn ts longest (parts of.shards s h legal) is call;
}

-- ---- how a caller comes to its premises

pub close_is_end : CloseIsEnd
close_is_end of ps shards draws d closed = record {
  whole = closed.whole;
  legal = closed.legal;
  seen = closed.seen;
  whole_shown = closed.whole_shown;
  let_through = closed.let_through;
  shown = closed.shown;
  each = λ s here. closed.each s d here;
  lets_shown = λ s here. closed.lets_shown s d here;
}

pub rest_is_end : RestIsEnd
rest_is_end of ps rests draws d closed = record {
  whole = closed.whole;
  legal = closed.legal;
  seen = closed.seen;
  whole_shown = closed.whole_shown;
  let_through = closed.let_through;
  shown = closed.shown;
  each = λ s here. (closed.each s d here).final;
  lets_shown = λ s here. (closed.each s d here).lets_shown;
}

heard_more : (p q r : PassState) (told : List Told) → Heard p told q → MakesNoStep q r → Heard p told r
heard_more p q r [] h more = no_step_on p q r h more
heard_more p q r (Made x ∷ told) h more = (h.0, h.1, h.2, h.3, heard_more h.1 q r told h.4 more)
heard_more p q r (WasLet t ∷ told) h more = (h.0, h.1, h.2, heard_more h.0 q r told h.3 more)

sees_first : (p q r : PassState) (told : List Told) → MakesNoStep p q → Heard q told r → Heard p told r
sees_first p q r [] more h = no_step_on p q r more h
sees_first p q r (Made x ∷ told) more h = (h.0, h.1, no_step_on p q h.0 more h.2, h.3, h.4)
sees_first p q r (WasLet t ∷ told) more h = (h.0, no_step_on p q h.0 more h.1, h.2, h.3)

heard_then : (p q r : PassState) (told more : List Told) → Heard p told q → Heard q more r → Heard p (told ++ more) r
heard_then p q r [] more h k = sees_first p q r more h k
heard_then p q r (Made x ∷ told) more h k = (h.0, h.1, h.2, h.3, heard_then h.1 q r told more h.4 k)
heard_then p q r (WasLet t ∷ told) more h k = (h.0, h.1, h.2, heard_then h.0 q r told more h.3 k)

reported_heard : (q r : PassState) (steps : List Step) → AreReported q steps r → Heard q (map Made steps) r
reported_heard q r [] reported = subst (λ s. MakesNoStep q s) (sym reported) (sees_same q)
reported_heard q r (x ∷ steps) reported = (q, reported.0, sees_same q, reported.1, reported_heard reported.0 r steps reported.2)

pub hearing_goes_on : HearingGoesOn
hearing_goes_on p q r told h = (
  λ more. heard_more p q r told h more,
  λ steps reported. heard_then p q r told (map Made steps) h (reported_heard q r steps reported),
  λ t more through. heard_then p q r told (WasLet t ∷ []) h (r, more, through, sees_same r),
)

poll_told : (p : PassState) (told : List Told) (old new : GuardState) (result : Poll) → Heard p told old.pass → IsPoll old new result → (result ≡ polls.Through → SeesLet new.pass new.walk) → Heard p (told ++ told_by_poll result (current_wait old.walk)) new.pass
poll_told p told old new polls.Through h poll through =
    let same : current_wait new.walk ≡ current_wait old.walk = ap (λ w. current_wait w) poll.walk in
    heard_then p old.pass new.pass told (WasLet (current_wait old.walk) ∷ []) h (new.pass, no_step old.pass new.pass poll.reads, subst (λ t. LetIn new.pass.seen new.pass.number t) same (through refl), sees_same new.pass)
poll_told p told old new polls.Waiting h poll through = heard_then p old.pass new.pass told [] h (no_step old.pass new.pass poll.reads)
poll_told p told old new polls.Idle h poll through = heard_then p old.pass new.pass told [] h (no_step old.pass new.pass poll.reads)

scan_told : (p : PassState) (told : List Told) (old new : GuardState) (max_waits : ℕ) (result : Result Scan ScanError) → Heard p told old.pass → (scan : IsScan max_waits old new result) → Heard p (told ++ map Made scan.steps) new.pass
scan_told p told old new max_waits result h scan =
    heard_then p old.pass new.pass told (map Made scan.steps) h (sees_first old.pass scan.read new.pass (map Made scan.steps) (no_step old.pass scan.read scan.reads) (reported_heard scan.read new.pass scan.steps scan.reported))

let_scan_told : (p : PassState) (told : List Told) (old new : GuardState) (max_waits : ℕ) (result : Result Scan ScanError) → Heard p told old.pass → (scan : IsScan max_waits old new result) → SeesLet new.pass old.walk →
    Heard p (told ++ map Made scan.steps ++ WasLet (current_wait old.walk) ∷ []) new.pass
let_scan_told p told old new max_waits result h scan through =
    heard_then p new.pass new.pass (told ++ map Made scan.steps) (WasLet (current_wait old.walk) ∷ []) (scan_told p told old new max_waits result h scan) (new.pass, sees_same new.pass, through, sees_same new.pass)

pub through_is_told : ThroughIsTold
through_is_told p told old new h = (
  λ result poll through. poll_told p told old new result h poll through,
  λ max_waits result scan. scan_told p told old new max_waits result h scan,
  λ max_waits result scan through. let_scan_told p told old new max_waits result h scan through,
)

-- ---- when the table is opened

all_weaker : (P Q : PassState → Type 0) → ((p : PassState) → P p → Q p) → (ps : List PassState) → AllByRecursion P ps → AllByRecursion Q ps
all_weaker P Q f [] all = tt
all_weaker P Q f (p ∷ ps) all = (f p all.0, all_weaker P Q f ps all.1)

all_fresh : (of : Opening) (n : ℕ) → AllByRecursion (λ p. p ≡ fresh of p.number) (fresh_passes of n)
all_fresh of zero = tt
all_fresh of (suc n) = all_append (λ p. p ≡ fresh of p.number) (fresh_passes of n) (fresh of (suc n) ∷ []) (all_fresh of n) (refl, tt)

all_below : (of : Opening) (n : ℕ) → AllByRecursion (λ p. p.number ≤ n) (fresh_passes of n)
all_below of zero = tt
all_below of (suc n) = all_append (λ p. p.number ≤ suc n) (fresh_passes of n) (fresh of (suc n) ∷ []) (all_weaker (λ p. p.number ≤ n) (λ p. p.number ≤ suc n) (λ p le. omega (arith, le)) (fresh_passes of n) (all_below of n)) (omega arith, tt)

-- No two of these passes have one number.
abbrev Differ : List PassState → Type 0
Differ [] = Unit {0}
Differ (p ∷ ps) = AllByRecursion (λ q. p.number ≢ q.number) ps × Differ ps

one_more_differs : (ps : List PassState) (q : PassState) → AllByRecursion (λ p. p.number ≢ q.number) ps → Differ ps → Differ (ps ++ q ∷ [])
one_more_differs [] q others d = (tt, tt)
one_more_differs (p ∷ ps) q others d = (all_append (λ r. p.number ≢ r.number) ps (q ∷ []) d.0 (others.0, tt), one_more_differs ps q others.1 d.1)

all_differ : (of : Opening) (n : ℕ) → Differ (fresh_passes of n)
all_differ of zero = tt
all_differ of (suc n) =
    one_more_differs (fresh_passes of n) (fresh of (suc n))
    (all_weaker (λ p. p.number ≤ n) (λ p. p.number ≢ suc n) (λ p le same. omega (arith, le, same)) (fresh_passes of n) (all_below of n))
    (all_differ of n)

-- what holds of the passes, whomever they have to wake
all_quiet : (P Q : PassState → Type 0) → ((p : PassState) → P p → Q (quiet p)) → (ps : List PassState) → AllByRecursion P ps → AllByRecursion Q (map quiet ps)
all_quiet P Q f [] all = tt
all_quiet P Q f (p ∷ ps) all = (f p all.0, all_quiet P Q f ps all.1)

of_quiet : (P : PassState → Type 0) (ps : List PassState) → AllByRecursion P (map quiet ps) → AllByRecursion (λ p. P (quiet p)) ps
of_quiet P [] all = tt
of_quiet P (p ∷ ps) all = (all.0, of_quiet P ps all.1)

quiet_differ : (ps : List PassState) → Differ ps → Differ (map quiet ps)
quiet_differ [] d = tt
quiet_differ (p ∷ ps) d = (all_quiet (λ q. p.number ≢ q.number) (λ q. p.number ≢ q.number) (λ q ne. ne) ps d.0, quiet_differ ps d.1)

differ_quiet : (ps : List PassState) → Differ (map quiet ps) → Differ ps
differ_quiet [] d = tt
differ_quiet (p ∷ ps) d = (of_quiet (λ q. p.number ≢ q.number) ps d.0, differ_quiet ps d.1)

made_none : (p : PassState) → MakesNoStep (quiet p) p
made_none p = let m = sees_same p in record { of = m.of; number = m.number; counts = m.counts; seen = m.seen; shown = m.shown; takes = m.takes }

heard_nothing : (of : Opening) (ps : List PassState) → AllByRecursion (λ p. quiet p ≡ fresh of p.number) ps → Differ ps → AreHeard of (map (λ p. []) ps) ps
heard_nothing of [] are differ = tt
heard_nothing of (p ∷ ps) are differ = (subst (λ x. MakesNoStep x p) are.0 (made_none p), differ.0, heard_nothing of ps are.1 differ.1)

pub fresh_have_heard_nothing : FreshHaveHeardNothing
fresh_have_heard_nothing of n ps are =
    let all : AllByRecursion (λ p. p ≡ fresh of p.number) (map quiet (fresh_passes of n)) = all_quiet (λ p. p ≡ fresh of p.number) (λ p. p ≡ fresh of p.number) (λ p e. ap quiet e) (fresh_passes of n) (all_fresh of n) in
    heard_nothing of ps (of_quiet (λ p. p ≡ fresh of p.number) ps (subst (AllByRecursion (λ p. p ≡ fresh of p.number)) (sym are) all)) (differ_quiet ps (subst Differ (sym are) (quiet_differ (fresh_passes of n) (all_differ of n))))
