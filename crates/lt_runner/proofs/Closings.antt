-- A table is closed over what the passes did.
use Rattle.std.proofs.Common.{◌≡◌, ◌≢◌, inl, inr, ℕ, zero, suc, ◌+◌, ◌<◌, ◌≤◌, Bool, true, false, cond, nat_eq, List, [], ◌∷◌, ◌++◌, length, map, get_or, refl, sym, ap, subst, ◌∙◌, append_assoc, append-nil, length-append, arith}
use Rattle.std.specs.Prelude.{Contains, slice_index, ◌⊎◌}
use Rattle.std.specs.Global.{Vec}
use Rattle.std.specs.List.{flat_map, All, AllByRecursion}
use Rattle.std.specs.Str.{bytes_eq}
use Rattle.std.proofs.lemmas.List.{map-append, get_or-replicate}
use Rattle.std.proofs.lemmas.List.Elements.{recursion_from_All, Contains-append_left, Contains-append_right, Contains-push, filter-append}
use mathlib.Core.List.{IsPrefix}
use Rattle.lt_entry.specs.declared.entry.Entry.{Entry}
use Rattle.lt_entry.specs.Legal.{AreLegalKeys, event_of}
use Rattle.lt_entry.specs.Ranges.{IsInRange}
use Rattle.lt_entry.specs.Legal.{key_part}
use Rattle.lt_entry.proofs.SameKeys.{same_key}
use Rattle.lt_rules.specs.Step.{IsLegal}
use Rattle.lt_words.specs.declared.event.Event.{Event}
use Rattle.lt_words.specs.History.{part, shard_of, draws_of, DrewIn}
use Rattle.lt_words.specs.Row.{Opening, PassState, fresh, fresh_passes}
use Rattle.lt_words.proofs.Draws.{draws_stay}
use Rattle.lt_words.proofs.Prefixes.{prefix_trans}
use Rattle.lt_words.proofs.Histories.{part_prefix}
use Rattle.lt_script.specs.declared.command.Command.{Command}
use Rattle.lt_walk.specs.Reported.{GuardState, steps_at}
use Rattle.lt_walk.specs.Closed.{IsClosed, counts_at, passes_of}
use Rattle.lt_walk.proofs.Ends.{counts_append}
use Rattle.lt_runner.specs.declared.answer.AnswerLine.{AnswerLine}
use Rattle.lt_runner.specs.declared.session.Session.{Session}
use Rattle.lt_runner.specs.declared.session.Session.TheVariants.{Free, Open}
use Rattle.lt_runner.specs.declared.outcome.Finish.{Finish}
use Rattle.lt_runner.specs.declared.outcome.Finish.TheVariants.{Done, TurnsOut}
use Rattle.lt_runner.specs.declared.outcome.Ran.{Ran}
use Rattle.lt_runner.specs.declared.outcome.Work.{Work}
use Rattle.lt_runner.specs.Sessions.{session_pass, session_request}
use Rattle.lt_runner.specs.Outcomes.{IsDrawn}
use Rattle.lt_runner.specs.Machine.{Rules, ExecutedLine, IsOutOnlyAt}
use Rattle.lt_runner.specs.Standing.{Finals, final_of, made_at, AreAll, run_numbers}
use Rattle.lt_runner.specs.Gates.{GateAnswers}
use Rattle.lt_runner.specs.Worked.{steps_of_executed, pass_lines}
use Rattle.lt_runner.specs.Turns.{AreNumbered, IsRunOf, AreRun, HaveRun, IsAmong, AllHear, IsSeenBySome, somes}
use Rattle.lt_runner.specs.Closing.{AreHanded, CountAlike, IsPut, IsWithin, AreInFinalHistories, finish_all, join}
use Rattle.lt_runner.specs.Ran.{AreAnswered, AreDrawn, IsAnswered, IsHeard, IsRan, all_entries}
use Rattle.lt_runner.proofs.Telling.{all_append, all_more, all_weaker}
use Rattle.lt_runner.proofs.Lines.{out_later}
use Rattle.lt_runner.proofs.Standings.{AreOfShards, all_stand}

-- ---- handing over

abbrev IsOf : Opening → PassState → Type 0
IsOf of p = p.of ≡ of

pub put_passes : (of : Opening) (d : Session) (ps qs : List PassState) (gs hs : List GuardState) → IsPut d ps gs qs hs → (session_pass d).of ≡ of → AllByRecursion (λ p. p.of ≡ of) ps → AllByRecursion (λ p. p.of ≡ of) qs
put_passes of (Free p) ps qs gs hs put is a = subst (AllByRecursion (λ x. x.of ≡ of)) (sym put.0) (all_more (λ x. x.of ≡ of) ps p a is)
put_passes of (Open g) ps qs gs hs put is a = subst (AllByRecursion (λ x. x.of ≡ of)) (sym put.0) a

pub put_guards : (of : Opening) (d : Session) (ps qs : List PassState) (gs hs : List GuardState) → IsPut d ps gs qs hs → (session_pass d).of ≡ of → AllByRecursion (λ g. g.pass.of ≡ of) gs → AllByRecursion (λ g. g.pass.of ≡ of) hs
put_guards of (Free p) ps qs gs hs put is a = subst (AllByRecursion (λ x. x.pass.of ≡ of)) (sym put.1) a
put_guards of (Open g) ps qs gs hs put is a = subst (AllByRecursion (λ x. x.pass.of ≡ of)) (sym put.1) (all_more (λ x. x.pass.of ≡ of) gs g a is)

abbrev guard_pass : GuardState → PassState
guard_pass g = g.pass

one_pass_more : (ps : List PassState) (p x : PassState) (gs : List GuardState) → Contains (passes_of ps gs) x → Contains (passes_of (ps ++ p ∷ []) gs) x
one_pass_more ps p x gs c = between ps (map guard_pass gs) p x c
  where
    between : (ps qs : List PassState) (p x : PassState) → Contains (ps ++ qs) x → Contains ((ps ++ p ∷ []) ++ qs) x
    between [] qs p x c = Contains-append_right (p ∷ []) qs x c
    between (y ∷ ps) qs p x (zero, lt, is) = (zero, omega arith, is)
    between (y ∷ ps) qs p x (suc k, lt, is) = let d : Contains ((ps ++ p ∷ []) ++ qs) x = between ps qs p x (k, omega (arith, lt), is) in (suc d.0, omega (arith, d.1), d.2)

pub put_handed : (d : Session) (ps qs : List PassState) (gs hs : List GuardState) (ws : List Work) (w : Work) → w.session ≡ d → IsPut d ps gs qs hs → AreHanded (passes_of ps gs) ws → AreHanded (passes_of qs hs) (ws ++ w ∷ [])
put_handed (Free p) ps qs gs hs ws w is put h =
    let here : Contains (passes_of (ps ++ p ∷ []) gs) p = Contains-append_left (ps ++ p ∷ []) (map guard_pass gs) p (Contains-push ps p) in
    let own : Contains (passes_of (ps ++ p ∷ []) gs) (session_pass w.session) = subst (λ (d : Session). Contains (passes_of (ps ++ p ∷ []) gs) (session_pass d)) (sym is) here in
    rw (put.0, put.1) (all_more (λ x. Contains (passes_of (ps ++ p ∷ []) gs) (session_pass x.session)) ws w (all_weaker (λ x. Contains (passes_of ps gs) (session_pass x.session)) (λ x. Contains (passes_of (ps ++ p ∷ []) gs) (session_pass x.session)) ws (λ x. one_pass_more ps p (session_pass x.session) gs) h) own)
put_handed (Open g) ps qs gs hs ws w is put h =
    let all : passes_of ps (gs ++ g ∷ []) ≡ passes_of ps gs ++ g.pass ∷ [] = ap (λ (l : List PassState). ps ++ l) (map-append guard_pass gs (g ∷ [])) ∙ sym (append_assoc ps (map guard_pass gs) (g.pass ∷ [])) in
    let more : AreHanded (passes_of ps gs ++ g.pass ∷ []) (ws ++ w ∷ []) =
    all_more (λ x. Contains (passes_of ps gs ++ g.pass ∷ []) (session_pass x.session)) ws w
    (all_weaker (λ x. Contains (passes_of ps gs) (session_pass x.session)) (λ x. Contains (passes_of ps gs ++ g.pass ∷ []) (session_pass x.session)) ws (λ x. Contains-append_left (passes_of ps gs) (g.pass ∷ []) (session_pass x.session)) h)
    (subst (λ (d : Session). Contains (passes_of ps gs ++ g.pass ∷ []) (session_pass d)) (sym is) (Contains-push (passes_of ps gs) g.pass)) in
    rw (put.0, put.1) (subst (λ (l : List PassState). AreHanded l (ws ++ w ∷ [])) (sym all) more)

abbrev pass_in : Work → PassState
pass_in w = session_pass w.session

pub put_counted : (d : Session) (ps qs : List PassState) (gs hs : List GuardState) (ws : List Work) (w : Work) → w.session ≡ d → IsPut d ps gs qs hs → CountAlike (passes_of ps gs) ws → CountAlike (passes_of qs hs) (ws ++ w ∷ [])
put_counted d ps qs gs hs ws w is put h s = by_session d is put
  where
    mapped : counts_at s (map pass_in (ws ++ w ∷ [])) ≡ counts_at s (map pass_in ws) + slice_index (session_pass w.session).counts s
    mapped = let all : counts_at s (map pass_in (ws ++ w ∷ [])) ≡ counts_at s (map pass_in ws ++ pass_in w ∷ []) = ap (counts_at s) (map-append pass_in ws (w ∷ [])) in omega (arith, all, counts_append s (map pass_in ws) (pass_in w ∷ []))

    by_session : (d : Session) → w.session ≡ d → IsPut d ps gs qs hs → counts_at s (passes_of qs hs) ≡ counts_at s (map pass_in (ws ++ w ∷ []))
    by_session (Free p) is put =
        let own : slice_index (session_pass w.session).counts s ≡ slice_index p.counts s = ap (λ (d : Session). slice_index (session_pass d).counts s) is in
        rw (put.0, put.1) (omega (arith, mapped, own, h s, counts_append s (ps ++ p ∷ []) (map guard_pass gs), counts_append s ps (p ∷ []), counts_append s ps (map guard_pass gs)))
    by_session (Open g) is put =
        let own : slice_index (session_pass w.session).counts s ≡ slice_index g.pass.counts s = ap (λ (d : Session). slice_index (session_pass d).counts s) is in
        let all : counts_at s (passes_of ps (gs ++ g ∷ [])) ≡ counts_at s (ps ++ (map guard_pass gs ++ g.pass ∷ [])) = ap (λ (l : List PassState). counts_at s (ps ++ l)) (map-append guard_pass gs (g ∷ [])) in
        rw (put.0, put.1) (omega (arith, mapped, own, all, h s, counts_append s ps (map guard_pass gs ++ g.pass ∷ []), counts_append s (map guard_pass gs) (g.pass ∷ []), counts_append s ps (map guard_pass gs)))

pub finish_more : (fs : List Finish) (f : Finish) → finish_all (fs ++ f ∷ []) ≡ join (finish_all fs) f
finish_more [] Done = refl
finish_more [] TurnsOut = refl
finish_more (Done ∷ fs) f = finish_more fs f
finish_more (TurnsOut ∷ fs) f = refl

-- ---- what the close says of each

contained : {A : Type 0} (P : A → Type 0) (xs : List A) (x : A) → AllByRecursion P xs → Contains xs x → P x
contained P [] x a (k, lt, is) = absurd (omega (arith, lt))
contained P (y ∷ xs) x a (zero, lt, is) = subst P is a.0
contained P (y ∷ xs) x a (suc k, lt, is) = contained P xs x a.1 (k, omega (arith, lt), is)

at_map : {A B : Type 0} (f : A → B) (xs : List A) (i : ℕ) (b : B) (P : B → Type 0) → i < length xs → ((d : A) → P (f (get_or xs i d))) → P (get_or (map f xs) i b)
at_map f [] i b P lt h = absurd (omega arith)
at_map f (x ∷ xs) zero b P lt h = h x
at_map f (x ∷ xs) (suc i) b P lt h = at_map f xs i b P (omega arith) h

abbrev entries_of : Vec Entry → List Entry
entries_of v = v.items

works_within : (of : Opening) (ps : List PassState) (shards : List (Vec Entry)) (draws : ℕ) (ws : List Work) (c : IsClosed of ps shards draws) → AreHanded ps ws → AllByRecursion (λ w. IsWithin of.shards c.whole (map entries_of shards) (session_pass w.session)) ws
works_within of ps shards draws ws c h =
    all_weaker (λ w. Contains ps (session_pass w.session)) (λ w. IsWithin of.shards c.whole (map entries_of shards) (session_pass w.session)) ws
    (λ w inside. record {
      seen = contained (λ p. IsPrefix p.seen c.whole) ps (session_pass w.session) c.seen inside;
      parts = λ s lt.
          at_map entries_of shards s [] (λ (es : List Entry). IsPrefix (part s (session_pass w.session).seen) es) (omega (arith, c.many))
          (λ d. contained (λ p. IsPrefix (part s p.seen) (get_or shards s d).items) ps (session_pass w.session) (c.each s d lt).seen inside);
    }) h

pub are_within : (of : Opening) (ps : List PassState) (shards : List (Vec Entry)) (draws : ℕ) (ws : List Work) → 0 < of.shards → IsClosed of ps shards draws → AreHanded ps ws → AreInFinalHistories of.shards (map entries_of shards) ws
are_within of ps shards draws ws some c h = record { some = some; whole = c.whole; legal = c.legal; within = works_within of ps shards draws ws c h }

-- ---- the concatenated histories of all shards

-- The entries belong to this shard.
abbrev InShard : ℕ → ℕ → List Entry → Type 0
InShard n s es = AllByRecursion (λ e. s ≡ shard_of e.key n) es

-- From this shard on, each history is legal, can be written, and belongs to its shard.
abbrev AreGood : ℕ → ℕ → List (Vec Entry) → Type 0
AreGood n s [] = Unit {0}
AreGood n s (v ∷ vs) = (AreLegalKeys v.items × InShard n s v.items × AllByRecursion IsInRange v.items) × AreGood n (s + 1) vs

are_good : (n s : ℕ) (vs : List (Vec Entry)) → ((k : ℕ) (d : Vec Entry) → k < length vs → AreLegalKeys (get_or vs k d).items × InShard n (s + k) (get_or vs k d).items × AllByRecursion IsInRange (get_or vs k d).items) → AreGood n s vs
are_good n s [] h = tt
are_good n s (v ∷ vs) h =
    let first = h zero v (omega arith) in
    let plus : s + zero ≡ s = omega arith in (
      (first.0, subst (λ (k : ℕ). InShard n k v.items) plus first.1, first.2),
      are_good n (s + 1) vs (λ k d lt. let at = h (suc k) d (omega arith) in let plus' : s + suc k ≡ s + 1 + k = omega arith in (at.0, subst (λ (j : ℕ). InShard n j (get_or vs k d).items) plus' at.1, at.2)),
    )

skipped : (b : Bool) (e : Entry) (es fs : List Entry) → b ≡ false → es ≡ fs → cond b (e ∷ es) es ≡ fs
skipped true e es fs f is = cc
skipped false e es fs f is = is

other_shard : (n s : ℕ) (key : List ℕ) (e : Entry) → s ≡ shard_of e.key n → s ≢ shard_of key n → bytes_eq e.key key ≡ false
other_shard n s key e home ne = not_true (bytes_eq e.key key) (λ same. ne (home ∙ ap (λ (k : List ℕ). shard_of k n) (same_key e.key key same)))
  where
    not_true : (b : Bool) → (b ≡ true → ⊥) → b ≡ false
    not_true true f = absurd (f refl)
    not_true false f = refl

none_of_key : (n s : ℕ) (key : List ℕ) (es : List Entry) → InShard n s es → s ≢ shard_of key n → key_part key es ≡ []
none_of_key n s key [] home ne = refl
none_of_key n s key (e ∷ es) home ne = skipped (bytes_eq e.key key) e (key_part key es) [] (other_shard n s key e home.0 ne) (none_of_key n s key es home.1 ne)

split_part : (key : List ℕ) (es fs : List Entry) → key_part key (es ++ fs) ≡ key_part key es ++ key_part key fs
split_part key es fs = filter-append (λ (e : Entry). bytes_eq e.key key) es fs

none_later : (n s : ℕ) (key : List ℕ) (vs : List (Vec Entry)) → AreGood n s vs → shard_of key n < s → key_part key (all_entries vs) ≡ []
none_later n s key [] good lt = refl
none_later n s key (v ∷ vs) good lt =
    let here : key_part key v.items ≡ [] = none_of_key n s key v.items good.0.1 (λ e. absurd (omega (arith, e, lt))) in
    let rest : key_part key (all_entries vs) ≡ [] = none_later n (s + 1) key vs good.1 (omega arith) in
    split_part key v.items (all_entries vs) ∙ (ap (λ (l : List Entry). l ++ key_part key (all_entries vs)) here ∙ rest)

legal_key : (n s : ℕ) (key : List ℕ) (vs : List (Vec Entry)) → AreGood n s vs → IsLegal (map event_of (key_part key (all_entries vs)))
legal_key n s key [] good = tt
legal_key n s key (v ∷ vs) good = by_test (legal_key n (s + 1) key vs good.1) (nat_eq s (shard_of key n)) refl
  where
    by_test : IsLegal (map event_of (key_part key (all_entries vs))) → (b : Bool) → nat_eq s (shard_of key n) ≡ b → IsLegal (map event_of (key_part key (all_entries (v ∷ vs))))
    by_test later true e =
        let is : s ≡ shard_of key n = grind (arith, e) in
        let rest : key_part key (all_entries vs) ≡ [] = none_later n (s + 1) key vs good.1 (omega (arith, is)) in
        let all : key_part key (all_entries (v ∷ vs)) ≡ key_part key v.items = split_part key v.items (all_entries vs) ∙ (ap (λ (l : List Entry). key_part key v.items ++ l) rest ∙ append-nil (key_part key v.items)) in
        subst (λ (es : List Entry). IsLegal (map event_of es)) (sym all) (good.0.0 key)
    by_test later false e =
        let ne : s ≢ shard_of key n = grind (arith, e) in
        let here : key_part key v.items ≡ [] = none_of_key n s key v.items good.0.1 ne in
        let all : key_part key (all_entries (v ∷ vs)) ≡ key_part key (all_entries vs) = split_part key v.items (all_entries vs) ∙ ap (λ (l : List Entry). l ++ key_part key (all_entries vs)) here in
        subst (λ (es : List Entry). IsLegal (map event_of es)) (sym all) later

all_in_range : (n s : ℕ) (vs : List (Vec Entry)) → AreGood n s vs → AllByRecursion IsInRange (all_entries vs)
all_in_range n s [] good = tt
all_in_range n s (v ∷ vs) good = all_append IsInRange v.items (all_entries vs) good.0.2 (all_in_range n (s + 1) vs good.1)

closed_good : (of : Opening) (ps : List PassState) (shards : List (Vec Entry)) (draws : ℕ) → IsClosed of ps shards draws → AreGood of.shards 0 shards
closed_good of ps shards draws c = are_good of.shards 0 shards (λ k d lt. let f = c.each k d (omega (arith, c.many)) in let zero_plus : k ≡ 0 + k = omega arith in (f.legal, subst (λ (j : ℕ). InShard of.shards j (get_or shards k d).items) zero_plus f.home, f.in_range))

-- ---- the run

run_many : (rules : Rules) (gate : GateAnswers) (cs : List Command) (ps : List PassState) (dss : List (List ExecutedLine)) (ws : List Work) → AreRun rules gate cs ps dss ws → length dss ≡ length ps
run_many rules gate cs [] [] [] r = refl
run_many rules gate cs [] [] (w ∷ ws) r = absurd r
run_many rules gate cs [] (ds ∷ dss) ws r = absurd r
run_many rules gate cs (p ∷ ps) [] ws r = absurd r
run_many rules gate cs (p ∷ ps) (ds ∷ dss) [] r = absurd r
run_many rules gate cs (p ∷ ps) (ds ∷ dss) (w ∷ ws) r = ap (λ n. suc n) (run_many rules gate cs ps dss ws r.1)

answers_in : Work → Vec AnswerLine
answers_in w = w.answers

answered : (rules : Rules) (gate : GateAnswers) (cs : List Command) (n : ℕ) (ps : List PassState) (dss : List (List ExecutedLine)) (ws : List Work) → AreRun rules gate cs ps dss ws → AreNumbered n ps → AreAnswered rules gate cs (n + 1) dss (map (λ w. w.answers) ws) (map (λ w. w.finish) ws)
answered rules gate cs n [] [] [] r num = tt
answered rules gate cs n [] [] (w ∷ ws) r num = absurd r
answered rules gate cs n [] (ds ∷ dss) ws r num = absurd r
answered rules gate cs n (p ∷ ps) [] ws r num = absurd r
answered rules gate cs n (p ∷ ps) (ds ∷ dss) [] r num = absurd r
answered rules gate cs n (p ∷ ps) (ds ∷ dss) (w ∷ ws) r num =
    let one : IsAnswered rules gate p.number (pass_lines p.number cs) ds w.answers.items w.finish = record {
      rest = r.0.rest;
      all = r.0.all ∙ ap (λ (l : List Command). l ++ r.0.rest) (sym r.0.done.lines_are);
      after = session_request w.session;
      runs = r.0.done.runs;
      answers_are = r.0.done.answers_are;
      may_run = r.0.may_run;
      ended = r.0.ended;
    } in
    (subst (λ (k : ℕ). IsAnswered rules gate k (pass_lines k cs) ds w.answers.items w.finish) num.0 one, answered rules gate cs (n + 1) ps dss ws r.1 num.1)

-- The passes had made no step in the shard.
abbrev pub HaveNone : ℕ → List PassState → Type 0
HaveNone s ps = AllByRecursion (λ p. slice_index p.counts s ≡ 0) ps

counts_are_made : (rules : Rules) (gate : GateAnswers) (cs : List Command) (shards s : ℕ) (ps : List PassState) (dss : List (List ExecutedLine)) (ws : List Work) → AreRun rules gate cs ps dss ws → AreOfShards shards ps → HaveNone s ps → counts_at s (map pass_in ws) ≡ made_at shards s dss
counts_are_made rules gate cs shards s [] [] [] r of none = refl
counts_are_made rules gate cs shards s [] [] (w ∷ ws) r of none = absurd r
counts_are_made rules gate cs shards s [] (ds ∷ dss) ws r of none = absurd r
counts_are_made rules gate cs shards s (p ∷ ps) [] ws r of none = absurd r
counts_are_made rules gate cs shards s (p ∷ ps) (ds ∷ dss) [] r of none = absurd r
counts_are_made rules gate cs shards s (p ∷ ps) (ds ∷ dss) (w ∷ ws) r of none =
    let here : slice_index (session_pass w.session).counts s ≡ slice_index p.counts s + steps_at shards s (flat_map steps_of_executed ds) = subst (λ (k : ℕ). slice_index (session_pass w.session).counts s ≡ slice_index p.counts s + steps_at k s (flat_map steps_of_executed ds)) of.0 (r.0.done.tells.counted s) in
    omega (arith, here, none.0, counts_are_made rules gate cs shards s ps dss ws r.1 of.1 none.1)

are_all : (rules : Rules) (gate : GateAnswers) (of : Opening) (cs : List Command) (ps qs : List PassState) (dss : List (List ExecutedLine)) (ws : List Work) (shards : List (Vec Entry)) (draws : ℕ)
    → IsClosed of qs shards draws → CountAlike qs ws → AreRun rules gate cs ps dss ws → AreOfShards of.shards ps → ((s : ℕ) → s < of.shards → HaveNone s ps) → AreAll of.shards (map entries_of shards) dss
are_all rules gate of cs ps qs dss ws shards draws closed alike run same none s lt =
    at_map entries_of shards s [] (λ (es : List Entry). length es ≡ made_at of.shards s dss) (omega (arith, closed.many))
    (λ d. (closed.each s d lt).counted ∙ (alike s ∙ counts_are_made rules gate cs of.shards s ps dss ws run same (none s lt)))

-- What each pass has seen is a prefix of the one history.
works_seen : (whole : List Event) (qs : List PassState) (ws : List Work) → AllByRecursion (λ p. IsPrefix p.seen whole) qs → AreHanded qs ws → AllByRecursion (λ w. IsPrefix (session_pass w.session).seen whole) ws
works_seen whole qs ws seen handed = all_weaker (λ w. Contains qs (session_pass w.session)) (λ w. IsPrefix (session_pass w.session).seen whole) ws (λ w inside. contained (λ p. IsPrefix p.seen whole) qs (session_pass w.session) seen inside) handed

-- A fact about the executed lines of each pass, given what the pass did and that it has seen a prefix of the history.
each_lines_done : (Q : List ExecutedLine → Type 0) (rules : Rules) (gate : GateAnswers) (cs : List Command) (whole : List Event) (ps : List PassState) (dss : List (List ExecutedLine)) (ws : List Work)
    → ((p : PassState) (ds : List ExecutedLine) (w : Work) → IsRunOf rules gate cs p ds w → IsPrefix (session_pass w.session).seen whole → Q ds) → AreRun rules gate cs ps dss ws → AllByRecursion (λ w. IsPrefix (session_pass w.session).seen whole) ws → AllByRecursion Q dss
each_lines_done Q rules gate cs whole [] [] [] f r seen = tt
each_lines_done Q rules gate cs whole [] [] (w ∷ ws) f r seen = absurd r
each_lines_done Q rules gate cs whole [] (ds ∷ dss) ws f r seen = absurd r
each_lines_done Q rules gate cs whole (p ∷ ps) [] ws f r seen = absurd r
each_lines_done Q rules gate cs whole (p ∷ ps) (ds ∷ dss) [] f r seen = absurd r
each_lines_done Q rules gate cs whole (p ∷ ps) (ds ∷ dss) (w ∷ ws) f r seen = (f p ds w r.0 seen.0, each_lines_done Q rules gate cs whole ps dss ws f r.1 seen.1)

-- Each number in an answer is a draw of the one history.
are_drawn : (rules : Rules) (gate : GateAnswers) (cs : List Command) (whole : List Event) (n : ℕ) (ps : List PassState) (dss : List (List ExecutedLine)) (ws : List Work) → AreRun rules gate cs ps dss ws → AreNumbered n ps → AllByRecursion (λ w. IsPrefix (session_pass w.session).seen whole) ws → AreDrawn whole (n + 1) dss
are_drawn rules gate cs whole n [] [] [] r num seen = tt
are_drawn rules gate cs whole n [] [] (w ∷ ws) r num seen = absurd r
are_drawn rules gate cs whole n [] (ds ∷ dss) ws r num seen = absurd r
are_drawn rules gate cs whole n (p ∷ ps) [] ws r num seen = absurd r
are_drawn rules gate cs whole n (p ∷ ps) (ds ∷ dss) [] r num seen = absurd r
are_drawn rules gate cs whole n (p ∷ ps) (ds ∷ dss) (w ∷ ws) r num seen =
    let q : PassState = session_pass w.session in
    let here : AllByRecursion (DrewIn whole p.number) (run_numbers ds) = all_weaker (IsDrawn p.number p.seen q.seen) (DrewIn whole p.number) (run_numbers ds) (λ m d. draws_stay q.seen whole p.number m seen.0 d.drew) r.0.done.tells.drawn in
    (subst (λ (k : ℕ). AllByRecursion (DrewIn whole k) (run_numbers ds)) num.0 here, are_drawn rules gate cs whole (n + 1) ps dss ws r.1 num.1 seen.1)

-- The final history of each shard is a prefix of the shard's part of the one history.
in_parts : (of : Opening) (qs : List PassState) (shards : List (Vec Entry)) (draws : ℕ) (c : IsClosed of qs shards draws) (s : ℕ) → s < of.shards → IsPrefix (get_or (map entries_of shards) s []) (part s c.whole)
in_parts of qs shards draws c s lt = at_map entries_of shards s [] (λ (es : List Entry). IsPrefix es (part s c.whole)) (omega (arith, c.many)) (λ d. (c.each s d lt).stands)

-- The lines hear one another in what one of the passes has seen.
heard_there : (shards : ℕ) (finals : Finals) (whole h : List Event) (all : List ExecutedLine) (ws : List Work) → AllByRecursion (λ w. IsWithin shards whole finals (session_pass w.session)) ws → AllHear shards h all → (all ≡ []) ⊎ IsSeenBySome h ws → IsHeard shards finals whole all
heard_there shards finals whole h all ws inside a (inl none) = record { history = []; within = (whole, refl); parts = λ n lt. (final_of finals n, refl); all_hear = subst (AllHear shards []) (sym none) tt }
heard_there shards finals whole h all ws inside a (inr s) =
    let seen : List Event = (session_pass s.work.session).seen in
    let w : IsWithin shards whole finals (session_pass s.work.session) = contained (λ w. IsWithin shards whole finals (session_pass w.session)) ws s.work inside s.among in
    record {
      history = h;
      within = prefix_trans h seen whole s.seen w.seen;
      parts = λ n lt. prefix_trans (part n h) (part n seen) (final_of finals n) (part_prefix n h seen s.seen) (w.parts n lt);
      all_hear = a;
    }

pub is_ran : (rules : Rules) (gate : GateAnswers) (of : Opening) (cs : List Command) (ps qs : List PassState) (ws : List Work) (ran : Ran)
    → 0 < of.shards → AllByRecursion (IsAmong (length ps)) cs → AllByRecursion (λ p. p.of ≡ of) ps → AreNumbered 0 ps → HaveRun rules gate of.shards cs ps ws → IsClosed of qs ran.histories.items ran.draws → All (λ es. length es.items ≤ rules.max_steps) ran.histories.items
    → AreHanded qs ws → CountAlike qs ws → ((s : ℕ) → s < of.shards → HaveNone s ps)
    → ran.answers.items ≡ map (λ w. w.answers) ws → ran.finish ≡ finish_all (map (λ w. w.finish) ws) → IsRan rules gate of.shards cs ran
is_ran rules gate of cs ps qs ws ran some among are_of num have closed limit handed alike none answers_are finish_is =
    let run : AreRun rules gate cs ps have.lines_done ws = have.run in
    let within : AreInFinalHistories of.shards (map entries_of ran.histories.items) ws = are_within of qs ran.histories.items ran.draws ws some closed handed in
    let shards : AreOfShards of.shards ps = all_weaker (λ p. p.of ≡ of) (λ p. p.of.shards ≡ of.shards) ps (λ p e. ap (λ (o : Opening). o.shards) e) are_of in
    let good : AreGood of.shards 0 ran.histories.items = closed_good of qs ran.histories.items ran.draws closed in
    let seen : AllByRecursion (λ w. IsPrefix (session_pass w.session).seen closed.whole) ws = works_seen closed.whole qs ws closed.seen handed in
    record {
      lines_done = have.lines_done;
      finishes = map (λ w. w.finish) ws;
      among = subst (λ (n : ℕ). AllByRecursion (IsAmong n) cs) (sym (run_many rules gate cs ps have.lines_done ws run)) among;
      answered = subst (λ (as' : List (Vec AnswerLine)). AreAnswered rules gate cs 1 have.lines_done as' (map (λ w. w.finish) ws)) (sym answers_are) (answered rules gate cs 0 ps have.lines_done ws run num);
      finish = finish_is;
      many = closed.many;
      stand = all_stand rules gate cs of.shards within.whole (map entries_of ran.histories.items) 0 ps have.lines_done ws some within.legal shards run num within.within;
      all = are_all rules gate of cs ps qs have.lines_done ws ran.histories.items ran.draws closed alike run shards none;
      in_order = have.in_order;
      whole = closed.whole;
      is_whole = record { legal = closed.legal; parts = in_parts of qs ran.histories.items ran.draws closed; drawn = are_drawn rules gate cs closed.whole 0 ps have.lines_done ws run num seen };
      heard = λ e. heard_there of.shards (map entries_of ran.histories.items) closed.whole (have.heard e).history (somes (have.in_order e).executed) ws (works_within of qs ran.histories.items ran.draws ws closed handed) (have.heard e).all_hear (have.heard e).seen;
      draws = closed.draws_are;
      numbers_out = each_lines_done (AllByRecursion (λ d. IsOutOnlyAt rules.max_requests (draws_of closed.whole) d.answer)) rules gate cs closed.whole ps have.lines_done ws
          (λ p ds w r here. out_later rules.max_requests (session_pass w.session).seen closed.whole ds here r.done.numbers_out) run seen;
      limit = recursion_from_All (λ (es : Vec Entry). length es.items ≤ rules.max_steps) ran.histories.items limit;
      legal = λ key. legal_key of.shards 0 key ran.histories.items good;
      in_range = all_in_range of.shards 0 ran.histories.items good;
    }

-- ---- the passes of a new table

fresh_many : (of : Opening) (n : ℕ) → length (fresh_passes of n) ≡ n
fresh_many of zero = refl
fresh_many of (suc n) = length-append (fresh_passes of n) (fresh of (suc n) ∷ []) ∙ (let rest : length (fresh_passes of n) ≡ n = fresh_many of n in omega arith)

numbered_more : (k : ℕ) (ps : List PassState) (p : PassState) → AreNumbered k ps → p.number ≡ k + length ps + 1 → AreNumbered k (ps ++ p ∷ [])
numbered_more k [] p h is = (omega (arith, is), tt)
numbered_more k (q ∷ ps) p h is = (h.0, numbered_more (k + 1) ps p h.1 (omega (arith, is)))

fresh_numbered : (of : Opening) (n : ℕ) → AreNumbered 0 (fresh_passes of n)
fresh_numbered of zero = tt
fresh_numbered of (suc n) = numbered_more 0 (fresh_passes of n) (fresh of (suc n)) (fresh_numbered of n) (let many : length (fresh_passes of n) ≡ n = fresh_many of n in omega arith)

pub new_numbered : (of : Opening) (n : ℕ) (ps : List PassState) → ps ≡ fresh_passes of n → AreNumbered 0 ps
new_numbered of n ps e = subst (AreNumbered 0) (sym e) (fresh_numbered of n)

pub new_among : (of : Opening) (n : ℕ) (ps : List PassState) (cs : List Command) → ps ≡ fresh_passes of n → AllByRecursion (IsAmong n) cs → AllByRecursion (IsAmong (length ps)) cs
new_among of n ps cs e a = let many : length ps ≡ n = ap length e ∙ fresh_many of n in subst (λ (k : ℕ). AllByRecursion (IsAmong k) cs) (sym many) a

fresh_none : (of : Opening) (s n : ℕ) → s < of.shards → HaveNone s (fresh_passes of n)
fresh_none of s zero lt = tt
fresh_none of s (suc n) lt = all_more (λ p. slice_index p.counts s ≡ 0) (fresh_passes of n) (fresh of (suc n)) (fresh_none of s n lt) (get_or-replicate of.shards s 0 0 lt)

pub new_none : (of : Opening) (n : ℕ) (ps : List PassState) → ps ≡ fresh_passes of n → (s : ℕ) → s < of.shards → HaveNone s ps
new_none of n ps e s lt = subst (HaveNone s) (sym e) (fresh_none of s n lt)

-- A new table has passes.
pub new_some : (of : Opening) (n : ℕ) (ps : List PassState) → ps ≡ fresh_passes of n → 0 < n → 0 < length ps
new_some of n ps e lt = let many : length ps ≡ n = ap length e ∙ fresh_many of n in omega (arith, many)

-- The passes of the work are the table's passes.
run_of : (rules : Rules) (gate : GateAnswers) (cs : List Command) (of : Opening) (ps : List PassState) (dss : List (List ExecutedLine)) (ws : List Work) → AreRun rules gate cs ps dss ws → AllByRecursion (λ p. p.of ≡ of) ps → AllByRecursion (λ w. (session_pass w.session).of ≡ of) ws
run_of rules gate cs of [] [] [] r h = tt
run_of rules gate cs of [] [] (w ∷ ws) r h = absurd r
run_of rules gate cs of [] (ds ∷ dss) ws r h = absurd r
run_of rules gate cs of (p ∷ ps) [] ws r h = absurd r
run_of rules gate cs of (p ∷ ps) (ds ∷ dss) [] r h = absurd r
run_of rules gate cs of (p ∷ ps) (ds ∷ dss) (w ∷ ws) r h = (r.0.done.tells.of ∙ h.0, run_of rules gate cs of ps dss ws r.1 h.1)

pub works_of : (rules : Rules) (gate : GateAnswers) (cs : List Command) (of : Opening) (ps : List PassState) (ws : List Work) → HaveRun rules gate of.shards cs ps ws → AllByRecursion (λ p. p.of ≡ of) ps → AllByRecursion (λ w. (session_pass w.session).of ≡ of) ws
works_of rules gate cs of ps ws have h = run_of rules gate cs of ps have.lines_done ws have.run h
