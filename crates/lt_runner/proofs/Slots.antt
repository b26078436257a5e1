-- What the passes of a script have done, in a list.
use Rattle.std.proofs.Common.{◌≡◌, ◌≢◌, inl, inr, ℕ, zero, suc, ◌+◌, ◌-◌, ◌<◌, ◌≤◌, ◌==◌, true, false, List, [], ◌∷◌, ◌++◌, length, take, map, get_or, set, Option, Some, None, Result, Ok, refl, sym, ap, subst, ◌∙◌, append-nil, arith}
use Rattle.std.specs.Prelude.{is_some, Contains, ◌⊎◌}
use Rattle.std.specs.List.{flat_map, AllByRecursion}
use Rattle.std.proofs.lemmas.List.Elements.{filter-append}
use mathlib.Core.List.{IsPrefix}
use Rattle.lt_ids.specs.declared.ticket.Through.{Through}
use Rattle.lt_words.specs.declared.event.Event.{Event}
use Rattle.lt_words.specs.Row.{Opening, PassState, FrontState}
use Rattle.lt_script.specs.declared.command.Command.{Command}
use Rattle.lt_walk.specs.Machine.{Step}
use Rattle.lt_runner.specs.declared.session.Session.{Session}
use Rattle.lt_runner.specs.declared.outcome.Work.{Work}
use Rattle.lt_runner.specs.declared.outcome.OutOfMemory.{OutOfMemory}
use Rattle.lt_runner.specs.Sessions.{session_pass}
use Rattle.lt_runner.specs.Machine.{Rules, ExecutedLine}
use Rattle.lt_runner.specs.Outcomes.{IsSeen, LetsAreShown, ComesAfter, Ascend}
use Rattle.lt_runner.specs.Gates.{GateAnswers}
use Rattle.lt_runner.specs.Worked.{IsRun, IsBegun, WorkGoesOn, steps_of_executed, pass_lines}
use Rattle.lt_runner.specs.Turns.{IsAmong, AreWorked, AreRun, HaveRun, HaveRunInOrder, IsTriedOf, AreTried, AreNumbered, IsExecuted, AreExecuted, AreOwn, AreInOrder, AllHear, IsSeenBySome, IsSlot, AreSlots, IsReady, Learns, TakesTurn, HaveBegun, slot_at, lines_done_of, no_lines_done, somes}
use Rattle.lt_runner.proofs.Telling.{ascend_append, lets_shown_later, prefix_self, seen_later, all_append, all_more, all_weaker}
use Rattle.lt_runner.proofs.Hearing.{hear_later, hear_turn}
use Rattle.lt_runner.proofs.Lines.{IsTurned, TurnHears, turn_steps, turned, run_learnt, run_none, flat_snoc, one_in, none_in, mine, other, prefix_more, is_same, is_other}

pub set_twice : {A : Type 0} (xs : List A) (i : ℕ) (a b : A) → set (set xs i a) i b ≡ set xs i b
set_twice [] i a b = refl
set_twice (x ∷ xs) zero a b = refl
set_twice (x ∷ xs) (suc i) a b = ap (λ ys. x ∷ ys) (set_twice xs i a b)

pub any_default : {A : Type 0} (xs : List A) (i : ℕ) (a b : A) → i < length xs → get_or xs i a ≡ get_or xs i b
any_default [] i a b lt = absurd (omega arith)
any_default (x ∷ xs) zero a b lt = refl
any_default (x ∷ xs) (suc i) a b lt = any_default xs i a b (omega arith)

pub all_at : {A : Type 0} (P : A → Type 0) (xs : List A) (i : ℕ) (x : A) → AllByRecursion P xs → i < length xs → x ≡ get_or xs i x → P x
all_at P [] i x p lt e = absurd (omega arith)
all_at P (y ∷ xs) zero x p lt e = subst P (sym e) p.0
all_at P (y ∷ xs) (suc i) x p lt e = all_at P xs i x p.1 (omega arith) e

-- ---- slots

slot_other : (rules : Rules) (gate : GateAnswers) (cs : List Command) (c : Command) (p : PassState) (ds : List ExecutedLine) (s : Option Work) → c.pass ≢ p.number → IsSlot rules gate cs p ds s → IsSlot rules gate (cs ++ c ∷ []) p ds s
slot_other rules gate cs c p ds None ne h = absurd h
slot_other rules gate cs c p ds (Some w) ne h = subst (λ (ls : List Command). IsRun rules gate p ls ds w) (sym (other p.number cs c (is_other c.pass p.number ne))) h

slots_other : (rules : Rules) (gate : GateAnswers) (cs : List Command) (c : Command) (n : ℕ) (ps : List PassState) (dss : List (List ExecutedLine)) (ss : List (Option Work)) → AreNumbered n ps → c.pass ≤ n → AreSlots rules gate cs ps dss ss → AreSlots rules gate (cs ++ c ∷ []) ps dss ss
slots_other rules gate cs c n [] [] [] num le h = tt
slots_other rules gate cs c n [] [] (s ∷ ss) num le h = absurd h
slots_other rules gate cs c n [] (ds ∷ dss) ss num le h = absurd h
slots_other rules gate cs c n (p ∷ ps) [] ss num le h = absurd h
slots_other rules gate cs c n (p ∷ ps) (ds ∷ dss) [] num le h = absurd h
slots_other rules gate cs c n (p ∷ ps) (ds ∷ dss) (s ∷ ss) num le h =
    let is : p.number ≡ n + 1 = num.0 in
    (slot_other rules gate cs c p ds s (λ e. absurd (omega arith)) h.0, slots_other rules gate cs c (n + 1) ps dss ss num.1 (omega arith) h.1)

-- The list at an index, with more items appended.
abbrev add_at : {A : Type 0} → List (List A) → ℕ → List A → List (List A)
add_at [] i xs = []
add_at (l ∷ ls) zero xs = (l ++ xs) ∷ ls
add_at (l ∷ ls) (suc i) xs = l ∷ add_at ls i xs

-- The slot at an index did this at its line, or nothing: the steps come after what its pass had seen.
record AreTurned (rules : Rules) (gate : GateAnswers) (of : Opening) (cs : List Command) (c : Command) (i : ℕ) (ps : List PassState) (dss : List (List ExecutedLine)) (ss : List (Option Work)) (session : Session) (after : Work) : Type 0 where
  turn : Option ExecutedLine
  line_is : IsExecuted c turn
  slots : AreSlots rules gate (cs ++ c ∷ []) ps (add_at dss i (somes (turn ∷ []))) (set ss i (Some after))
  same : (session_pass after.session).of ≡ of
  seen : IsPrefix (session_pass session).seen (session_pass after.session).seen
  comes : AllByRecursion (ComesAfter of.shards (session_pass session).seen) (turn_steps turn)
  within : AllByRecursion (IsSeen of.shards (session_pass after.session).seen) (turn_steps turn)
  ascend : Ascend of.shards (turn_steps turn)
  shown : IsPrefix (session_pass session).shown (session_pass after.session).shown
  told : AllByRecursion (LetsAreShown of.shards (session_pass after.session).seen (session_pass after.session).shown) (turn_steps turn)
  heard : TurnHears (session_pass session) (session_pass after.session) turn
  number : (session_pass session).number ≡ c.pass
  home : (session_pass session).of.shards ≡ of.shards

slot_turned : (rules : Rules) (gate : GateAnswers) (of : Opening) (cs : List Command) (c : Command) (n : ℕ) (p : PassState) (ps : List PassState) (ds : List ExecutedLine) (dss : List (List ExecutedLine)) (s : Option Work) (ss : List (Option Work)) (w after : Work) (session : Session) (seen : FrontState)
    → p.of ≡ of → AreNumbered (n + 1) ps → p.number ≡ n + 1 → c.pass ≡ n + 1 → s ≡ Some w → Learns seen w.session session → WorkGoesOn rules gate w.finish (record w { session = session }) c after
    → IsSlot rules gate cs p ds s → AreSlots rules gate cs ps dss ss → AreTurned rules gate of cs c 0 (p ∷ ps) (ds ∷ dss) (s ∷ ss) session after
slot_turned rules gate of cs c n p ps ds dss s ss w after session seen is_of num is at was l g h rest =
    let w' : Work = record w { session = session } in
    let here : IsRun rules gate p (pass_lines p.number cs) ds w = subst (λ (o : Option Work). IsSlot rules gate cs p ds o) was h in
    let run : IsRun rules gate p (pass_lines p.number cs) ds w' = run_learnt rules gate p (pass_lines p.number cs) ds w session seen here l in
    let t : IsTurned rules gate p (pass_lines p.number cs) c ds w' after = turned rules gate p (pass_lines p.number cs) c ds w.finish w' after refl run g in
    let shards : p.of.shards ≡ of.shards = ap (λ (o : Opening). o.shards) is_of in
    record {
      turn = t.turn;
      line_is = t.line_is;
      slots = (
        subst (λ (ls : List Command). IsRun rules gate p ls (ds ++ somes (t.turn ∷ [])) after) (sym (mine p.number cs c (is_same c.pass p.number (at ∙ sym is)))) t.run,
        slots_other rules gate cs c (n + 1) ps dss ss num (omega (arith, at)) rest,
      );
      same = t.of ∙ (run.done.tells.of ∙ is_of);
      seen = t.seen;
      comes = subst (λ (k : ℕ). AllByRecursion (ComesAfter k (session_pass session).seen) (turn_steps t.turn)) shards t.after;
      within = subst (λ (k : ℕ). AllByRecursion (IsSeen k (session_pass after.session).seen) (turn_steps t.turn)) shards t.within;
      ascend = subst (λ (k : ℕ). Ascend k (turn_steps t.turn)) shards t.ascend;
      shown = t.shown;
      told = subst (λ (k : ℕ). AllByRecursion (LetsAreShown k (session_pass after.session).seen (session_pass after.session).shown) (turn_steps t.turn)) shards t.told;
      heard = t.heard;
      number = run.done.tells.number ∙ (is ∙ sym at);
      home = ap (λ (o : Opening). o.shards) (run.done.tells.of ∙ is_of);
    }

slots_turned : (rules : Rules) (gate : GateAnswers) (of : Opening) (cs : List Command) (c : Command) (n i : ℕ) (ps : List PassState) (dss : List (List ExecutedLine)) (ss : List (Option Work)) (w after : Work) (session : Session) (seen : FrontState)
    → AllByRecursion (λ p. p.of ≡ of) ps → AreNumbered n ps → c.pass ≡ n + i + 1 → get_or ss i None ≡ Some w → Learns seen w.session session → WorkGoesOn rules gate w.finish (record w { session = session }) c after
    → AreSlots rules gate cs ps dss ss → AreTurned rules gate of cs c i ps dss ss session after
slots_turned rules gate of cs c n i [] [] [] w after session seen ofs num e was l g h = absurd cc
slots_turned rules gate of cs c n i [] [] (s ∷ ss) w after session seen ofs num e was l g h = absurd h
slots_turned rules gate of cs c n i [] (ds ∷ dss) ss w after session seen ofs num e was l g h = absurd h
slots_turned rules gate of cs c n i (p ∷ ps) [] ss w after session seen ofs num e was l g h = absurd h
slots_turned rules gate of cs c n i (p ∷ ps) (ds ∷ dss) [] w after session seen ofs num e was l g h = absurd h
slots_turned rules gate of cs c n zero (p ∷ ps) (ds ∷ dss) (s ∷ ss) w after session seen ofs num e was l g h =
    slot_turned rules gate of cs c n p ps ds dss s ss w after session seen ofs.0 num.1 num.0 (omega (arith, e)) was l g h.0 h.1
slots_turned rules gate of cs c n (suc i) (p ∷ ps) (ds ∷ dss) (s ∷ ss) w after session seen ofs num e was l g h =
    let is : p.number ≡ n + 1 = num.0 in
    let t : AreTurned rules gate of cs c i ps dss ss session after = slots_turned rules gate of cs c (n + 1) i ps dss ss w after session seen ofs.1 num.1 (omega arith) was l g h.1 in
    record {
      turn = t.turn;
      line_is = t.line_is;
      slots = (slot_other rules gate cs c p ds s (λ x. absurd (omega arith)) h.0, t.slots);
      same = t.same;
      seen = t.seen;
      comes = t.comes;
      within = t.within;
      ascend = t.ascend;
      shown = t.shown;
      told = t.told;
      heard = t.heard;
      number = t.number;
      home = t.home;
    }

-- ---- the order

turns_more : (cs : List Command) (ts : List (Option ExecutedLine)) (c : Command) (t : Option ExecutedLine) → AreExecuted cs ts → IsExecuted c t → AreExecuted (cs ++ c ∷ []) (ts ++ t ∷ [])
turns_more [] [] c t h last = (last, tt)
turns_more [] (u ∷ ts) c t h last = absurd h
turns_more (d ∷ cs) [] c t h last = absurd h
turns_more (d ∷ cs) (u ∷ ts) c t h last = (h.0, turns_more cs ts c t h.1 last)

somes_more : {A : Type 0} (xs : List (Option A)) (x : Option A) → somes (xs ++ x ∷ []) ≡ somes xs ++ somes (x ∷ [])
somes_more [] x = refl
somes_more (None ∷ xs) x = somes_more xs x
somes_more {A} (Some y ∷ xs) x = ap (λ (l : List A). y ∷ l) (somes_more xs x)

steps_more : (ds : List ExecutedLine) (t : Option ExecutedLine) → flat_map steps_of_executed (ds ++ somes (t ∷ [])) ≡ flat_map steps_of_executed ds ++ turn_steps t
steps_more ds None = ap (flat_map steps_of_executed) (append-nil ds) ∙ sym (append-nil (flat_map steps_of_executed ds))
steps_more ds (Some d) = flat_snoc steps_of_executed ds d

lines_done_other : (n : ℕ) (all : List ExecutedLine) (c : Command) (t : Option ExecutedLine) → IsExecuted c t → c.pass ≢ n → lines_done_of n (all ++ somes (t ∷ [])) ≡ lines_done_of n all
lines_done_other n all c None is ne = ap (lines_done_of n) (append-nil all)
lines_done_other n all c (Some d) is ne =
    let other : (d.line.pass == n) ≡ false = ap (λ (x : Command). x.pass == n) is ∙ is_other c.pass n ne in
    filter-append (λ (x : ExecutedLine). x.line.pass == n) all (d ∷ []) ∙ (ap (λ (l : List ExecutedLine). lines_done_of n all ++ l) (none_in (d.line.pass == n) d other) ∙ append-nil (lines_done_of n all))

lines_done_mine : (n : ℕ) (all : List ExecutedLine) (c : Command) (t : Option ExecutedLine) → IsExecuted c t → c.pass ≡ n → lines_done_of n (all ++ somes (t ∷ [])) ≡ lines_done_of n all ++ somes (t ∷ [])
lines_done_mine n all c None is at = ap (lines_done_of n) (append-nil all) ∙ sym (append-nil (lines_done_of n all))
lines_done_mine n all c (Some d) is at =
    let own : (d.line.pass == n) ≡ true = ap (λ (x : Command). x.pass == n) is ∙ is_same c.pass n at in
    filter-append (λ (x : ExecutedLine). x.line.pass == n) all (d ∷ []) ∙ ap (λ (l : List ExecutedLine). lines_done_of n all ++ l) (one_in (d.line.pass == n) d own)

own_others : (n : ℕ) (dss : List (List ExecutedLine)) (all : List ExecutedLine) (c : Command) (t : Option ExecutedLine) → IsExecuted c t → c.pass < n → AreOwn n dss all → AreOwn n dss (all ++ somes (t ∷ []))
own_others n [] all c t is lt h = tt
own_others n (ds ∷ dss) all c t is lt h = (h.0 ∙ sym (lines_done_other n all c t is (λ e. absurd (omega arith))), own_others (n + 1) dss all c t is (omega arith) h.1)

own_turned : (n i : ℕ) (dss : List (List ExecutedLine)) (all : List ExecutedLine) (c : Command) (t : Option ExecutedLine) → IsExecuted c t → c.pass ≡ n + i → AreOwn n dss all → AreOwn n (add_at dss i (somes (t ∷ []))) (all ++ somes (t ∷ []))
own_turned n i [] all c t is at h = tt
own_turned n zero (ds ∷ dss) all c t is at h =
    let here : c.pass ≡ n = omega (arith, at) in
    (ap (λ (l : List ExecutedLine). l ++ somes (t ∷ [])) h.0 ∙ sym (lines_done_mine n all c t is here), own_others (n + 1) dss all c t is (omega (arith, here)) h.1)
own_turned n (suc i) (ds ∷ dss) all c t is at h = (h.0 ∙ sym (lines_done_other n all c t is (λ e. absurd (omega (arith, at)))), own_turned (n + 1) i dss all c t is (omega (arith, at)) h.1)

-- The pass in one of the slots has seen exactly this history.
pub record IsSeenInSlot (h : List Event) (ss : List (Option Work)) : Type 0 where
  pub at : ℕ
  pub work : Work
  pub is : get_or ss at None ≡ Some work
  pub seen : (session_pass work.session).seen ≡ h

set_get : (ss : List (Option Work)) (i : ℕ) (w v : Work) → get_or ss i None ≡ Some w → get_or (set ss i (Some v)) i None ≡ Some v
set_get [] i w v e = absurd (cc e)
set_get (s ∷ ss) zero w v e = refl
set_get (s ∷ ss) (suc i) w v e = set_get ss i w v e

slot_among : (ss : List (Option Work)) (i : ℕ) (w : Work) → get_or ss i None ≡ Some w → Contains (somes ss) w
slot_among [] i w e = absurd (cc e)
slot_among (None ∷ ss) zero w e = absurd (cc e)
slot_among (Some v ∷ ss) zero w e = let same : v ≡ w = cc in (zero, omega arith, same)
slot_among (None ∷ ss) (suc i) w e = slot_among ss i w e
slot_among (Some v ∷ ss) (suc i) w e = let d : Contains (somes ss) w = slot_among ss i w e in (suc d.0, omega (arith, d.1), d.2)

seen_by : (h : List Event) (all : List ExecutedLine) (ss : List (Option Work)) (ws : List Work) → (all ≡ []) ⊎ IsSeenInSlot h ss → ws ≡ somes ss → (all ≡ []) ⊎ IsSeenBySome h ws
seen_by h all ss ws (inl e) same = inl e
seen_by h all ss ws (inr s) same = inr (record {
  work = s.work;
  among = subst (λ (l : List Work). Contains l s.work) (sym same) (slot_among ss s.at s.work s.is);
  seen = subst (λ (x : List Event). IsPrefix x (session_pass s.work.session).seen) s.seen (prefix_self (session_pass s.work.session).seen);
})

-- The lines among these commands were executed in their order, and their steps were seen.
pub record RunInOrder (rules : Rules) (gate : GateAnswers) (of : Opening) (cs : List Command) (ps : List PassState) (ss : List (Option Work)) (seen : FrontState) : Type 0 where
  pub lines_done : List (List ExecutedLine)
  pub slots : AreSlots rules gate cs ps lines_done ss
  pub order : AreInOrder of.shards cs lines_done
  pub within : AllByRecursion (IsSeen of.shards seen.seen) (flat_map steps_of_executed (somes order.executed))
  pub told : AllByRecursion (LetsAreShown of.shards seen.seen seen.shown) (flat_map steps_of_executed (somes order.executed))
  pub hear : AllHear of.shards seen.seen (somes order.executed)
  pub by : (somes order.executed ≡ []) ⊎ IsSeenInSlot seen.seen ss
  pub same : seen.of ≡ of

own_none : (n : ℕ) (ps : List PassState) → AreOwn n (no_lines_done ps) []
own_none n [] = tt
own_none n (p ∷ ps) = (refl, own_none (n + 1) ps)

pub none_in_order : (rules : Rules) (gate : GateAnswers) (of : Opening) (ps : List PassState) (ss : List (Option Work)) (seen : FrontState) → HaveBegun ps ss → seen.of ≡ of → RunInOrder rules gate of [] ps ss seen
none_in_order rules gate of ps ss seen h same = record {
  lines_done = no_lines_done ps;
  slots = h rules gate;
  order = record { executed = []; executed_are = tt; own = own_none 1 ps; ascend = tt };
  within = tt;
  told = tt;
  hear = tt;
  by = inl refl;
  same = same;
}

order_turned : (rules : Rules) (gate : GateAnswers) (of : Opening) (cs : List Command) (c : Command) (ps : List PassState) (ss new : List (Option Work)) (seen seen' : FrontState) → AllByRecursion (λ p. p.of ≡ of) ps → AreNumbered 0 ps → 1 ≤ c.pass
    → RunInOrder rules gate of cs ps ss seen → TakesTurn rules gate c seen ss new seen' → RunInOrder rules gate of (cs ++ c ∷ []) ps new seen'
order_turned rules gate of cs c ps ss new seen seen' ofs num low h t =
    let i : ℕ = c.pass - 1 in
    let a : AreTurned rules gate of cs c i ps h.lines_done ss t.session t.after = slots_turned rules gate of cs c 0 i ps h.lines_done ss t.before t.after t.session seen ofs num (omega arith) t.was t.learns t.goes_on h.slots in
    let old : List Step = flat_map steps_of_executed (somes h.order.executed) in
    let before : List Event = (session_pass t.session).seen in
    let all : somes (h.order.executed ++ a.turn ∷ []) ≡ somes h.order.executed ++ somes (a.turn ∷ []) = somes_more h.order.executed a.turn in
    let steps : flat_map steps_of_executed (somes (h.order.executed ++ a.turn ∷ [])) ≡ old ++ turn_steps a.turn = ap (flat_map steps_of_executed) all ∙ steps_more (somes h.order.executed) a.turn in
    let learnt : AllByRecursion (IsSeen of.shards before) old = all_weaker (IsSeen of.shards seen.seen) (IsSeen of.shards before) old (λ x. seen_later of.shards seen.seen before x t.learns.that) h.within in
    let then : AllByRecursion (IsSeen of.shards (session_pass t.after.session).seen) old = all_weaker (IsSeen of.shards before) (IsSeen of.shards (session_pass t.after.session).seen) old (λ x. seen_later of.shards before (session_pass t.after.session).seen x a.seen) learnt in
    let after : List Event = (session_pass t.after.session).seen in
    let told_before : AllByRecursion (LetsAreShown of.shards before (session_pass t.session).shown) old = all_weaker (LetsAreShown of.shards seen.seen seen.shown) (LetsAreShown of.shards before (session_pass t.session).shown) old (λ x. lets_shown_later of.shards seen.seen before seen.shown (session_pass t.session).shown x t.learns.that t.learns.shown) h.told in
    let told_then : AllByRecursion (LetsAreShown of.shards after (session_pass t.after.session).shown) old = all_weaker (LetsAreShown of.shards before (session_pass t.session).shown) (LetsAreShown of.shards after (session_pass t.after.session).shown) old (λ x. lets_shown_later of.shards before after (session_pass t.session).shown (session_pass t.after.session).shown x a.seen a.shown) told_before in
    let told : AllByRecursion (LetsAreShown of.shards after (session_pass t.after.session).shown) (flat_map steps_of_executed (somes (h.order.executed ++ a.turn ∷ []))) = subst (AllByRecursion (LetsAreShown of.shards after (session_pass t.after.session).shown)) (sym steps) (all_append (LetsAreShown of.shards after (session_pass t.after.session).shown) old (turn_steps a.turn) told_then a.told) in
    let hear : AllHear of.shards after (somes h.order.executed ++ somes (a.turn ∷ [])) = hear_turn of.shards (session_pass t.session) (session_pass t.after.session) c a.turn (somes h.order.executed) a.seen a.number a.home a.line_is a.heard a.comes told_before (hear_later of.shards seen.seen before (somes h.order.executed) t.learns.that h.hear) in
    record {
      lines_done = add_at h.lines_done i (somes (a.turn ∷ []));
      slots = subst (λ (l : List (Option Work)). AreSlots rules gate (cs ++ c ∷ []) ps (add_at h.lines_done i (somes (a.turn ∷ []))) l) (sym t.others) a.slots;
      order = record {
        executed = h.order.executed ++ a.turn ∷ [];
        executed_are = turns_more cs h.order.executed c a.turn h.order.executed_are a.line_is;
        own = subst (λ (l : List ExecutedLine). AreOwn 1 (add_at h.lines_done i (somes (a.turn ∷ []))) l) (sym all) (own_turned 1 i h.lines_done (somes h.order.executed) c a.turn a.line_is (omega arith) h.order.own);
        ascend = subst (Ascend of.shards) (sym steps) (ascend_append of.shards before old (turn_steps a.turn) learnt a.comes h.order.ascend a.ascend);
      };
      within = subst (λ (x : List Event). AllByRecursion (IsSeen of.shards x) (flat_map steps_of_executed (somes (h.order.executed ++ a.turn ∷ [])))) (sym t.seen_is)
          (subst (AllByRecursion (IsSeen of.shards (session_pass t.after.session).seen)) (sym steps) (all_append (IsSeen of.shards (session_pass t.after.session).seen) old (turn_steps a.turn) then a.within));
      told = subst (λ (x : List Event). AllByRecursion (LetsAreShown of.shards x seen'.shown) (flat_map steps_of_executed (somes (h.order.executed ++ a.turn ∷ [])))) (sym t.seen_is)
          (subst (λ (s : List Through). AllByRecursion (LetsAreShown of.shards after s) (flat_map steps_of_executed (somes (h.order.executed ++ a.turn ∷ [])))) (sym t.shown_is) told);
      hear = subst (λ (x : List Event). AllHear of.shards x (somes (h.order.executed ++ a.turn ∷ []))) (sym t.seen_is) (subst (AllHear of.shards after) (sym all) hear);
      by = inr (record { at = i; work = t.after; is = subst (λ (l : List (Option Work)). get_or l i None ≡ Some t.after) (sym t.others) (set_get ss i t.before t.after t.was); seen = sym t.seen_is });
      same = t.of ∙ a.same;
    }

pub turn_taken : (rules : Rules) (gate : GateAnswers) (of : Opening) (all : List Command) (i : ℕ) (c : Command) (ps : List PassState) (old new : List (Option Work)) (seen seen' : FrontState) → AllByRecursion (λ p. p.of ≡ of) ps → AreNumbered 0 ps → i < length all → c ≡ get_or all i c → 1 ≤ c.pass
    → RunInOrder rules gate of (take i all) ps old seen → TakesTurn rules gate c seen old new seen' → RunInOrder rules gate of (take (i + 1) all) ps new seen'
turn_taken rules gate of all i c ps old new seen seen' ofs num lt is low h t =
    subst (λ (cs : List Command). RunInOrder rules gate of cs ps new seen') (sym (prefix_more all i c lt is)) (order_turned rules gate of (take i all) c ps old new seen seen' ofs num low h t)

pub slots_length : (rules : Rules) (gate : GateAnswers) (cs : List Command) (ps : List PassState) (dss : List (List ExecutedLine)) (ss : List (Option Work)) → AreSlots rules gate cs ps dss ss → length ss ≡ length ps
slots_length rules gate cs [] [] [] h = refl
slots_length rules gate cs [] [] (s ∷ ss) h = absurd h
slots_length rules gate cs [] (ds ∷ dss) ss h = absurd h
slots_length rules gate cs (p ∷ ps) [] ss h = absurd h
slots_length rules gate cs (p ∷ ps) (ds ∷ dss) [] h = absurd h
slots_length rules gate cs (p ∷ ps) (ds ∷ dss) (s ∷ ss) h = ap (λ n. suc n) (slots_length rules gate cs ps dss ss h.1)

ready_slot : (rules : Rules) (gate : GateAnswers) (of : Opening) (cs : List Command) (p : PassState) (ds : List ExecutedLine) (s : Option Work) → p.of ≡ of → IsSlot rules gate cs p ds s → IsReady of s
ready_slot rules gate of cs p ds None o h = absurd h
ready_slot rules gate of cs p ds (Some w) o h = h.done.tells.of ∙ o

pub slots_ready : (rules : Rules) (gate : GateAnswers) (of : Opening) (cs : List Command) (ps : List PassState) (dss : List (List ExecutedLine)) (ss : List (Option Work)) (i : ℕ) → AllByRecursion (λ p. p.of ≡ of) ps → AreSlots rules gate cs ps dss ss → i < length ps → IsReady of (slot_at ss i)
slots_ready rules gate of cs [] dss ss i o h lt = absurd (omega arith)
slots_ready rules gate of cs (p ∷ ps) [] ss i o h lt = absurd h
slots_ready rules gate of cs (p ∷ ps) (ds ∷ dss) [] i o h lt = absurd h
slots_ready rules gate of cs (p ∷ ps) (ds ∷ dss) (s ∷ ss) zero o h lt = ready_slot rules gate of cs p ds s o.0 h.0
slots_ready rules gate of cs (p ∷ ps) (ds ∷ dss) (s ∷ ss) (suc i) o h lt = slots_ready rules gate of cs ps dss ss i o.1 h.1 (omega arith)

slots_push : (rules : Rules) (gate : GateAnswers) (cs : List Command) (ps : List PassState) (ss : List (Option Work)) (p : PassState) (s : Option Work) → AreSlots rules gate cs ps (no_lines_done ps) ss → IsSlot rules gate cs p [] s → AreSlots rules gate cs (ps ++ p ∷ []) (no_lines_done (ps ++ p ∷ [])) (ss ++ s ∷ [])
slots_push rules gate cs [] [] p s h x = (x, tt)
slots_push rules gate cs [] (t ∷ ss) p s h x = absurd h
slots_push rules gate cs (q ∷ ps) [] p s h x = absurd h
slots_push rules gate cs (q ∷ ps) (t ∷ ss) p s h x = (h.0, slots_push rules gate cs ps ss p s h.1 x)

pub begun_more : (ps : List PassState) (ss new : List (Option Work)) (p : PassState) (w : Work) → HaveBegun ps ss → IsBegun p w → new ≡ ss ++ Some w ∷ [] → HaveBegun (ps ++ p ∷ []) new
begun_more ps ss new p w h b e = λ rules gate.
    subst (λ (l : List (Option Work)). AreSlots rules gate [] (ps ++ p ∷ []) (no_lines_done (ps ++ p ∷ [])) l) (sym e) (slots_push rules gate [] ps ss p (Some w) (h rules gate) (run_none rules gate p w b))

slots_run : (rules : Rules) (gate : GateAnswers) (cs : List Command) (ps : List PassState) (dss : List (List ExecutedLine)) (ss : List (Option Work)) → AreSlots rules gate cs ps dss ss → AreRun rules gate cs ps dss (somes ss)
slots_run rules gate cs [] [] [] h = tt
slots_run rules gate cs [] [] (s ∷ ss) h = absurd h
slots_run rules gate cs [] (ds ∷ dss) ss h = absurd h
slots_run rules gate cs (p ∷ ps) [] ss h = absurd h
slots_run rules gate cs (p ∷ ps) (ds ∷ dss) [] h = absurd h
slots_run rules gate cs (p ∷ ps) (ds ∷ dss) (None ∷ ss) h = absurd h.0
slots_run rules gate cs (p ∷ ps) (ds ∷ dss) (Some w ∷ ss) h = (h.0, slots_run rules gate cs ps dss ss h.1)

pub all_run : (rules : Rules) (gate : GateAnswers) (of : Opening) (cs : List Command) (ps : List PassState) (ss : List (Option Work)) (seen : FrontState) (ws : List Work) → RunInOrder rules gate of cs ps ss seen → ws ≡ somes ss → HaveRunInOrder rules gate of.shards cs ps ws
all_run rules gate of cs ps ss seen ws h e = record {
  lines_done = h.lines_done;
  run = subst (λ (l : List Work). AreRun rules gate cs ps h.lines_done l) (sym e) (slots_run rules gate cs ps h.lines_done ss h.slots);
  in_order = h.order;
  heard = record { history = seen.seen; all_hear = h.hear; seen = seen_by seen.seen (somes h.order.executed) ss ws h.by e };
}

pub somes_none : (ss : List (Option Work)) (o : Option Work) → o ≡ None → somes (ss ++ o ∷ []) ≡ somes ss
somes_none [] o e = rw e refl
somes_none (None ∷ ss) o e = somes_none ss o e
somes_none (Some w ∷ ss) o e = ap (λ (ws : List Work). w ∷ ws) (somes_none ss o e)

pub somes_some : (ss : List (Option Work)) (o : Option Work) (w : Work) → o ≡ Some w → somes (ss ++ o ∷ []) ≡ somes ss ++ w ∷ []
somes_some [] o w e = rw e refl
somes_some (None ∷ ss) o w e = somes_some ss o w e
somes_some (Some v ∷ ss) o w e = ap (λ (ws : List Work). v ∷ ws) (somes_some ss o w e)

-- ---- threads

-- What the passes have done, by name.
named : (rules : Rules) (gate : GateAnswers) (cs : List Command) (ps : List PassState) (ws : List Work) → AreWorked rules gate cs ps ws → (dss : List (List ExecutedLine)) × AreRun rules gate cs ps dss ws
named rules gate cs [] [] a = ([], tt)
named rules gate cs [] (w ∷ ws) a = absurd a
named rules gate cs (p ∷ ps) [] a = absurd a
named rules gate cs (p ∷ ps) (w ∷ ws) a = let rest = named rules gate cs ps ws a.1 in (a.0.0 ∷ rest.0, (a.0.1, rest.1))

have_turns : (turns : Option ℕ) → is_some turns ≡ true → turns ≡ None → ⊥
have_turns None some e = cc some
have_turns (Some n) some e = cc e

-- With turns the passes run on threads, and their lines in any order.
pub on_threads : (rules : Rules) (gate : GateAnswers) (shards : ℕ) (cs : List Command) (ps : List PassState) (ws : List Work) → is_some rules.turns ≡ true → AreWorked rules gate cs ps ws → HaveRun rules gate shards cs ps ws
on_threads rules gate shards cs ps ws some a = let n = named rules gate cs ps ws a in record { lines_done = n.0; run = n.1; in_order = λ e. absurd (have_turns rules.turns some e); heard = λ e. absurd (have_turns rules.turns some e) }

pub in_turn : (rules : Rules) (gate : GateAnswers) (shards : ℕ) (cs : List Command) (ps : List PassState) (ws : List Work) → HaveRunInOrder rules gate shards cs ps ws → HaveRun rules gate shards cs ps ws
in_turn rules gate shards cs ps ws h = record { lines_done = h.lines_done; run = h.run; in_order = λ e. h.in_order; heard = λ e. h.heard }

pub tried_each : (rules : Rules) (gate : GateAnswers) (cs : List Command) (ps : List PassState) (rs : List (Result Work OutOfMemory)) → length rs ≡ length ps
    → ((i : ℕ) (d : Result Work OutOfMemory) → i < length ps → (p : PassState) × ((e : PassState) → get_or ps i e ≡ p) × IsTriedOf rules gate cs p (get_or rs i d)) → AreTried rules gate cs ps rs
tried_each rules gate cs [] [] len h = tt
tried_each rules gate cs [] (r ∷ rs) len h = absurd (omega arith)
tried_each rules gate cs (p ∷ ps) [] len h = absurd (omega arith)
tried_each rules gate cs (p ∷ ps) (r ∷ rs) len h =
    let first : (q : PassState) × ((e : PassState) → get_or (p ∷ ps) 0 e ≡ q) × IsTriedOf rules gate cs q (get_or (r ∷ rs) 0 r) = h 0 r (omega arith) in
    let here : IsTriedOf rules gate cs p r = subst (λ (q : PassState). IsTriedOf rules gate cs q r) (sym (first.1 p)) first.2 in
    (here, tried_each rules gate cs ps rs (omega arith) (λ i d lt. h (suc i) d (omega arith)))

pub worked_all : (rules : Rules) (gate : GateAnswers) (cs : List Command) (ps : List PassState) (rs : List (Result Work OutOfMemory)) (ws : List Work) → AreTried rules gate cs ps rs → rs ≡ map Ok ws → AreWorked rules gate cs ps ws
worked_all rules gate cs [] [] [] t e = tt
worked_all rules gate cs [] [] (w ∷ ws) t e = cc
worked_all rules gate cs [] (r ∷ rs) ws t e = absurd t
worked_all rules gate cs (p ∷ ps) [] ws t e = absurd t
worked_all rules gate cs (p ∷ ps) (r ∷ rs) [] t e = absurd cc
worked_all rules gate cs (p ∷ ps) (r ∷ rs) (w ∷ ws) t e =
    let head : r ≡ Ok w = cc in
    (subst (λ (x : Result Work OutOfMemory). IsTriedOf rules gate cs p x) head t.0, worked_all rules gate cs ps rs ws t.1 cc)

-- ---- how many passes

pub among_more : (all : List Command) (i : ℕ) (c : Command) (most more : ℕ) → i < length all → c ≡ get_or all i c → 1 ≤ c.pass → most ≤ more → c.pass ≤ more → AllByRecursion (IsAmong most) (take i all) → AllByRecursion (IsAmong more) (take (i + 1) all)
among_more all i c most more lt is low le here a =
    subst (AllByRecursion (IsAmong more)) (sym (prefix_more all i c lt is))
    (all_more (IsAmong more) (take i all) c (all_weaker (IsAmong most) (IsAmong more) (take i all) (λ x h. let high : x.pass ≤ most = h.high in record { low = h.low; high = omega arith }) a) (record { low = low; high = here }))
