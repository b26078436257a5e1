-- No later wait of a request's pass was let through, so no wake-up is lost.
use Rattle.std.proofs.Common.{◌≡◌, ℕ, ◌^◌, ◌<◌, ◌≤◌, ◌⊎◌, Bool, true, false, nat_lt, inl, inr, ⊎_elim, Option, Some, None, Result, Ok, Err, List, [], ◌++◌, map, length, slice_get, refl, sym, ◌∙◌, ap, subst, arith, append-nil}
use mathlib.Core.List.{IsPrefix}
use Rattle.lt_ids.specs.Ids.{Wait, value_of}
use Rattle.lt_rules.specs.declared.call.Call.{Call}
use Rattle.lt_rules.specs.declared.call.Call.TheVariants.{Visit}
use Rattle.lt_rules.specs.Laws.{LetsEndWaits}
use Rattle.lt_entry.specs.declared.entry.Entry.{Entry}
use Rattle.lt_entry.specs.Ranges.{IsInRange, IsCall}
use Rattle.lt_words.specs.History.{part, shard_of}
use Rattle.lt_words.specs.Laws.{PartsAreLegal, PrefixesAreLegal}
use Rattle.lt_words.specs.declared.event.Event.{Event}
use Rattle.lt_words.specs.Row.{Opening, PassState}
use Rattle.lt_words.proofs.Prefixes.{prefix_trans, prefix_get}
use Rattle.lt_words.proofs.Histories.{part_prefix}
use Rattle.lt_shard.specs.declared.answer.StepError.{StepError}
use Rattle.lt_shard.specs.declared.answer.StepError.TheVariants.{HistoryFull, Memory}
use Rattle.lt_walk.specs.declared.walk_progress.Progress.{Progress}
use Rattle.lt_walk.specs.declared.scan_results.Scan.{Scan}
use Rattle.lt_walk.specs.declared.scan_results.Scan.TheVariants.{Proceed, Rescan, Waiting, TooLong}
use Rattle.lt_walk.specs.declared.scan_results.ScanError.{ScanError}
use Rattle.lt_walk.specs.declared.scan_results.ScanError.TheVariants.{StillWaiting, WaitsOut}
use Rattle.lt_walk.specs.Machine.{Step, WalkState, after_status, scan_start, scan_end, is_awaiting, is_stopped, next_visit, of_step, Ends, IsScanBegun}
use Rattle.lt_walk.specs.Reported.{shard_at, current_wait}
use Rattle.lt_walk.specs.Closed.{IsFinal}
use Rattle.lt_walk.specs.Laws.{LaterLet, ShownIsThrough, ShownGoesOn, NoWakeUpIsLost, at_index_of}
use Rattle.lt_walk.specs.Theorem.Told.{Made}
use Rattle.lt_walk.specs.Theorem.{Told, AreHeard, steps_told, ShardHistories, IsInFinal, TheMainTheorem, MainTheorem}
use Rattle.lt_waits.specs.Waits.{TellsOfWait, IsNoLater, HadHeard, WasToldToWait}
use Rattle.lt_waits.specs.Laws.{NoLaterWaitIsLet, ShownIsAlwaysThrough, ShownAlwaysGoesOn, NoWakeUpIsEverLost}
use Rattle.lt_walk.proofs.InPlace.{inside_length}
use Rattle.lt_walk.proofs.WentOn.{reported_stays}
use Rattle.lt_waits.proofs.Latest.{told_then, same_item}
use Rattle.lt_waits.proofs.Callers.{heard_grows, IsLaterThan, all_later, IsAmong, among_both, holds_among, IsCallerOf, caller_of, item_of, one_index, of_table}
use Rattle.lt_waits.proofs.ToldToWait.{let_was_told_to_wait}

-- a wait that is no later has no greater value
no_greater : (t u : Wait) → t.wait < 2 ^ 24 → IsNoLater t u → value_of t ≤ value_of u
no_greater t u low (inl lt) = omega (arith, low, lt)
no_greater t u low (inr e) = omega (arith, low, e.0, e.1)

visit_in_range : (e : Entry) (t : Wait) (c : Call) → e.call ≡ c → IsInRange e → IsCall c
visit_in_range e t c is range = subst (λ d. IsCall d) is range.call

-- what stands at an index of a final history, told with other words for the shard and the index
same_place : (of : Opening) (finals : ShardHistories of) (r s k n : ℕ) (here : s < of.shards) (e : Entry) → r ≡ s → k ≡ n → ((within : r < of.shards) → slice_get (finals r within) k ≡ Some e) → slice_get (finals s here) n ≡ Some e
same_place of finals r s k n here e shard index at =
    subst (λ j. slice_get (finals s here) j ≡ Some e) index (subst (λ q. (within : q < of.shards) → slice_get (finals q within) k ≡ Some e) shard at here)

-- the caller of a pass was told of a step only if it is one of these
told_to_him : (of : Opening) (finals : ShardHistories of) (ps : List PassState) (all : List (List Told)) (told : List Told) (now : PassState) (s at : ℕ) → AreHeard of all ps → (had : HadHeard ps all told now) → (c : IsCallerOf of finals s at all ps) →
    c.pass.number ≡ now.number → IsAmong c.tells.step (steps_told told) ⊎ IsAmong c.tells.step (steps_told had.after)
told_to_him of finals ps all told now s at heard had c number =
    let grows = heard_grows now had.pass had.after had.later in
    let index : c.index ≡ had.index = one_index of all ps c.index had.index c.pass had.pass heard c.is_pass had.is_pass (number ∙ sym grows.2) in
    let is : c.told ≡ told ++ had.after = same_item c.told (told ++ had.after) (sym c.is_told ∙ (ap (λ k. slice_get all k) index ∙ had.is_told)) in
    among_both c.tells.step (steps_told told) (steps_told had.after) (subst (IsAmong c.tells.step) (ap steps_told is ∙ told_then told had.after) c.tells.among)

-- a step within what a pass has seen is not told of later
not_later : (of : Opening) (now : PassState) (x : Step) (s k : ℕ) (e : Entry) → now.of ≡ of → shard_of x.key of.shards ≡ s → x.answer.at ≡ k → slice_get (part s now.seen) k ≡ Some e → IsLaterThan now x → ⊥
not_later of now x s k e same shard index at later =
    let place : shard_at now x ≡ s = ap (λ (o : Opening). shard_of x.key o.shards) same ∙ shard in
    let low : length (part s now.seen) ≤ x.answer.at = subst (λ j. length (part j now.seen) ≤ x.answer.at) place later in
    let high : k < length (part s now.seen) = inside_length (part s now.seen) k e at in
    omega (arith, low, high, index)

pub no_later_wait_is_let : LetsEndWaits → PartsAreLegal → PrefixesAreLegal → TheMainTheorem → NoLaterWaitIsLet
no_later_wait_is_let ends legal_parts legal_prefixes main of ps finals all told g now some end heard had was later =
    let t : Wait = later.0 in
    let p : PassState = had.pass in
    let grows = heard_grows now p had.after had.later in
    let now_of : now.of ≡ of = sym grows.1 ∙ of_table of all ps had.index p heard had.is_pass in
    let begins : IsPrefix now.seen end.whole = prefix_trans now.seen p.seen end.whole grows.0 (item_of (λ q. IsPrefix q.seen end.whole) ps had.index p end.seen had.is_pass) in
    let w : WasToldToWait of.shards now.seen now.number t = let_was_told_to_wait ends legal_parts of.shards now.seen now.number t some (legal_prefixes of.shards now.seen end.whole begins end.legal) later.2 in
    let final : IsFinal of ps end.whole w.shard (finals w.shard w.below) = end.each w.shard w.below in
    let seen : IsPrefix (part w.shard p.seen) (finals w.shard w.below) = item_of (λ q. IsPrefix (part w.shard q.seen) (finals w.shard w.below)) ps had.index p final.seen had.is_pass in
    let stands : slice_get (finals w.shard w.below) w.index ≡ Some w.entry =
    prefix_get (part w.shard now.seen) (finals w.shard w.below) w.index w.entry (prefix_trans (part w.shard now.seen) (part w.shard p.seen) (finals w.shard w.below) (part_prefix w.shard now.seen p.seen grows.0) seen) w.at in
    let theorem : MainTheorem of ps finals end all heard = main of ps finals end all heard in
    let once : at_index_of of.shards w.shard w.index (map steps_told all) ≡ 1 = theorem.once w.shard w.index w.below (inside_length (finals w.shard w.below) w.index w.entry stands) in
    let c : IsCallerOf of finals w.shard w.index all ps = caller_of of finals w.shard w.index all ps heard theorem.stands (omega (arith, once)) in
    let x : Step = c.tells.step in
    let st : IsInFinal of finals c.pass.number x = c.tells.stands in
    let entry : st.entry ≡ w.entry = same_item st.entry w.entry (sym (same_place of finals (shard_of x.key of.shards) w.shard x.answer.at w.index w.below st.entry c.tells.shard c.tells.at_is st.at) ∙ stands) in
    let number : c.pass.number ≡ now.number = sym st.pass ∙ (ap (λ (e : Entry). e.pass) entry ∙ w.pass) in
    let tells : TellsOfWait x t = record {
      txn = w.txn;
      ts = w.ts;
      access = w.access;
      longest = w.longest;
      call = sym st.call ∙ (ap (λ (e : Entry). e.call) entry ∙ w.call);
      reply = sym st.reply ∙ (ap (λ (e : Entry). e.reply) entry ∙ w.reply);
    } in
    let range : IsCall (Visit t w.txn w.ts w.access w.longest) = visit_in_range w.entry t (Visit t w.txn w.ts w.access w.longest) w.call (item_of IsInRange (finals w.shard w.below) w.index w.entry final.in_range stands) in
    ⊎_elim
    (λ before.
    let low : IsNoLater t (current_wait g.walk) = holds_among (λ y. (u : Wait) → TellsOfWait y u → IsNoLater u (current_wait g.walk)) x (steps_told told) was.latest before t tells in
    let le : value_of t ≤ value_of (current_wait g.walk) = no_greater t (current_wait g.walk) range.0.1.1 low in
    omega (arith, le, later.1))
    (λ after. not_later of now x w.shard w.index w.entry now_of c.tells.shard c.tells.at_is w.at (holds_among (IsLaterThan now) x (steps_told had.after) (all_later now p had.after had.later) after))
    (told_to_him of finals ps all told now w.shard w.index heard had c number)

-- ---- polls and scans

to_pass : (seen : List Event) (m n : ℕ) (t : Wait) → m ≡ n → LaterLet seen n t → LaterLet seen m t
to_pass seen m n t same later = subst (λ k. LaterLet seen k t) (sym same) later

pub shown_is_always_through : NoLaterWaitIsLet → ShownIsThrough → ShownIsAlwaysThrough
shown_is_always_through none law of ps finals all told old new result some end heard had was poll waits shown =
    ⊎_elim (λ is. is) (λ later. absurd (none of ps finals all told old new.pass some end heard had was (to_pass new.pass.seen new.pass.number old.pass.number (current_wait old.walk) poll.reads.number later))) (law old new result poll waits shown)

pub no_wake_up_is_ever_lost : NoLaterWaitIsLet → NoWakeUpIsLost → NoWakeUpIsEverLost
no_wake_up_is_ever_lost none law of ps finals all told before after x old new result some end heard had was step among told_of waits poll =
    ⊎_elim (λ is. is) (λ later. absurd (none of ps finals all told old new.pass some end heard had was (to_pass new.pass.seen new.pass.number old.pass.number (current_wait old.walk) poll.reads.number later))) (law before after x old new result step among told_of waits poll)

not_at_end : (waits stops inside waited : Bool) (p : Progress) (keys : ℕ) → is_awaiting p.mode ≡ waits → is_stopped p.mode ≡ stops → nat_lt p.index keys ≡ inside → p.waited ≡ waited → (scan_end keys p).result ≡ Err StillWaiting → ⊥
not_at_end true stops inside waited p keys a b c d is = let r : (scan_end keys p).result ≡ Ok (Waiting p.index) = rw a refl in cc
not_at_end false true inside waited p keys a b c d is = let r : (scan_end keys p).result ≡ Ok (TooLong p.index) = rw (a, b) refl in cc
not_at_end false false true waited p keys a b c d is = let r : (scan_end keys p).result ≡ Err WaitsOut = rw (a, b, c) refl in cc
not_at_end false false false true p keys a b c d is = let r : (scan_end keys p).result ≡ Ok Rescan = rw (a, b, c, d) refl in cc
not_at_end false false false false p keys a b c d is = let r : (scan_end keys p).result ≡ Ok Proceed = rw (a, b, c, d) refl in cc

not_of_step : (e : StepError) → of_step e ≡ StillWaiting → ⊥
not_of_step HistoryFull h = absurd cc
not_of_step Memory h = absurd cc

not_ended : (next : Option (List ℕ × Call)) (keys : ℕ) (last after : Progress) (result : Result Scan ScanError) → Ends next (scan_end keys last) last result after → result ≡ Err StillWaiting → ⊥
not_ended None keys last after result e is = not_at_end (is_awaiting last.mode) (is_stopped last.mode) (nat_lt last.index keys) last.waited last keys refl refl refl refl (sym e.0 ∙ is)
not_ended (Some x) keys last after result e is = not_of_step e.0.0 (let same : Err (of_step e.0.0) ≡ Err StillWaiting = sym e.0.1 ∙ is in cc)

-- a scan that is refused so made no step
none_made : (start : Result Progress ScanError) (max_waits : ℕ) (old : WalkState) (steps : List Step) (result : Result Scan ScanError) (after : WalkState) → IsScanBegun start max_waits old steps result after → result ≡ Err StillWaiting → steps ≡ []
none_made (Err e) max_waits old steps result after s is = s.0
none_made (Ok p) max_waits old steps result after s is = absurd (not_ended (next_visit old.asked max_waits s.last) (length old.asked.keys) s.last after.progress result s.ends is)

pub shown_always_goes_on : NoLaterWaitIsLet → ShownGoesOn → ShownAlwaysGoesOn
shown_always_goes_on none law of ps finals all told old new max_waits result scan some end heard had was waits shown is =
    let nothing : scan.steps ≡ [] = none_made (scan_start (after_status old.walk.asked.number old.walk.progress scan.word)) max_waits old.walk scan.steps result new.walk scan.scan is in
    let same : told ++ map Made scan.steps ≡ told = ap (λ l. told ++ map Made l) nothing ∙ append-nil told in
    let number : new.pass.number ≡ old.pass.number = (reported_stays scan.read scan.steps new.pass scan.reported).number ∙ scan.reads.number in
    ⊎_elim (λ not. not is)
    (λ later. none of ps finals all told old new.pass some end heard (subst (λ l. HadHeard ps all l new.pass) same had) was (to_pass new.pass.seen new.pass.number old.pass.number (current_wait old.walk) number later))
    (law max_waits old new result scan waits shown)
