-- The table with a hot key: its records, and one step at the hot key or elsewhere.
use Rattle.std.proofs.Common.{◌≡◌, ◌≢◌, ◌≤◌, ℕ, Bool, true, false, cond, List, [], Option, Some, None, unwrap_or, refl, sym, ap, ◌∙◌, IfSome, subst, arith, inl, inr}
use mathlib.Core.Bool.{true≢false}
use Rattle.std.specs.Str.{bytes_eq}
use Rattle.std.proofs.lemmas.Slice.Eq.{bytes_eq-Decides}
use Rattle.std.specs.Cmp.{eq_by_cmp_equiv}
use Rattle.std.specs.Cmp.Lexicographic.{nat_list_cmp_total}
use Rattle.std.specs.FinMap as finmap
use Rattle.std.specs.FinMap.{get, insert, remove, get-empty, get-insert, get-remove}
use Rattle.std.specs.Result.{IfOk, OnErr}
use Rattle.std.specs.declared.result.Result.{Result}
use Rattle.std.specs.declared.result.Result.TheVariants.{Ok, Err}
use Rattle.lt_ids.specs.declared.ticket.Through.{Through}
use Rattle.lt_rules.specs.declared.queued.Holder.{Holder}
use Rattle.lt_rules.specs.declared.call.Call.{Call}
use Rattle.lt_rules.specs.declared.call.Reply.{Reply}
use Rattle.lt_rules.specs.declared.call.Reply.TheVariants.{Taken}
use Rattle.lt_rules.specs.Rules.{Record, empty, is_empty, take_lock, Outcome, IsOutcome}
use Rattle.lt_rules.specs.Step.{step}
use Rattle.lt_rules.specs.Memory.{how_many, HasRoom}
use Rattle.lt_rules.specs.Table.{Records, record_at, AreSound, IsKept, IsStep}
use Rattle.lt_rules.proofs.Lawfulness.{step_keeps_lawful}
use Rattle.lt_rules.proofs.Maps.{order, same_records, same_or_apart, is_apart, step_dropped}
use Rattle.lt_lock.specs.Hot.{is_hot, hot_record, with_hot, IsWithHot, StepsHot}
use Rattle.lt_lock.proofs.LoneLocks.{held_lawful, record_none}

-- The record of one more key.
module _ (m : Records) (k : List ℕ) (r : Record) where
  pub get_hot : get (insert m k r) k ≡ Some r
  get_hot = get-insert nat_list_cmp_total m k r k ∙ rw ((eq_by_cmp_equiv nat_list_cmp_total).refl k) refl

  pub get_cold : (q : List ℕ) → q ≢ k → get (insert m k r) q ≡ get m q
  get_cold q apart = get-insert nat_list_cmp_total m k r q ∙ rw (is_apart k q (λ e. apart (sym e))) refl

  pub at_hot : record_at (insert m k r) k ≡ r
  at_hot = ap (λ o. unwrap_or o empty) get_hot

  pub at_cold : (q : List ℕ) → q ≢ k → record_at (insert m k r) q ≡ record_at m q
  at_cold q apart = ap (λ o. unwrap_or o empty) (get_cold q apart)

  pub sound_hot : AreSound m → IsKept r → AreSound (insert m k r)
  sound_hot sound is_kept q = elim (same_or_apart q k) [
    | inl s ↦ subst (λ o. IfSome o IsKept) (sym (ap (get (insert m k r)) s.0 ∙ get_hot)) is_kept
    | inr d ↦ subst (λ o. IfSome o IsKept) (sym (get_cold q d.0)) (sound q)
  ]

  pub room_hot : (room : ℕ) → HasRoom m room → how_many r ≤ room → HasRoom (insert m k r) room
  room_hot room has here q = elim (same_or_apart q k) [
    | inl s ↦ subst (λ x. how_many x ≤ room) (sym (ap (record_at (insert m k r)) s.0 ∙ at_hot)) here
    | inr d ↦ subst (λ x. how_many x ≤ room) (sym (at_cold q d.0)) (has q)
  ]

  -- the room of a table with a hot key is room for its record, and for those of the rows
  pub room_of_hot : (room : ℕ) → HasRoom (insert m k r) room → how_many r ≤ room
  room_of_hot room has = subst (λ x. how_many x ≤ room) at_hot (has k)

  pub room_of_rows : (room : ℕ) → get m k ≡ None → HasRoom (insert m k r) room → HasRoom m room
  room_of_rows room none has q = elim (same_or_apart q k) [
    | inl s ↦ subst (λ o. how_many (unwrap_or o empty) ≤ room) (sym (ap (get m) s.0 ∙ none)) (omega arith)
    | inr d ↦ subst (λ x. how_many x ≤ room) (at_cold q d.0) (has q)
  ]

-- A step at the hot key, after which it has this record, or none.
module _ (m : Records) (k : List ℕ) (old new : Record) (act : Record → Outcome) (reply : Reply) (lets : List Through) (made : IsOutcome (act old) new reply lets) where
  pub hot_step : IsStep (insert m k old) k act reply lets (insert m k new)
  hot_step = record {
    replied = rw (at_hot m k old) made.replied;
    let_through = rw (at_hot m k old) made.let_through;
    here = at_hot m k new ∙ rw (at_hot m k old) made.moved;
    others = λ q apart. get_cold m k new q apart ∙ sym (get_cold m k old q apart);
  }

  gone : get m k ≡ None → m ≡ remove (insert m k new) k
  gone none = same_records m _ (λ q. elim (same_or_apart q k) [
    | inl s ↦ ap (get m) s.0 ∙ none ∙ sym (get-remove nat_list_cmp_total (insert m k new) k q ∙ rw s.1 refl)
    | inr d ↦ sym (get-remove nat_list_cmp_total (insert m k new) k q ∙ rw d.1 (get_cold m k new q d.0))
  ])

  pub ended_step : get m k ≡ None → is_empty new ≡ true → IsStep (insert m k old) k act reply lets m
  ended_step none ended = step_dropped (insert m k old) (insert m k new) m k act reply lets hot_step
      (gone none ∙ ap (λ b. cond b (remove (insert m k new) k) (insert (insert m k new) k (record_at (insert m k new) k))) (sym (ap is_empty (at_hot m k new) ∙ ended)))

-- A step at another key.
module _ (m n : Records) (k q : List ℕ) (r : Record) (act : Record → Outcome) (reply : Reply) (lets : List Through) (apart : q ≢ k) (step : IsStep m q act reply lets n) where
  pub cold_step : IsStep (insert m k r) q act reply lets (insert n k r)
  cold_step = record {
    replied = rw (at_cold m k r q apart) step.replied;
    let_through = rw (at_cold m k r q apart) step.let_through;
    here = at_cold n k r q apart ∙ rw (at_cold m k r q apart) step.here;
    others = λ x other. elim (same_or_apart x k) [
      | inl s ↦ ap (get (insert n k r)) s.0 ∙ get_hot n k r ∙ sym (ap (get (insert m k r)) s.0 ∙ get_hot m k r)
      | inr d ↦ get_cold n k r x d.0 ∙ step.others x other ∙ sym (get_cold m k r x d.0)
    ];
  }

  pub still_none : get m k ≡ None → get n k ≡ None
  still_none none = step.others k (λ e. apart (sym e)) ∙ none

-- ---- which key is hot

pub hot_is : (hot : Option (List ℕ)) (key : List ℕ) → is_hot hot key ≡ true → hot ≡ Some key
hot_is None key e = absurd (true≢false (sym e))
hot_is (Some k) key e = ap Some ((bytes_eq-Decides k key).0 e)

-- ---- the record of a key

pub record_hot : (hot : Option (List ℕ)) (kept : Option Record) (m : Records) (key : List ℕ) → is_hot hot key ≡ true → record_at (with_hot hot kept m) key ≡ hot_record kept
record_hot hot kept m key e = ap (λ o. record_at (with_hot o kept m) key) (hot_is hot key e) ∙ at_hot m key (hot_record kept)

pub is_apart_from : (k key : List ℕ) → bytes_eq k key ≡ false → key ≢ k
is_apart_from k key e s = true≢false (sym ((bytes_eq-Decides k key).1 (sym s)) ∙ e)

pub record_cold : (hot : Option (List ℕ)) (kept : Option Record) (m : Records) (key : List ℕ) → is_hot hot key ≡ false → record_at (with_hot hot kept m) key ≡ record_at m key
record_cold None kept m key e = refl
record_cold (Some k) kept m key e = at_cold m k (hot_record kept) key (is_apart_from k key e)

-- a table without records has no hot key
pub no_hot : (hot : Option (List ℕ)) (kept : Option Record) (m : Records) → with_hot hot kept m ≡ finmap.empty → (hot ≡ None) × (m ≡ finmap.empty)
no_hot None kept m e = (refl, e)
no_hot (Some k) kept m e = let none : Some (hot_record kept) ≡ None = sym (get_hot m k (hot_record kept)) ∙ ap (λ x. get x k) e ∙ get-empty order k in cc

pub sound_with_hot : (hot : Option (List ℕ)) (kept : Option Record) (m : Records) → IsWithHot hot kept m → AreSound (with_hot hot kept m)
sound_with_hot None kept m w = w.sound
sound_with_hot (Some k) kept m w = sound_hot m k (hot_record kept) w.sound w.filled

-- ---- a step at the hot key

module _ (k : List ℕ) (kept kept' : Option Record) (after : Option (List ℕ)) (m : Records) (pass : ℕ) (call : Call) (lets : List Through) (reply : Reply) (w : IsWithHot (Some k) kept m) (went : StepsHot (Some k) after (hot_record kept) (hot_record kept') pass call lets reply) where
  abbrev act : Record → Outcome
  act r = step r pass call

  made_at_hot : IsStep (with_hot (Some k) kept m) k act reply lets (with_hot after kept' m)
  made_at_hot = elim (is_empty (act (hot_record kept)).after) as (λ b. is_empty (act (hot_record kept)).after ≡ b → IsStep (with_hot (Some k) kept m) k act reply lets (with_hot after kept' m)) [
    | false ↦ λ e. let s = went.stays e in
        subst (λ o. IsStep (with_hot (Some k) kept m) k act reply lets (with_hot o kept' m)) (sym s.0)
        (hot_step m k (hot_record kept) (hot_record kept') act reply lets (record { moved = s.1; replied = went.replied; let_through = went.let_through }))
    | true ↦ λ e. let s = went.ends e in
        subst (λ o. IsStep (with_hot (Some k) kept m) k act reply lets (with_hot o kept' m)) (sym s.0)
        (ended_step m k (hot_record kept) (act (hot_record kept)).after act reply lets (record { moved = refl; replied = went.replied; let_through = went.let_through }) w.apart e)
  ] refl

  still_with_hot : IsWithHot after kept' m
  still_with_hot = elim (is_empty (act (hot_record kept)).after) as (λ b. is_empty (act (hot_record kept)).after ≡ b → IsWithHot after kept' m) [
    | false ↦ λ e. let s = went.stays e in
        subst (λ o. IsWithHot o kept' m) (sym s.0) (record {
          sound = w.sound;
          apart = w.apart;
          filled = subst IsKept (sym s.1) (record { filled = e; lawful = step_keeps_lawful (hot_record kept) pass call w.filled.lawful });
          spare = tt;
        })
    | true ↦ λ e. let s = went.ends e in
        subst (λ o. IsWithHot o kept' m) (sym s.0) (record { sound = w.sound; apart = tt; filled = tt; spare = s.1 })
  ] refl

-- the same, whichever key is hot
pub step_at_hot : (hot after : Option (List ℕ)) (key : List ℕ) (kept kept' : Option Record) (m : Records) (pass : ℕ) (call : Call) (lets : List Through) (reply : Reply) → is_hot hot key ≡ true → IsWithHot hot kept m → StepsHot hot after (hot_record kept) (hot_record kept') pass call lets reply → IsStep (with_hot hot kept m) key (λ r. step r pass call) reply lets (with_hot after kept' m)
step_at_hot hot after key kept kept' m pass call lets reply e w went =
    let here : hot ≡ Some key = hot_is hot key e in
    subst (λ o. IsStep (with_hot o kept m) key (λ r. step r pass call) reply lets (with_hot after kept' m)) (sym here)
    (made_at_hot key kept kept' after m pass call lets reply (subst (λ o. IsWithHot o kept m) here w) (subst (λ o. StepsHot o after (hot_record kept) (hot_record kept') pass call lets reply) here went))

pub with_hot_after : (hot after : Option (List ℕ)) (key : List ℕ) (kept kept' : Option Record) (m : Records) (pass : ℕ) (call : Call) (lets : List Through) (reply : Reply) → is_hot hot key ≡ true → IsWithHot hot kept m → StepsHot hot after (hot_record kept) (hot_record kept') pass call lets reply → IsWithHot after kept' m
with_hot_after hot after key kept kept' m pass call lets reply e w went =
    let here : hot ≡ Some key = hot_is hot key e in
    still_with_hot key kept kept' after m pass call lets reply (subst (λ o. IsWithHot o kept m) here w) (subst (λ o. StepsHot o after (hot_record kept) (hot_record kept') pass call lets reply) here went)

-- ---- a step at another key

pub step_at_cold : (hot : Option (List ℕ)) (kept : Option Record) (m n : Records) (key : List ℕ) (act : Record → Outcome) (reply : Reply) (lets : List Through) → is_hot hot key ≡ false → IsStep m key act reply lets n → IsStep (with_hot hot kept m) key act reply lets (with_hot hot kept n)
step_at_cold None kept m n key act reply lets e step = step
step_at_cold (Some k) kept m n key act reply lets e step = cold_step m n k key (hot_record kept) act reply lets (is_apart_from k key e) step

pub with_cold_after : (hot : Option (List ℕ)) (kept : Option Record) (m n : Records) (key : List ℕ) (act : Record → Outcome) (reply : Reply) (lets : List Through) → is_hot hot key ≡ false → IsWithHot hot kept m → AreSound n → IsStep m key act reply lets n → IsWithHot hot kept n
with_cold_after None kept m n key act reply lets e w sound step = record { sound = sound; apart = tt; filled = tt; spare = w.spare }
with_cold_after (Some k) kept m n key act reply lets e w sound step = record { sound = sound; apart = still_none m n k key (hot_record kept) act reply lets (is_apart_from k key e) step w.apart; filled = w.filled; spare = tt }

-- ---- the room for lets

pub rows_have_room : (hot : Option (List ℕ)) (kept : Option Record) (m : Records) (room : ℕ) → IsWithHot hot kept m → HasRoom (with_hot hot kept m) room → HasRoom m room
rows_have_room None kept m room w has = has
rows_have_room (Some k) kept m room w has = room_of_rows m k (hot_record kept) room w.apart has

pub record_has_room : (hot : Option (List ℕ)) (kept : Option Record) (m : Records) (room : ℕ) → IsWithHot hot kept m → HasRoom (with_hot hot kept m) room → how_many (hot_record kept) ≤ room
record_has_room None kept m room w has = subst (λ r. how_many r ≤ room) (sym w.spare) (omega arith)
record_has_room (Some k) kept m room w has = room_of_hot m k (hot_record kept) room has

pub both_have_room : (hot : Option (List ℕ)) (kept : Option Record) (m : Records) (room : ℕ) → HasRoom m room → how_many (hot_record kept) ≤ room → HasRoom (with_hot hot kept m) room
both_have_room None kept m room has few = has
both_have_room (Some k) kept m room has few = room_hot m k (hot_record kept) room has few

pub more_room : (m : Records) (room more : ℕ) → room ≤ more → HasRoom m room → HasRoom m more
more_room m room more grown has q = let few = has q in omega (arith, few, grown)

-- ---- the first key

pub first_kept : (kept : Option Record) (h : Holder) → hot_record kept ≡ (take_lock empty h).after → IsKept (hot_record kept)
first_kept kept h is = subst IsKept (sym is) (record { filled = refl; lawful = held_lawful h })

pub first_step : (kept : Option Record) (m : Records) (k : List ℕ) (h : Holder) → m ≡ finmap.empty → hot_record kept ≡ (take_lock empty h).after → IsStep finmap.empty k (λ r. take_lock r h) Taken [] (insert m k (hot_record kept))
first_step kept m k h none is = record {
  replied = refl;
  let_through = rw (record_none k) refl;
  here = at_hot m k (hot_record kept) ∙ is ∙ sym (ap (λ r. (take_lock r h).after) (record_none k));
  others = λ q apart. get_cold m k (hot_record kept) q apart ∙ ap (λ x. get x q) none;
}

-- ---- the outcome of a test, and of a call that may fail

pub cold_by : (b : Bool) (hot : Option (List ℕ)) (key : List ℕ) → b ≡ is_hot hot key → b ≡ false → is_hot hot key ≡ false
cold_by b hot key is e = sym is ∙ e

pub hot_by : (b : Bool) (hot : Option (List ℕ)) (key : List ℕ) → b ≡ is_hot hot key → b ≡ true → is_hot hot key ≡ true
hot_by b hot key is e = sym is ∙ e

-- the step was made at another key than the hot one, or nothing has changed
pub with_cold_either : {E : Type 0} (result : Result Reply E) (X : Type 0) (hot : Option (List ℕ)) (kept : Option Record) (m n : Records) (key : List ℕ) (act : Record → Outcome) (lets : List Through) → is_hot hot key ≡ false → IsWithHot hot kept m → AreSound n → IfOk result (λ reply. IsStep m key act reply lets n) → OnErr result ((n ≡ m) × X) → IsWithHot hot kept n
with_cold_either (Ok reply) X hot kept m n key act lets e w sound ok err = with_cold_after hot kept m n key act reply lets e w sound ok
with_cold_either (Err x) X hot kept m n key act lets e w sound ok err = subst (IsWithHot hot kept) (sym err.0) w

-- the step was made at the hot key, or nothing has changed
pub with_hot_either : {E : Type 0} (result : Result Reply E) (X : Type 0) (hot after : Option (List ℕ)) (key : List ℕ) (kept : Option Record) (old new : Record) (m : Records) (pass : ℕ) (call : Call) (lets : List Through) → is_hot hot key ≡ true → kept ≡ Some old → IsWithHot hot kept m → IfOk result (StepsHot hot after old new pass call lets) → OnErr result ((after ≡ hot) × (new ≡ old) × X) → IsWithHot after (Some new) m
with_hot_either (Ok reply) X hot after key kept old new m pass call lets e is w ok err = with_hot_after hot after key (Some old) (Some new) m pass call lets reply e (subst (λ o. IsWithHot hot o m) is w) ok
with_hot_either (Err x) X hot after key kept old new m pass call lets e is w ok err = subst (λ o. IsWithHot o (Some new) m) (sym err.0) (subst (λ r. IsWithHot hot (Some r) m) (sym err.1) (subst (λ o. IsWithHot hot o m) is w))
