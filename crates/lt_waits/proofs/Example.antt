-- The premises of the laws hold together in the example.
use Rattle.std.proofs.Common.{◌≡◌, ◌≢◌, ℕ, zero, suc, ◌+◌, ◌<◌, ◌≤◌, Bool, true, false, cond, inl, inr, Some, List, [], ◌∷◌, length, map, slice_get, get_or, refl, ap, sym, arith}
use Rattle.std.specs.Prelude.{slice_index, IsTrue}
use Rattle.std.specs.Str.{bytes_eq}
use Rattle.std.specs.List.{AllByRecursion}
use mathlib.Core.List.{IsPrefix}
use Rattle.lt_ids.specs.Ids.{Wait, value_of}
use Rattle.lt_ids.specs.declared.ticket.Through.{Through as Letting}
use Rattle.lt_rules.specs.declared.call.Call.{Call}
use Rattle.lt_rules.specs.declared.call.Reply.{Reply}
use Rattle.lt_rules.specs.declared.call.Reply.TheVariants.{Taken, MustWait, Freed}
use Rattle.lt_words.specs.declared.event.Event.{Event}
use Rattle.lt_rules.specs.Step.{IsLegal}
use Rattle.lt_entry.specs.Legal.{event_of, AreLegalKeys}
use Rattle.lt_ids.specs.Key.{IsKey, is_key_byte}
use Rattle.lt_entry.specs.Ranges.{IsInRange, IsTicket}
use Rattle.lt_words.specs.History.{part, steps_of, IsLegalHistory}
use Rattle.lt_words.specs.Shown.{AreShown}
use Rattle.lt_words.specs.Row.{PassState, MakesNoStep, fresh, with_lets}
use Rattle.lt_walk.specs.Closed.{IsFinal}
use Rattle.lt_walk.specs.Reported.{Reported, IsPoll}
use Rattle.lt_walk.specs.declared.scan_results.Poll.TheVariants.{Through}
use Rattle.lt_walk.specs.Theorem.{AreHeard, IsEnd}
use Rattle.lt_walk.proofs.Lives.{sees_same}
use Rattle.lt_waits.specs.Waits.{TellsOfWait, IsNoLater}
use Rattle.lt_waits.specs.Example.{waited_step, pass_after, waited_key, first_wait, first_let, lock_taken, request_waits, lock_freed, waited_history, waited_table, one_took, one_freed, two_entered, two_waits, two_learned, told_step, told_one, told_two, waited_finals, before_poll, after_poll, SomePollHears}

-- the steps at a key: all of them, or none
legal_at : (b : Bool) → IsLegal (map event_of (cond b (lock_taken ∷ cond b (request_waits ∷ cond b (lock_freed ∷ []) []) (cond b (lock_freed ∷ []) [])) (cond b (request_waits ∷ cond b (lock_freed ∷ []) []) (cond b (lock_freed ∷ []) []))))
legal_at true = (refl, refl, (refl, refl, (refl, refl, tt)))
legal_at false = tt

legal_keys : AreLegalKeys (steps_of waited_history)
legal_keys key = legal_at (bytes_eq waited_key key)

legal : IsLegalHistory 1 waited_history
legal = record { keys = legal_keys; home = (refl, (refl, (refl, tt))); draws = (refl, tt) }

sees_more : (p q : PassState) → q.of ≡ p.of → q.number ≡ p.number → q.counts ≡ p.counts → IsPrefix p.seen q.seen → IsPrefix p.shown q.shown → IsPrefix p.takes q.takes → MakesNoStep p q
sees_more p q of number counts seen shown takes = record { of = of; number = number; counts = counts; seen = seen; shown = shown; takes = takes }

-- a table of one shard has no other
no_other : (s a b : ℕ) → s ≢ 0 → slice_index (a ∷ []) s ≡ slice_index (b ∷ []) s
no_other zero a b other = absurd (other refl)
no_other (suc s) a b other = refl

-- a pass that keeps no lets
none_kept : (lets : List Letting) → with_lets [] lets ≡ []
none_kept [] = refl
none_kept (t ∷ ts) = none_kept ts

-- A step at the key that a pass makes and reports, if it stands at this index after all that the pass had seen, and each of
-- its lets was shown.
abbrev reported : (number made at : ℕ) (seen seen' : List Event) (shown shown' lets : List Letting) (call : Call) (reply : Reply) → let e = waited_step number call reply lets in
    slice_get (part 0 seen') at ≡ Some e → length (part 0 seen) ≤ at → IsPrefix seen seen' → IsPrefix shown shown' → AreShown shown' lets → Reported (pass_after number seen shown made) (pass_after number seen' shown' (made + 1)) (told_step e at)
reported number made at seen seen' shown shown' lets call reply stands later begins also_shown lets_shown = record {
  entry = waited_step number call reply lets;
  key_is = refl;
  call_is = refl;
  reply_is = refl;
  reports = record {
    own = refl;
    stands = stands;
    later = later;
    seen = begins;
    shown = also_shown;
    takes = (_, refl);
    lets_shown = lets_shown;
    untold = sym (none_kept lets);
    counted = refl;
    others = λ s other. no_other s (made + 1) made other;
    taken = refl;
    of = refl;
    number = refl;
  };
  woken = (refl, refl);
}

took : Reported (fresh waited_table 1) one_took (told_step lock_taken 0)
took = reported 1 0 0 [] one_took.seen [] [] [] lock_taken.call Taken refl (omega arith) (_, refl) (_, refl) tt

waits : Reported two_entered two_waits (told_step request_waits 1)
waits = reported 2 0 1 two_entered.seen two_waits.seen [] [] [] request_waits.call MustWait refl (omega arith) (_, refl) (_, refl) tt

abbrev freed : Reported one_took one_freed (told_step lock_freed 2)
freed = reported 1 1 2 one_took.seen waited_history [] (first_let ∷ []) (first_let ∷ []) lock_freed.call Freed refl (omega arith) (_, refl) (_, refl) (omega arith, tt)

heard : AreHeard waited_table (told_one ∷ told_two ∷ []) (one_freed ∷ two_learned ∷ [])
heard = (
  (fresh waited_table 1, one_took, sees_same (fresh waited_table 1), took, (one_took, one_freed, sees_same one_took, freed, sees_same one_freed)),
  ((λ one. absurd (omega (arith, one))), tt),
  ((two_entered, two_waits, sees_more (fresh waited_table 2) two_entered refl refl refl (_, refl) (_, refl) (_, refl), waits, sees_more two_waits two_learned refl refl refl (_, refl) (_, refl) (_, refl)), tt, tt),
)

each_byte : (k d : ℕ) → k < 1 → IsTrue (is_key_byte (get_or (97 ∷ []) k d))
each_byte zero d lt = refl
each_byte (suc k) d lt = absurd (omega (arith, lt))

key_in_range : IsKey waited_key
key_in_range = record { not_empty = omega arith; not_too_long = omega arith; each = each_byte }

ticket_in_range : IsTicket first_wait
ticket_in_range = ((omega arith, omega arith), (omega arith, omega arith))

in_range : AllByRecursion IsInRange (part 0 waited_history)
in_range = (
  record { key = key_in_range; pass = (omega arith, omega arith); call = ((omega arith, omega arith), (omega arith, omega arith)); reply = tt; lets = tt },
  (
    record { key = key_in_range; pass = (omega arith, omega arith); call = (ticket_in_range, (omega arith, omega arith), (omega arith, omega arith), omega arith); reply = tt; lets = tt },
    (
      record { key = key_in_range; pass = (omega arith, omega arith); call = (omega arith, omega arith); reply = tt; lets = (ticket_in_range, tt) },
      tt,
    ),
  ),
)

final : (s : ℕ) (here : s < 1) → IsFinal waited_table (one_freed ∷ two_learned ∷ []) waited_history s (waited_finals s here)
final zero here = record {
  legal = legal_keys;
  home = (refl, (refl, (refl, tt)));
  in_range = in_range;
  counted = refl;
  seen = ((_, refl), ((_, refl), tt));
  stands = (_, refl);
}
final (suc s) here = absurd (omega (arith, here))

all_shown : (s : ℕ) (here : s < 1) → AllByRecursion (λ e. AreShown (first_let ∷ []) e.lets) (waited_finals s here)
all_shown zero here = (tt, (tt, ((omega arith, tt), tt)))
all_shown (suc s) here = absurd (omega (arith, here))

end : IsEnd waited_table (one_freed ∷ two_learned ∷ []) waited_finals
end = record {
  whole = waited_history;
  legal = legal;
  seen = ((_, refl), ((_, refl), tt));
  whole_shown = first_let ∷ [];
  let_through = (((omega arith, omega arith), (omega arith, omega arith), inr (inr (inl (inl (refl, refl))))), tt);
  shown = ((_, refl), ((_, refl), tt));
  each = final;
  lets_shown = all_shown;
}

only_wait : (t : Wait) → TellsOfWait (told_step request_waits 1) t → IsNoLater t first_wait
only_wait t tells = let same_one : t ≡ first_wait = cc (tells.call) in inr (ap (λ (u : Wait). u.number) same_one, omega (arith, ap (λ (u : Wait). u.wait) same_one))

poll : IsPoll before_poll after_poll Through
poll = record {
  word = value_of first_wait;
  reads = record { of = refl; number = refl; counts = refl; taken = refl; wakes = refl; seen = (_, refl); shown = (_, refl); takes = (_, refl) };
  word_is = refl;
  status = inr (record { ticket = first_wait; number = (omega arith, omega arith); wait = (omega arith, omega arith); value = refl; through = inr (inr (inl (inl (refl, refl)))) });
  walk = refl;
  answer = refl;
}

pub some_poll_hears : SomePollHears
some_poll_hears = (
  omega arith,
  end,
  heard,
  record { index = 1; pass = two_learned; after = []; is_pass = refl; is_told = refl; later = sees_same two_learned },
  record { drawn = omega arith; latest = (only_wait, tt) },
  freed,
  inl (refl, refl),
  (_, refl),
  refl,
  refl,
  poll,
)
