-- A new node comes immediately after another.
use Rattle.std.proofs.Common.{◌≡◌, ◌≢◌, ℕ, true, false, Some, refl, sym, ◌∙◌, inl, inr}
use Rattle.lt_links.specs.declared.stand.Stand.{Stand}
use Rattle.lt_links.specs.declared.ids.Queue.{Queue}
use Rattle.lt_links.specs.Ring.{has}
use Rattle.lt_links.specs.Maps.{Maps, IsSound, queue, PutsAfter, InsertsAfter}
use Rattle.lt_links.proofs.Rings.{put_after_absent}
use Rattle.lt_links.proofs.Joints.{same_queue}
use Rattle.lt_links.proofs.Steps.{is_same, is_other}

pub InsertsAfter-put : (old new : Maps) (q : Queue) (before n : ℕ) (s : Stand) → IsSound old → has before (queue old q) ≡ true → PutsAfter old new q (Some before) n s → InsertsAfter old new before n s
InsertsAfter-put old new q before n s sound there puts = record {
  queues_are = λ p. puts.queues_are p ∙ elim (same_queue p q) [
    | inl e ↦ rw (e, is_same q) refl
    | inr off ↦ rw (is_other p q off) (sym (put_after_absent before n (queue old p) (absent p off)))
  ];
  numbers_are = puts.numbers_are;
  stands_are = puts.stands_are;
  records_are = puts.records_are;
}
  where
    absent : (p : Queue) → p ≢ q → has before (queue old p) ≡ false
    absent p off = elim (has before (queue old p)) as (λ b. has before (queue old p) ≡ b → b ≡ false) [
      | true ↦ λ e. absurd (off (sound.one_queue p q before e there))
      | false ↦ λ e. refl
    ] refl
