-- What a pass has learned of all locks of a transaction, and that their tenures are around one moment.
use Rattle.std.proofs.Common.{◌≡◌, ℕ, ◌+◌, ◌<◌, List, [], ◌∷◌, Option, length, take, map, refl, sym, subst, ◌∙◌}
use Rattle.std.specs.List.{All, AllZip, AllByRecursion}
use Rattle.std.proofs.lemmas.List.{take_more, append-nil}
use lib.ListN.{get_or}
use Rattle.std.proofs.lemmas.List.Elements.{All-append, All-cons, All-nil, All-head, All-tail}
use mathlib.Core.List.{IsPrefix}
use Rattle.lt_words.specs.declared.event.Event.{Event}
use Rattle.lt_words.specs.Row.{PassState, SeesMore}
use Rattle.lt_tenure.specs.Tenure.{IsHeldAt}
use Rattle.example_cells.specs.declared.committed.LockTenure.{LockTenure}
use Rattle.example_cells.specs.Knowing.{Put}
use Rattle.example_cells.specs.Committing.{tenure_of_lock, IsFreed}
use Rattle.example_cells.proofs.Freed.{followed}

pub sees_on : (a b c : PassState) → SeesMore a b → SeesMore b c → SeesMore a c
sees_on a b c p q = record {
  of = q.of ∙ p.of;
  number = q.number ∙ p.number;
  counts = q.counts ∙ p.counts;
  taken = q.taken ∙ p.taken;
  wakes = q.wakes ∙ p.wakes;
  seen = followed a.seen b.seen c.seen p.seen q.seen;
  shown = followed_shown a.shown b.shown c.shown p.shown q.shown;
  takes = followed_shown a.takes b.takes c.takes p.takes q.takes;
}
  where
    followed_shown : {A : Type 0} (xs ys zs : List A) → IsPrefix xs ys → IsPrefix ys zs → IsPrefix xs zs
    followed_shown = followed

pub sees_itself : (a : PassState) → SeesMore a a
sees_itself a = record { of = refl; number = refl; counts = refl; taken = refl; wakes = refl; seen = ([], append-nil a.seen); shown = ([], append-nil a.shown); takes = ([], append-nil a.takes) }

pub learned_next : {L : Type 0} (seen_of : L → List Event) (xs : List L) (i : ℕ) (x : L) (old new : List Event) → i < length xs → x ≡ get_or xs i x → All (λ k. IsPrefix (seen_of k) old) (take i xs) → IsPrefix old new → IsPrefix (seen_of x) new →
    All (λ k. IsPrefix (seen_of k) new) (take (i + 1) xs)
learned_next seen_of xs i x old new below is before grew here =
    subst (All (λ k. IsPrefix (seen_of k) new)) (sym (take_more xs i x below))
    (All-append (λ k. IsPrefix (seen_of k) new) (take i xs) (get_or xs i x ∷ []) (λ k d b. followed _ old new (before k d b) grew)
    (All-cons (λ k. IsPrefix (seen_of k) new) (get_or xs i x) [] (subst (λ k. IsPrefix (seen_of k) new) is here) (All-nil (λ k. IsPrefix (seen_of k) new))))

-- the tenures of locks that are of one transaction
pub held_at_once : {L : Type 0} (key_of : L → List ℕ) (txn_of taken_of : L → ℕ) (put_of : L → Option Put) (shards : ℕ) (seen point : List Event) (txn : ℕ) (locks : List L) (ts : List LockTenure) → All (λ l. txn_of l ≡ txn) locks →
    AllZip (λ l t. IsFreed shards seen point (key_of l) (txn_of l) (taken_of l) (put_of l) t) locks ts → AllByRecursion (IsHeldAt shards seen point txn) (map tenure_of_lock ts)
held_at_once key_of txn_of taken_of put_of shards seen point txn [] [] own freed = tt
held_at_once key_of txn_of taken_of put_of shards seen point txn [] (t ∷ ts) own freed = absurd freed
held_at_once key_of txn_of taken_of put_of shards seen point txn (l ∷ locks) [] own freed = absurd freed
held_at_once key_of txn_of taken_of put_of shards seen point txn (l ∷ locks) (t ∷ ts) own freed = (
  subst (λ n. IsHeldAt shards seen point n (tenure_of_lock t)) (All-head (λ k. txn_of k ≡ txn) l locks own) freed.0.held,
  held_at_once key_of txn_of taken_of put_of shards seen point txn locks ts (All-tail (λ k. txn_of k ≡ txn) l locks own) freed.1,
)
