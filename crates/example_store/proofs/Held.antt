-- The lock of a key among those that a transaction holds.
use Rattle.std.proofs.Common.{◌≡◌, ◌+◌, ℕ, List, [], ◌∷◌, Some, sym, subst}
use Rattle.std.specs.Prelude.{IsSomeAnd, slice_get, position, Result, Ok, Err, IfOk, IsOkAnd}
use Rattle.std.specs.Str.{bytes_eq}
use Rattle.lt_words.specs.declared.event.Event.{Event}
use Rattle.lt_words.specs.History.{part, shard_of}
use Rattle.example_values.specs.declared.entry.LeftValue.{LeftValue}
use Rattle.example_cells.specs.declared.cell.CellReading.{CellReading}
use Rattle.example_cells.specs.Committing.{IsReadAfter}
use Rattle.example_cells.specs.Leaving.{IsReadingLeft}
use Rattle.example_store.specs.Locks.{IsLockedRead}
use Rattle.std.proofs.lemmas.Slice.Eq.{bytes_eq-Decides}
use Rattle.std.proofs.lemmas.Option.{slice_get-get_or}
use Rattle.std.proofs.lemmas.List.Quantifiers.{position-Some}

-- The lock at the first index at which a lock is of the key is of the key.
pub held_key : {A : Type 0} (f : A → List ℕ) (key : List ℕ) (xs : List A) (i : ℕ) → position (λ l. bytes_eq (f l) key) xs ≡ Some i → IsSomeAnd (slice_get xs i) (λ l. f l ≡ key)
held_key f key [] i is = absurd cc
held_key f key (x ∷ xs) i is =
    let found = position-Some (λ l. bytes_eq (f l) key) (x ∷ xs) i x is in
    subst (λ o. IsSomeAnd o (λ l. f l ≡ key)) (sym (slice_get-get_or (x ∷ xs) i x found.0)) ((bytes_eq-Decides (f _) key).0 found.1)

-- A lock was noted, and what was read of its key is the value.
pub took_lock : {L A B E F : Type 0} (f : A → B) (S T : L → Type 0) (R : L → A → Type 0) (l : L) (reading : Result A E) (v : Result B F) → S l → T l → IfOk reading (R l) → IfOk v (λ x. IsOkAnd reading (λ r. f r ≡ x)) →
    IfOk v (λ x. (k : L) × S k × T k × (r : A) × (f r ≡ x) × R k r)
took_lock f S T R l (Ok r) (Ok x) noted of read is = (l, noted, of, r, is, read)
took_lock f S T R l (Err e) (Ok x) noted of read is = absurd is
took_lock f S T R l reading (Err e) noted of read is = tt

-- What was read, if it was, was read under the lock.
pub locked_read : {E : Type 0} (shards : ℕ) (key : List ℕ) (seen : List Event) (taken : ℕ) (log : List LeftValue) (r : Result CellReading E) → IfOk r (IsReadAfter (part (shard_of key shards) seen) (taken + 1) key) → IfOk r (IsReadingLeft shards log key) → IfOk r (IsLockedRead shards key seen taken log)
locked_read shards key seen taken log (Ok x) after left = record { after = after; left = left }
locked_read shards key seen taken log (Err e) after left = tt
