-- The lawful records: what holds of every record that can arise.
use Rattle.std.specs.Prelude.{◌≡◌, ◌≢◌, ◌<◌, ◌⊎◌, ℕ, true, false, nat_eq, Some, option_to_list, List, [], ◌∷◌, ◌++◌, map, IsNone, IsSome, IfSome}
use Rattle.std.specs.List.{AllByRecursion, IsDistinct}
use Rattle.lt_ids.specs.Ids.{is_below}
use Rattle.lt_rules.specs.declared.queued.QueuedRequest.{QueuedRequest}
use Rattle.lt_rules.specs.declared.queued.QueuedWriter.{QueuedWriter}
use Rattle.lt_rules.specs.Rules.{Record, number_of, writer_number, has_txn, settle}

-- the queued requests: the writers, active or not, and the readers
abbrev pub waiters : Record → List QueuedRequest
waiters r = map (λ w. w.request) r.writers ++ r.readers

-- the numbers of the reservation and of the queued requests
abbrev pub numbers : Record → List ℕ
numbers r = map number_of (option_to_list r.reservation) ++ map number_of (waiters r)

-- The numbers of the writers rise strictly.
abbrev pub Rises : List QueuedWriter → Type 0
Rises [] = Unit {0}
Rises (w ∷ ws) = AllByRecursion (λ v. writer_number w < writer_number v) ws × Rises ws

-- What holds of every record that can arise, apart from what concerns requests without a transaction. The first
-- version of the rules calls such a record lawful.
pub record IsLawfulFirst (r : Record) : Type 0 where
  -- the key is not both held and reserved
  pub not_both : IsNone r.holder ⊎ IsNone r.reservation
  -- if it is neither, no request is queued to write
  pub free_has_no_writers : IsNone r.holder → IsNone r.reservation → r.writers ≡ []
  -- if it is not held, no request is queued to read
  pub unheld_has_no_readers : IsNone r.holder → r.readers ≡ []
  -- the writers' numbers rise strictly
  pub writers_rise : Rises r.writers
  -- the reservation's number is below every writer's
  pub reservation_is_least : IfSome r.reservation (λ s. AllByRecursion (λ w. number_of s < writer_number w) r.writers)
  -- no number occurs twice
  pub numbers_differ : IsDistinct nat_eq (numbers r)
  -- no queued request belongs to the holder's transaction
  pub others_wait : IfSome r.holder (λ h. AllByRecursion (λ q. q.txn ≢ Some h.txn) (waiters r))
  -- no reader's timestamp is below the holder's
  pub readers_are_not_below : IfSome r.holder (λ h. AllByRecursion (λ q. is_below q.ts h.ts ≡ false) r.readers)
  -- the distinguished waiter is eligible, and there is one if any queued request is eligible
  pub is_settled : settle r ≡ r

-- What holds of every record that can arise.
pub record IsLawful (r : Record) : Type 0 where
  pub first : IsLawfulFirst r
  -- the reservation has a transaction
  pub reservation_has_txn : IfSome r.reservation (λ s. IsSome s.txn)
  -- a writer without a transaction is active: it never held the reservation
  pub writers_without_txn_wait : AllByRecursion (λ w. has_txn w ≡ false → w.active ≡ true) r.writers
