-- The search for a request's queue entry at a key, through the list of its number.
use Rattle.std.proofs.Common.{◌≡◌, ◌≢◌, ℕ, true, Option, Some, None, List, [], ◌∷◌, refl, sym, ap, ◌∙◌, subst, inl, inr}
use Rattle.std.specs.Prelude.{is_some, slice_get}
use Rattle.std.specs.List.{AllByRecursion}
use mathlib.Core.Bool.{true≢false}
use Rattle.lt_links.specs.declared.stand.Stand.{Stand}
use Rattle.lt_links.specs.declared.ids.Queue.{Queue}
use Rattle.lt_links.specs.Ring.{has, is_in}
use Rattle.lt_links.specs.Maps.{Maps, queue, owned, stand, IsSound}
use Rattle.lt_links.proofs.Rings.{same_or_apart}
use Rattle.lt_row.specs.Row.{stand_at, queue_at}
use Rattle.lt_row.specs.Found.{IsFound, IsMissing}
use Rattle.lt_row.proofs.Places.{rest_from, Follows, cut_at, rest_first, in_first, rest_next, in_next}
use Rattle.lt_row.proofs.Written.{stand_is}
use Rattle.lt_row.proofs.Walks.{all_nodes}

-- the node is in no queue of the record
abbrev pub IsAway : Maps → ℕ → ℕ → Type 0
IsAway m id n = (q : Queue) → has n (queue m q) ≡ true → q.id ≢ id

-- The search has come to a position in the number's list: if no node from there on is at the record, none is.
pub record IsSearch (m : Maps) (id number : ℕ) (at : Option ℕ) : Type 0 where
  pub position : is_in (owned m number) at ≡ true
  pub suffices : AllByRecursion (IsAway m id) (rest_from at (owned m number)) → AllByRecursion (IsAway m id) (owned m number)

module _ (m : Maps) (id number : ℕ) (sound : IsSound m) where
  pub IsSearch-first : (at : Option ℕ) → at ≡ slice_get (owned m number) 0 → IsSearch m id number at
  IsSearch-first at e = record {
    position = in_first at (owned m number) e;
    suffices = subst (AllByRecursion (IsAway m id)) (rest_first at (owned m number) e (sound.numbers_distinct number));
  }

  -- one move past a node in a queue of another record
  pub IsSearch-next : (n : ℕ) (at : Option ℕ) (q : Queue) → IsSearch m id number (Some n) → Follows (owned m number) n at → has n (queue m q) ≡ true → q.id ≢ id → IsSearch m id number at
  IsSearch-next n at q search follows there other = record {
    position = in_next n at (owned m number) search.position follows;
    suffices = λ rest. search.suffices (subst (AllByRecursion (IsAway m id)) (sym (rest_next n at (owned m number) search.position (sound.numbers_distinct number) follows)) (away, rest));
  }
    where
      away : IsAway m id n
      away p h same = other (ap (λ (r : Queue). r.id) (sound.one_queue q p n there h) ∙ same)

  -- the search is over at a node in a queue of the record
  pub IsFound-here : (n : ℕ) (q : Queue) → IsSearch m id number (Some n) → has n (queue m q) ≡ true → q.id ≡ id → IsFound m id number n q.kind
  IsFound-here n q search there same =
      let e : queue m (queue_at id q.kind) ≡ queue m q = ap (λ i. queue m (queue_at i q.kind)) (sym same) in
      let cut = cut_at n (queue m q) there in
      let owner = sound.owned_number number n search.position in
      record {
        before = cut.0;
        after = cut.1;
        cut = e ∙ cut.2;
        number_is = ap (λ (s : Stand). s.number) (stand_is m n owner.0 owner.1) ∙ owner.2;
      }

  all_have : (P : ℕ → Type 0) (n : ℕ) (l : List ℕ) → has n l ≡ true → AllByRecursion P l → P n
  all_have P n [] there all = absurd (true≢false (sym there))
  all_have P n (x ∷ xs) there all = elim (same_or_apart n x) [
    | inl s ↦ subst P (sym s.0) all.0
    | inr o ↦ all_have P n xs (rw o.1 at there) all.1
  ]

  -- and at the end, no entry with the number is in a queue of the record
  pub IsMissing-end : IsSearch m id number None → IsMissing m id number
  IsMissing-end search = λ kind. all_nodes (λ s. s.number ≢ number) m (queue m (queue_at id kind)) (λ n h same.
      let r = some_of (stand m n) (sound.queued_there (queue_at id kind) n h) in
      let is : (stand_at m n).number ≡ r.0.number = ap (λ (s : Stand). s.number) (stand_is m n r.0 r.1) in
      let here : has n (owned m number) ≡ true = ap (λ k. has n (owned m k)) (sym same ∙ is) ∙ sound.is_owned n r.0 r.1 in
      all_have (IsAway m id) n (owned m number) here (search.suffices tt) (queue_at id kind) h refl)
    where
      some_of : (o : Option Stand) → is_some o ≡ true → (s : Stand) × (o ≡ Some s)
      some_of None h = absurd (true≢false (sym h))
      some_of (Some s) h = (s, refl)
