-- Other requests of a transaction: what the counts tell.
use Rattle.std.proofs.Common.{◌≡◌, ℕ, ◌+◌, ◌-◌, ◌<◌, ◌≤◌, length, Bool, true, false, cond, Option, Some, None, List, [], ◌∷◌, map, filter, refl, sym, ap, ◌∙◌, inl, inr, arith, subst}
use Rattle.std.specs.Prelude.{not, ◌&&◌, slice_get, is_some, IfSome}
use Rattle.std.specs.List.{AllByRecursion}
use Rattle.std.specs.Option.{option_map}
use mathlib.Core.Bool.{true≢false}
use Rattle.lt_links.specs.declared.stand.Stand.{Stand}
use Rattle.lt_links.specs.declared.ids.QueueKind.TheVariants.{Writers, Reservation}
use Rattle.lt_links.specs.Ring.{has, is_in, Distinct, without}
use Rattle.lt_links.specs.Maps.{Maps, queue, owned, stand, IsSound}
use Rattle.lt_links.specs.Tallies.{HasTally, is_node_of}
use Rattle.lt_links.specs.Tallies as tallies
use Rattle.lt_links.proofs.Rings.{same_or_apart, has-without, Distinct-without, length-without}
use Rattle.lt_rules.specs.Rules.{is_txn, number_of, writer_number, through_of}
use Rattle.lt_links.specs.declared.ids.Queue.{Queue}
use Rattle.lt_row.specs.declared.queue_walk.Selection.TheVariants.{Of}
use Rattle.lt_row.specs.Found.{WritesQueue, goes_on, selected_lets, without_selected}
use Rattle.lt_row.specs.declared.row.Row.{Row}
use Rattle.lt_row.specs.Row.{stand_at, line, queue_at, request_of, writer_of}
use Rattle.lt_row.specs.RowStepped.{IsRow}
use Rattle.lt_row.specs.SameTxn.{own_one, HasOnly, HasNone}
use Rattle.lt_row.proofs.Places.{rest_from, Follows, rest_first, in_first, rest_next, in_next, has_first, has_later, is_false}
use Rattle.lt_row.proofs.Written.{stand_is}
use Rattle.lt_row.proofs.Walks.{all_at, all_nodes}

-- Distinct numbers that are no more than some distinct ones among them are all among those.
pub covers : (ns xs : List ℕ) → Distinct ns → Distinct xs → ((i : ℕ) → has i xs ≡ true → has i ns ≡ true) → length ns ≤ length xs → (n : ℕ) → has n ns ≡ true → has n xs ≡ true
covers [] xs d e sub few n there = absurd (true≢false (sym there))
covers (m ∷ ns) [] d e sub few n there = absurd (omega (arith, few))
covers (m ∷ ns) (x ∷ xs) d e sub few n there =
    elim (same_or_apart n x) [
      | inl s ↦ rw s.1 refl
      | inr o ↦ has_later n x xs (covers (without x all) xs (Distinct-without x all d) e.1 within fewer n (rw (has-without n x all, o.1) there))
    ]
  where
    all : List ℕ
    all = m ∷ ns

    x_there : has x all ≡ true
    x_there = sub x (has_first x xs)

    within : (i : ℕ) → has i xs ≡ true → has i (without x all) ≡ true
    within i h = elim (same_or_apart i x) [
      | inl s ↦ absurd (true≢false (sym h ∙ ap (λ k. has k xs) s.0 ∙ e.0))
      | inr o ↦ rw (has-without i x all, o.1) (sub i (has_later i x xs h))
    ]

    fewer : length (without x all) ≤ length xs
    fewer = omega (arith, few, length-without x all d x_there)

-- the nodes among these that have an entry of the transaction
abbrev pub own_nodes : Maps → ℕ → List ℕ → List ℕ
own_nodes m txn l = filter (λ n. is_node_of (stand m n) txn) l

has_own : (m : Maps) (txn n : ℕ) (l : List ℕ) → has n (own_nodes m txn l) ≡ true → (has n l ≡ true) × (is_node_of (stand m n) txn ≡ true)
has_own m txn n [] h = absurd (true≢false (sym h))
has_own m txn n (x ∷ xs) h =
    elim (is_node_of (stand m x) txn) as (λ b. is_node_of (stand m x) txn ≡ b → has n (cond b (x ∷ own_nodes m txn xs) (own_nodes m txn xs)) ≡ true → (has n (x ∷ xs) ≡ true) × (is_node_of (stand m n) txn ≡ true)) [
      | true ↦ λ e g. elim (same_or_apart n x) [
        | inl s ↦ (rw s.1 refl, ap (λ k. is_node_of (stand m k) txn) s.0 ∙ e)
        | inr o ↦ let r = has_own m txn n xs (rw o.1 at g) in (has_later n x xs r.0, r.1)
      ]
      | false ↦ λ e g. let r = has_own m txn n xs g in (has_later n x xs r.0, r.1)
    ] refl h

not_own : (m : Maps) (txn n : ℕ) (l : List ℕ) → has n l ≡ false → has n (own_nodes m txn l) ≡ false
not_own m txn n l h = is_false _ (λ t. true≢false (sym (has_own m txn n l t).0 ∙ h))

Distinct-own : (m : Maps) (txn : ℕ) (l : List ℕ) → Distinct l → Distinct (own_nodes m txn l)
Distinct-own m txn [] d = tt
Distinct-own m txn (x ∷ xs) d =
    elim (is_node_of (stand m x) txn) as (λ b. Distinct (cond b (x ∷ own_nodes m txn xs) (own_nodes m txn xs))) [
      | true ↦ (not_own m txn x xs d.0, Distinct-own m txn xs d.1)
      | false ↦ Distinct-own m txn xs d.1
    ]

-- The walk through a request's entries has come to a position: the transaction has at most as many entries as are left,
-- with those before the position.
pub record IsCount (m : Maps) (txn number count left : ℕ) (at : Option ℕ) : Type 0 where
  pub position : is_in (owned m number) at ≡ true
  pub few : count + length (own_nodes m txn (rest_from at (owned m number))) ≤ left + length (own_nodes m txn (owned m number))

same_test : (own : Option ℕ) (txn : ℕ) → tallies.names_txn own txn ≡ is_txn own txn
same_test None txn = refl
same_test (Some t) txn = refl

own_more : (m : Maps) (txn n : ℕ) (s : Stand) (rest : List ℕ) → stand m n ≡ Some s → length (own_nodes m txn (n ∷ rest)) ≡ own_one s.txn txn + length (own_nodes m txn rest)
own_more m txn n s rest at =
    let own : is_node_of (stand m n) txn ≡ is_txn s.txn txn = ap (λ o. is_node_of o txn) at ∙ same_test s.txn txn in
    ap (λ b. length (cond b (n ∷ own_nodes m txn rest) (own_nodes m txn rest))) own ∙ by_case (is_txn s.txn txn)
  where
    by_case : (b : Bool) → length (cond b (n ∷ own_nodes m txn rest) (own_nodes m txn rest)) ≡ cond b 1 0 + length (own_nodes m txn rest)
    by_case true = omega arith
    by_case false = omega arith

module _ (m : Maps) (txn number count : ℕ) (sound : IsSound m) where
  pub IsCount-first : (at : Option ℕ) → at ≡ slice_get (owned m number) 0 → IsCount m txn number count count at
  IsCount-first at e = record {
    position = in_first at (owned m number) e;
    few = omega (arith, ap (λ l. length (own_nodes m txn l)) (rest_first at (owned m number) e (sound.numbers_distinct number)));
  }

  pub IsCount-next : (n : ℕ) (s : Stand) (at : Option ℕ) (left : ℕ) → IsCount m txn number count left (Some n) → Follows (owned m number) n at → stand m n ≡ Some s → IsCount m txn number count (left - own_one s.txn txn) at
  IsCount-next n s at left walk follows is = record {
    position = in_next n at (owned m number) walk.position follows;
    few =
        let rest = rest_from at (owned m number) in
        let cut = ap (λ l. length (own_nodes m txn l)) (rest_next n at (owned m number) walk.position (sound.numbers_distinct number) follows) in
        omega (arith, walk.few, cut, own_more m txn n s rest is);
  }

  pub HasOnly-end : (left : ℕ) → IsCount m txn number count left None → left ≡ 0 → HasTally m txn count → HasOnly m txn number
  HasOnly-end left walk none tally n h =
      let all = owned m number in
      (has_own m txn n all (covers tally.nodes (own_nodes m txn all) tally.distinct (Distinct-own m txn all (sound.numbers_distinct number))
      (λ i t. tally.are i ∙ (has_own m txn i all t).1) (omega (arith, walk.few, none, tally.count)) n (tally.are n ∙ h))).0

-- an entry of a queue is at one of its nodes
some_of : (o : Option Stand) → is_some o ≡ true → (s : Stand) × (o ≡ Some s)
some_of None h = absurd (true≢false (sym h))
some_of (Some s) h = (s, refl)

-- nothing is among the writers of a transaction without entries
pub none_at_all : (m : Maps) (txn id : ℕ) → IsSound m → HasTally m txn 0 → HasNone txn (line m (queue_at id Writers))
none_at_all m txn id sound tally = all_nodes (λ s. is_txn s.txn txn ≡ false) m (queue m (queue_at id Writers)) (λ n h. is_false _ (λ t.
    let r = some_of (stand m n) (sound.queued_there (queue_at id Writers) n h) in
    let own : is_node_of (stand m n) txn ≡ true = ap (λ o. is_node_of o txn) r.1 ∙ same_test r.0.txn txn ∙ ap (λ (s : Stand). is_txn s.txn txn) (sym (stand_is m n r.0 r.1)) ∙ t in
    let no : tally.nodes ≡ [] = empty tally.nodes (sym tally.count) in
    true≢false (sym own ∙ sym (tally.are n) ∙ ap (has n) no)))
  where
    empty : (l : List ℕ) → length l ≡ 0 → l ≡ []
    empty [] e = refl
    empty (x ∷ xs) e = absurd (omega (arith, e))

-- nor if all entries are those of the request that holds the reservation
pub none_but_reserved : (m : Maps) (row : Row) (txn : ℕ) (own : Stand) → IsRow m row → slice_get (line m (queue_at row.id Reservation)) 0 ≡ Some own → HasOnly m txn own.number → HasNone txn (line m (queue_at row.id Writers))
none_but_reserved m row txn own is first only = all_nodes (λ s. is_txn s.txn txn ≡ false) m (queue m (queue_at row.id Writers)) (λ n h. is_false _ (λ t.
    let sound = is.linked.sound in
    let r = some_of (stand m n) (sound.queued_there (queue_at row.id Writers) n h) in
    let mine : is_node_of (stand m n) txn ≡ true = ap (λ o. is_node_of o txn) r.1 ∙ same_test r.0.txn txn ∙ ap (λ (s : Stand). is_txn s.txn txn) (sym (stand_is m n r.0 r.1)) ∙ t in
    let owner = sound.owned_number own.number n (only n mine) in
    let number : (stand_at m n).number ≡ own.number = ap (λ (s : Stand). s.number) (stand_is m n owner.0 owner.1) ∙ owner.2 in
    let least : own.number < (stand_at m n).number = all_at (λ s. own.number < s.number) m n (queue m (queue_at row.id Writers)) h greater in
    omega (arith, number, least)))
  where
    below : AllByRecursion (λ w. own.number < writer_number w) (map writer_of (line m (queue_at row.id Writers)))
    below = subst (λ o. IfSome (option_map request_of o) (λ s. AllByRecursion (λ w. number_of s < writer_number w) (map writer_of (line m (queue_at row.id Writers))))) first is.lawful.first.reservation_is_least

    stands : (l : List Stand) → AllByRecursion (λ w. own.number < writer_number w) (map writer_of l) → AllByRecursion (λ s. own.number < s.number) l
    stands [] all = tt
    stands (s ∷ l) all = (all.0, stands l all.1)

    greater : AllByRecursion (λ s. own.number < s.number) (line m (queue_at row.id Writers))
    greater = stands (line m (queue_at row.id Writers)) below

-- Where none of the entries is the transaction's, none of them leaves.
pub none_lets : (txn : ℕ) (l : List Stand) → HasNone txn l → selected_lets (Of txn) l ≡ []
none_lets txn [] none = refl
none_lets txn (s ∷ l) none = ap (λ b. map (λ s. through_of (request_of s)) (cond (b && s.active) (s ∷ filter (goes_on (Of txn)) l) (filter (goes_on (Of txn)) l))) none.0 ∙ none_lets txn l none.1

kept_all : (txn : ℕ) (l : List Stand) → HasNone txn l → without_selected (Of txn) l ≡ l
kept_all txn [] none = refl
kept_all txn (s ∷ l) none = ap (λ b. cond (not b) (s ∷ without_selected (Of txn) l) (without_selected (Of txn) l)) none.0 ∙ ap (λ k. s ∷ k) (kept_all txn l none.1)

pub none_leaves : (m : Maps) (q : Queue) (txn : ℕ) → IsSound m → HasNone txn (line m q) → WritesQueue m m q (without_selected (Of txn) (line m q))
none_leaves m q txn sound none = record {
  here = sym (kept_all txn (line m q) none);
  others = λ p h. refl;
  records = λ id. refl;
  sound = sound;
}
