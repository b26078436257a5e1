use Rattle.std.proofs.Common.{◌≡◌, ◌≢◌, ℕ, zero, suc, ◌+◌, ◌<◌, ◌≤◌, length, map, true, false, Option, Some, None, List, [], ◌∷◌, refl, sym, ap, ◌∙◌, inl, inr, arith, get_or, unwrap_or}
use Rattle.std.specs.Prelude.{is_some, nat_eq}
use mathlib.Core.Bool.{true≢false}
use Rattle.std.specs.Ordering.{nat_cmp, eq_by_cmp}
use Rattle.std.specs.FinMap.{find, from_entries, get-from_entries}
use Rattle.std.specs.FinMap as map
use Rattle.std.specs.Map.{lookup}
use Rattle.std.specs.Cmp.{nat_cmp_total}
use Rattle.std.proofs.lemmas.Bool.Decides.{nat_tests}
use Rattle.slab.specs.Slab.{Slab, get, entries, entries_from}
use Rattle.slab.proofs.SlabLemmas.{ContainsKey-within}
use Rattle.lt_links.specs.declared.node.Joint.{Joint}
use Rattle.lt_links.specs.declared.node.Node.{Node}
use Rattle.lt_links.specs.declared.node.Heads.{Heads}
use Rattle.lt_links.specs.declared.ids.Queue.{Queue}
use Rattle.lt_links.specs.declared.ids.QueueKind.{QueueKind}
use Rattle.lt_links.specs.declared.ids.QueueKind.TheVariants.{Writers, Readers, Reservation}
use Rattle.lt_links.specs.Ring.{has, Distinct, without, Link, Path}
use Rattle.lt_links.specs.Cells.{no_joint, head_of, Joints, next_of, queued_at, owned_at, Owners, ends_of, IsFamily}
use Rattle.lt_links.specs.Maps.{Maps, no_lists, list_of, queue, owned, stand, has_record, has_list}
use Rattle.lt_links.specs.View.{walk, list_at, lists_at, maps_of, queue_of, node_number, stand_of, Links}
use Rattle.lt_links.proofs.Rings.{same_or_apart, has-without, without_absent, Distinct-without, length-without}

-- a walk along a path goes through its list
walk_path : (next : Link) (fuel : ℕ) (p : Option ℕ) (l : List ℕ) → Path next p l → length l ≤ fuel → walk next fuel p ≡ l
walk_path next zero p [] path room = refl
walk_path next zero p (x ∷ xs) path room = absurd (omega arith)
walk_path next (suc fuel) p [] path room = rw path refl
walk_path next (suc fuel) p (x ∷ xs) path room = rw path.0 (ap (λ l. x ∷ l) (walk_path next fuel (Some x) xs path.1 (omega arith)))

-- Distinct numbers below a bound are no more than the bound.
length_without_one : (n : ℕ) (l : List ℕ) → Distinct l → length l ≤ length (without n l) + 1
length_without_one n l d = elim (has n l) as (λ b. has n l ≡ b → length l ≤ length (without n l) + 1) [
  | true ↦ λ h. omega (arith, length-without n l d h)
  | false ↦ λ h. rw (without_absent n l h) (omega arith)
] refl

length_bounded : (bound : ℕ) (l : List ℕ) → Distinct l → ((m : ℕ) → has m l ≡ true → m < bound) → length l ≤ bound
length_bounded zero [] d below = omega arith
length_bounded zero (x ∷ xs) d below =
    let first : has x (x ∷ xs) ≡ true = grind (arith, nat_tests) in
    absurd (omega (arith, below x first))
length_bounded (suc bound) l d below =
    let rest = length_bounded bound (without bound l) (Distinct-without bound l d) (λ m h. elim (same_or_apart m bound) [
      | inl s ↦ absurd (true≢false (sym (rw (has-without m bound l, s.1) at h)))
      | inr o ↦ omega (arith, o.0, below m (rw (has-without m bound l, o.1) at h))
    ]) in
    omega (arith, rest, length_without_one bound l d)

tied : (a b : ℕ) → a ≡ b → eq_by_cmp nat_cmp a b ≡ true
tied a b e = grind (arith, nat_tests)

untied : (a b : ℕ) → a ≢ b → eq_by_cmp nat_cmp a b ≡ false
untied a b e = grind (arith, nat_tests)

module _ {V X : Type 0} (g : ℕ → V → X) where
  -- the value that is made from the value of a slot
  abbrev mapped : ℕ → Option V → Option X
  mapped k None = None
  mapped k (Some v) = Some (g k v)

  abbrev at_keys : List (ℕ × V) → List (ℕ × X)
  at_keys es = map (λ e. (e.0, g e.0 e.1)) es

  find_below : (key first : ℕ) (slots : List (Option V)) → key < first → find nat_cmp key (at_keys (entries_from first slots)) ≡ None
  find_below key first [] h = refl
  find_below key first (None ∷ rest) h = find_below key (first + 1) rest (omega arith)
  find_below key first (Some v ∷ rest) h = rw (untied key first (omega arith)) (find_below key (first + 1) rest (omega arith))

  find_slot : (key first k : ℕ) (slots : List (Option V)) → key ≡ first + k → find nat_cmp key (at_keys (entries_from first slots)) ≡ mapped key (get_or slots k None)
  find_slot key first k [] e = refl
  find_slot key first zero (None ∷ rest) e = find_below key (first + 1) rest (omega arith)
  find_slot key first zero (Some v ∷ rest) e =
      let same : first ≡ key = omega arith in
      rw (tied key first (sym same)) (ap (λ n. Some (g n v)) same)
  find_slot key first (suc k) (None ∷ rest) e = find_slot key (first + 1) k rest (omega arith)
  find_slot key first (suc k) (Some v ∷ rest) e = rw (untied key first (omega arith)) (find_slot key (first + 1) k rest (omega arith))

  pub get_slot : (s : Slab V) (k : ℕ) → map.get (from_entries {R = nat_cmp} (at_keys (entries s))) k ≡ mapped k (get s k)
  get_slot s k = get-from_entries nat_cmp_total (at_keys (entries s)) k ∙ find_slot k zero k s.slots (omega arith)

  -- the same for the entries of a tree
  find_entry : (k : ℕ) (es : List (ℕ × V)) → find nat_cmp k (at_keys es) ≡ mapped k (find nat_cmp k es)
  find_entry k [] = refl
  find_entry k (e ∷ es) =
      elim (same_or_apart k e.0) [
        | inl s ↦ rw (tied k e.0 s.0) (ap (λ n. Some (g n e.1)) (sym s.0))
        | inr o ↦ rw (untied k e.0 o.0) (find_entry k es)
      ]

find_lookup : {V : Type 0} (k : ℕ) (es : List (ℕ × V)) → find nat_cmp k es ≡ lookup (nat_eq k) es
find_lookup k [] = refl
find_lookup k (e ∷ es) =
    elim (same_or_apart k e.0) [
      | inl s ↦ rw (tied k e.0 s.0) (rw s.1 refl)
      | inr o ↦ rw (untied k e.0 o.0) (rw o.1 (find_lookup k es))
    ]

module _ (nodes : Slab Node) (heads : Slab Heads) (owners : Owners) where
  abbrev maps : Maps
  maps = maps_of nodes heads owners

  pub stand_is : (n : ℕ) → stand maps n ≡ stand_of (get nodes n)
  stand_is n = get_slot (λ k (d : Node). d.stand) nodes n ∙ by_case (get nodes n)
    where
      by_case : (o : Option Node) → mapped (λ k (d : Node). d.stand) n o ≡ stand_of o
      by_case None = refl
      by_case (Some d) = refl

  record_in : (id : ℕ) → map.get maps.records id ≡ mapped (λ k (h : Heads). lists_at nodes heads k) id (get heads id)
  record_in id = get_slot (λ k (h : Heads). lists_at nodes heads k) heads id

  pub record_is : (id : ℕ) → has_record maps id ≡ is_some (get heads id)
  record_is id = ap is_some (record_in id) ∙ by_case (get heads id)
    where
      by_case : (o : Option Heads) → is_some (mapped (λ k (h : Heads). lists_at nodes heads k) id o) ≡ is_some o
      by_case None = refl
      by_case (Some h) = refl

  number_in : (k : ℕ) → map.get maps.numbers k ≡ mapped (λ i (j : Joint). list_at nodes (owned_at nodes owners) i) k (ends_of owners k)
  number_in k = get-from_entries nat_cmp_total (at_keys (λ i (j : Joint). list_at nodes (owned_at nodes owners) i) owners.entries) k ∙ find_entry (λ i (j : Joint). list_at nodes (owned_at nodes owners) i) k owners.entries ∙ ap (mapped (λ i (j : Joint). list_at nodes (owned_at nodes owners) i) k) (find_lookup k owners.entries)

  pub number_is : (k : ℕ) → has_list maps k ≡ is_some (ends_of owners k)
  number_is k = ap is_some (number_in k) ∙ by_case (ends_of owners k)
    where
      by_case : (o : Option Joint) → is_some (mapped (λ i (j : Joint). list_at nodes (owned_at nodes owners) i) k o) ≡ is_some o
      by_case None = refl
      by_case (Some j) = refl

  module _ {K : Type 0} (joints : Joints K) (home : ℕ → Option K) (lists : K → List ℕ) (family : IsFamily joints home lists) (housed : (n : ℕ) (k : K) → home n ≡ Some k → is_some (get nodes n) ≡ true) where
    -- a list has at most as many nodes as the slab has slots
    list_fits : (k : K) → length (lists k) ≤ length nodes.slots
    list_fits k = length_bounded (length nodes.slots) (lists k) (family.rings k).distinct (λ m h. ContainsKey-within nodes m (housed m k (family.homes k m h)))

    -- the walk goes through the whole list
    walk_is : (k : K) → list_at nodes joints k ≡ lists k
    walk_is k = walk_path (next_of joints k) (length nodes.slots) None (lists k) (family.rings k).path (list_fits k)

    -- if the ends lead nowhere, the list is empty
    nothing_is : (k : K) → joints k None ≡ no_joint → lists k ≡ []
    nothing_is k e = by_case (lists k) (family.rings k).path
      where
        by_case : (l : List ℕ) → Path (next_of joints k) None l → l ≡ []
        by_case [] path = refl
        by_case (x ∷ xs) path = absurd (differs (sym (ap (λ j. j.next) e) ∙ path.0))
          where
            differs : None ≢ Some x
            differs p = cc

  module _ (queues : Queue → List ℕ) (numbers : ℕ → List ℕ) (links : Links nodes heads owners queues numbers) where
    pub has_queue : (n : ℕ) (q : Queue) → queue_of (get nodes n) ≡ Some q → is_some (get nodes n) ≡ true
    has_queue n q h = by_case (get nodes n) h
      where
        by_case : (o : Option Node) → queue_of o ≡ Some q → is_some o ≡ true
        by_case None e = absurd (cc)
        by_case (Some d) e = refl

    pub has_number : (n k : ℕ) → node_number (get nodes n) ≡ Some k → is_some (get nodes n) ≡ true
    has_number n k h = by_case (get nodes n) h
      where
        by_case : (o : Option Node) → node_number o ≡ Some k → is_some o ≡ true
        by_case None e = absurd (cc)
        by_case (Some d) e = refl

    -- a queue has at most as many nodes as the slab has slots
    pub queue_fits : (q : Queue) → length (queues q) ≤ length nodes.slots
    queue_fits q = list_fits (queued_at nodes heads) _ queues links.queues_linked has_queue q

    pub queue_is : (q : Queue) → queue maps q ≡ queues q
    queue_is q = ap (λ o. list_of (unwrap_or o no_lists) q.kind) (record_in q.id) ∙ by_case (get heads q.id) refl
      where
        walked : (kind : QueueKind) → list_of (lists_at nodes heads q.id) kind ≡ list_at nodes (queued_at nodes heads) (record { id = q.id; kind = kind })
        walked Writers = refl
        walked Readers = refl
        walked Reservation = refl

        by_case : (o : Option Heads) → get heads q.id ≡ o → list_of (unwrap_or (mapped (λ k (h : Heads). lists_at nodes heads k) q.id o) no_lists) q.kind ≡ queues q
        by_case None e = nothing q.kind ∙ sym (nothing_is (queued_at nodes heads) _ queues links.queues_linked has_queue q (ap (λ o. head_of o q.kind) e))
          where
            nothing : (kind : QueueKind) → list_of no_lists kind ≡ []
            nothing Writers = refl
            nothing Readers = refl
            nothing Reservation = refl
        by_case (Some h) e = walked q.kind ∙ walk_is (queued_at nodes heads) _ queues links.queues_linked has_queue q

    pub owned_is : (k : ℕ) → owned maps k ≡ numbers k
    owned_is k = ap (λ o. unwrap_or o []) (number_in k) ∙ by_case (ends_of owners k) refl
      where
        by_case : (o : Option Joint) → ends_of owners k ≡ o → unwrap_or (mapped (λ i (j : Joint). list_at nodes (owned_at nodes owners) i) k o) [] ≡ numbers k
        by_case None e = sym (nothing_is (owned_at nodes owners) _ numbers links.numbers_linked has_number k (ap (λ o. unwrap_or o no_joint) e))
        by_case (Some j) e = walk_is (owned_at nodes owners) _ numbers links.numbers_linked has_number k
