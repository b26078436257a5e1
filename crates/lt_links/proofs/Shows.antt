-- What the links show about the maps.
use Rattle.std.proofs.Common.{◌≡◌, ℕ, true, Option, Some, None, List, [], ◌∷◌, ◌++◌, length, refl, sym, ap, ◌∙◌, subst, get_or, unwrap_or}
use Rattle.std.specs.Map.{lookup}
use Rattle.std.specs.Prelude.{is_some, nat_eq, slice_get, IfSome}
use Rattle.slab.specs.Slab.{Slab, get}
use Rattle.lt_links.specs.declared.node.Joint.{Joint}
use Rattle.lt_links.specs.declared.node.Node.{Node}
use Rattle.lt_links.specs.declared.node.Heads.{Heads}
use Rattle.lt_links.specs.declared.stand.Stand.{Stand}
use Rattle.lt_links.specs.declared.ids.Queue.{Queue}
use Rattle.lt_links.specs.Ring.{has, is_in, Distinct, Link, Path, Ring}
use Rattle.lt_links.specs.Cells.{next_of, prev_of, queue_joint, owned_of, queued_at, owned_at, Owners, head_of, len_of, len_at, no_joint}
use Rattle.lt_links.specs.Maps.{Maps, queue, owned, HasNode, IsSound}
use Rattle.lt_links.specs.View.{maps_of, queue_of, node_number, stand_of, Links, IsLinked}
use Rattle.lt_links.proofs.Views.{stand_is, record_is, number_is, queue_is, owned_is, has_queue}
use Rattle.lt_links.proofs.Rings.{prev_behind, prev_end, next_in, prev_in}
use Rattle.lt_links.proofs.Steps.{node_there}
use Rattle.std.specs.List.{last_or}
use mathlib.Core.Bool.{true≢false}

-- the successor on a path
pub next_on_path : (next : Link) (p : Option ℕ) (l : List ℕ) → Path next p l → next p ≡ slice_get l 0
next_on_path next p [] path = path
next_on_path next p (x ∷ xs) path = path.0

pub next_behind : (next : Link) (p : Option ℕ) (xs ys : List ℕ) (n : ℕ) → Path next p (xs ++ n ∷ ys) → next (Some n) ≡ slice_get ys 0
next_behind next p [] ys n path = next_on_path next (Some n) ys path.1
next_behind next p (x ∷ xs) ys n path = next_behind next (Some x) xs ys n path.1

module _ (nodes : Slab Node) (heads : Slab Heads) (owners : Owners) (queues : Queue → List ℕ) (numbers : ℕ → List ℕ) (links : Links nodes heads owners queues numbers) where
  abbrev maps : Maps
  maps = maps_of nodes heads owners

  q_is : (q : Queue) → queue maps q ≡ queues q
  q_is q = queue_is nodes heads owners queues numbers links q

  k_is : (k : ℕ) → owned maps k ≡ numbers k
  k_is k = owned_is nodes heads owners queues numbers links k

  home : (q : Queue) (n : ℕ) → has n (queue maps q) ≡ true → queue_of (get nodes n) ≡ Some q
  home q n h = links.queues_linked.homes q n (ap (has n) (sym (q_is q)) ∙ h)

  a_queue : (n : ℕ) → HasNode maps n → (q : Queue) × (queue_of (get nodes n) ≡ Some q)
  a_queue n h = by_case (get nodes n) (node_there nodes heads owners n h)
    where
      by_case : (o : Option Node) → is_some o ≡ true → (q : Queue) × (queue_of o ≡ Some q)
      by_case None e = absurd (cc)
      by_case (Some d) e = (d.queue, refl)

  number_stands : (n k : ℕ) → node_number (get nodes n) ≡ Some k → (s : Stand) × (stand_of (get nodes n) ≡ Some s) × (s.number ≡ k)
  number_stands n k h = by_case (get nodes n) h
    where
      by_case : (o : Option Node) → node_number o ≡ Some k → (s : Stand) × (stand_of o ≡ Some s) × (s.number ≡ k)
      by_case None e = absurd (cc)
      by_case (Some d) e = (d.stand, refl, cc)

  stand_numbers : (n : ℕ) (s : Stand) → stand_of (get nodes n) ≡ Some s → node_number (get nodes n) ≡ Some s.number
  stand_numbers n s h = by_case (get nodes n) h
    where
      by_case : (o : Option Node) → stand_of o ≡ Some s → node_number o ≡ Some s.number
      by_case None e = absurd (cc)
      by_case (Some d) e = let same : d.stand ≡ s = cc in ap (λ (r : Stand). Some r.number) same

  pub IsSound-links : IsSound maps
  IsSound-links = record {
    queues_distinct = λ q. subst Distinct (sym (q_is q)) (links.queues_linked.rings q).distinct;
    one_queue = λ p q n h i. let e : Some p ≡ Some q = sym (home p n h) ∙ home q n i in cc;
    queued_there = λ q n h. ap is_some (stand_is nodes heads owners n) ∙ there (get nodes n) (has_queue nodes heads owners queues numbers links n q (home q n h));
    is_queued = λ n h.
        let q = a_queue n h in
        (q.0, ap (has n) (q_is q.0) ∙ links.queues_linked.housed q.0 n q.1, record_is nodes heads owners q.0.id ∙ links.heads_there n q.0 q.1);
    numbers_distinct = λ k. subst Distinct (sym (k_is k)) (links.numbers_linked.rings k).distinct;
    owned_number = λ k n h.
        let r = number_stands n k (links.numbers_linked.homes k n (ap (has n) (sym (k_is k)) ∙ h)) in
        (r.0, stand_is nodes heads owners n ∙ r.1, r.2);
    no_empty_number = λ k h e. links.owners_needed k (sym (number_is nodes heads owners k) ∙ h) (sym (k_is k) ∙ e);
    is_owned = λ n s h. ap (has n) (k_is s.number) ∙ links.numbers_linked.housed s.number n (stand_numbers n s (sym (stand_is nodes heads owners n) ∙ h));
  }
    where
      there : (o : Option Node) → is_some o ≡ true → is_some (stand_of o) ≡ true
      there None e = absurd (cc)
      there (Some d) e = refl

  -- the positions to which a queue or a number's list leads have a node
  queued_there : (q : Queue) (a : Option ℕ) → is_in (queues q) a ≡ true → IfSome a (HasNode maps)
  queued_there q None i = tt
  queued_there q (Some m) i = IsSound-links.queued_there q m (ap (has m) (q_is q) ∙ i)

  owned_there : (k : ℕ) (a : Option ℕ) → is_in (numbers k) a ≡ true → IfSome a (HasNode maps)
  owned_there k None i = tt
  owned_there k (Some m) i = ap is_some (IsSound-links.owned_number k m (ap (has m) (k_is k) ∙ i)).1

  pub first_there : (q : Queue) → IfSome (queued_at nodes heads q None).next (HasNode maps)
  first_there q = queued_there q _ (next_in _ _ _ (links.queues_linked.rings q) None refl)

  pub last_there : (q : Queue) → IfSome (queued_at nodes heads q None).prev (HasNode maps)
  last_there q = queued_there q _ (prev_in _ _ _ (links.queues_linked.rings q) None refl)

  pub owner_first_there : (k : ℕ) → IfSome (owned_at nodes owners k None).next (HasNode maps)
  owner_first_there k = owned_there k _ (next_in _ _ _ (links.numbers_linked.rings k) None refl)

  module _ (n : ℕ) (d : Node) (at : get nodes n ≡ Some d) where
    in_queue : has n (queues d.queue) ≡ true
    in_queue = links.queues_linked.housed d.queue n (ap queue_of at)

    pub next_there : IfSome d.queued.next (HasNode maps)
    next_there = subst (λ (j : Joint). IfSome j.next (HasNode maps)) (ap queue_joint at) (queued_there d.queue _ (next_in _ _ _ (links.queues_linked.rings d.queue) (Some n) in_queue))

    pub prev_there : IfSome d.queued.prev (HasNode maps)
    prev_there = subst (λ (j : Joint). IfSome j.prev (HasNode maps)) (ap queue_joint at) (queued_there d.queue _ (prev_in _ _ _ (links.queues_linked.rings d.queue) (Some n) in_queue))

    pub owner_next_there : IfSome d.owned.next (HasNode maps)
    owner_next_there = subst (λ (j : Joint). IfSome j.next (HasNode maps)) (ap owned_of at) (owned_there d.stand.number _ (next_in _ _ _ (links.numbers_linked.rings d.stand.number) (Some n) (links.numbers_linked.housed d.stand.number n (ap node_number at))))

  -- a node's neighbor in its queue
  pub next_of_node : (n : ℕ) (d : Node) → get nodes n ≡ Some d → (q : Queue) (xs ys : List ℕ) → queue maps q ≡ xs ++ n ∷ ys → d.queued.next ≡ slice_get ys 0
  next_of_node n d at q xs ys e =
      ap (λ o. (queue_joint o).next) (sym at)
      ∙ next_behind (next_of (queued_at nodes heads) q) None xs ys n
      (subst (λ l. Path (next_of (queued_at nodes heads) q) None l) (sym (q_is q) ∙ e) (links.queues_linked.rings q).path)

  pub prev_of_node : (n : ℕ) (d : Node) → get nodes n ≡ Some d → (q : Queue) (xs ys : List ℕ) → queue maps q ≡ xs ++ n ∷ ys → d.queued.prev ≡ last_or None xs
  prev_of_node n d at q xs ys e =
      ap (λ o. (queue_joint o).prev) (sym at)
      ∙ prev_behind (next_of (queued_at nodes heads) q) (prev_of (queued_at nodes heads) q) xs ys n
      (subst (Ring (next_of (queued_at nodes heads) q) (prev_of (queued_at nodes heads) q)) (sym (q_is q) ∙ e) (links.queues_linked.rings q))

  pub last_is : (q : Queue) → (queued_at nodes heads q None).prev ≡ last_or None (queue maps q)
  last_is q = prev_end (next_of (queued_at nodes heads) q) (prev_of (queued_at nodes heads) q) (queues q) (links.queues_linked.rings q) ∙ ap (last_or None) (sym (q_is q))

  pub owner_next_of_node : (n : ℕ) (d : Node) → get nodes n ≡ Some d → (k : ℕ) (xs ys : List ℕ) → owned maps k ≡ xs ++ n ∷ ys → d.owned.next ≡ slice_get ys 0
  owner_next_of_node n d at k xs ys e =
      ap (λ o. (owned_of o).next) (sym at)
      ∙ next_behind (next_of (owned_at nodes owners) k) None xs ys n
      (subst (λ l. Path (next_of (owned_at nodes owners) k) None l) (sym (k_is k) ∙ e) (links.numbers_linked.rings k).path)

  pub queue_of_node : (n : ℕ) (d : Node) → get nodes n ≡ Some d → has n (queue maps d.queue) ≡ true
  queue_of_node n d at = ap (has n) (q_is d.queue) ∙ links.queues_linked.housed d.queue n (ap queue_of at)

  pub first_is : (q : Queue) → (queued_at nodes heads q None).next ≡ slice_get (queue maps q) 0
  first_is q = next_on_path (next_of (queued_at nodes heads) q) None (queues q) (links.queues_linked.rings q).path ∙ ap (λ l. slice_get l 0) (sym (q_is q))

  pub len_is : (q : Queue) → len_at heads q ≡ length (queues q) → len_at heads q ≡ length (queue maps q)
  len_is q counted = counted ∙ ap length (sym (q_is q))

  pub owner_first_is : (k : ℕ) → (owned_at nodes owners k None).next ≡ slice_get (owned maps k) 0
  owner_first_is k = next_on_path (next_of (owned_at nodes owners) k) None (numbers k) (links.numbers_linked.rings k).path ∙ ap (λ l. slice_get l 0) (sym (k_is k))

-- if there are no nodes, each list is empty
pub IsLinked-none : (nodes : Slab Node) (heads : Slab Heads) (owners : Owners) → nodes.slots ≡ [] → heads.slots ≡ [] → owners.entries ≡ [] → IsLinked nodes heads owners
IsLinked-none nodes heads owners n h o =
    record {
      queues = λ q. [];
      numbers = λ k. [];
      links = record {
        queues_linked = record {
          rings = λ q. empty_ring _ _ (no_head q) (no_head' q);
          homes = λ q m e. absurd (cc);
          housed = λ q m e. absurd (no_node m q e);
        };
        numbers_linked = record {
          rings = λ k. empty_ring _ _ (ap (λ j. j.next) (no_owner k)) (ap (λ j. j.prev) (no_owner k));
          homes = λ k m e. absurd (cc);
          housed = λ k m e. absurd (no_number m k e);
        };
        heads_there = λ m q e. absurd (no_node m q e);
        owners_there = λ m k e. absurd (no_number m k e);
        owners_needed = λ k e. absurd (true≢false (sym e ∙ ap (λ es. is_some (lookup (nat_eq k) es)) o));
      };
      lens = λ q. ap (λ l. len_of (get_or l q.id None) q.kind) h;
    }
  where
    no_slot : (m : ℕ) → get nodes m ≡ None
    no_slot m = ap (λ l. get_or l m None) n

    no_node : (m : ℕ) (q : Queue) → queue_of (get nodes m) ≡ Some q → ⊥
    no_node m q e = let f : None ≡ Some q = sym (ap queue_of (no_slot m)) ∙ e in cc

    no_number : (m k : ℕ) → node_number (get nodes m) ≡ Some k → ⊥
    no_number m k e = let f : None ≡ Some k = sym (ap node_number (no_slot m)) ∙ e in cc

    no_head : (q : Queue) → (queued_at nodes heads q None).next ≡ None
    no_head q = ap (λ l. (head_of (get_or l q.id None) q.kind).next) h

    no_head' : (q : Queue) → (queued_at nodes heads q None).prev ≡ None
    no_head' q = ap (λ l. (head_of (get_or l q.id None) q.kind).prev) h

    no_owner : (k : ℕ) → owned_at nodes owners k None ≡ no_joint
    no_owner k = ap (λ es. unwrap_or (lookup (nat_eq k) es) no_joint) o

    empty_ring : (next prev : Link) → next None ≡ None → prev None ≡ None → Ring next prev []
    empty_ring next prev a b = record { path = a; back = λ x i. by_case x i; distinct = tt }
      where
        by_case : (x : Option ℕ) → is_in [] x ≡ true → prev (next x) ≡ x
        by_case None i = ap prev a ∙ b
        by_case (Some m) i = absurd (cc)
