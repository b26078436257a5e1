-- Records are added and dropped, and queue entries are replaced.
use Rattle.std.proofs.Common.{◌≡◌, ℕ, Bool, true, false, cond, Option, Some, None, List, [], length, refl, sym, ap, ◌∙◌, inl, inr, subst}
use Rattle.std.specs.Prelude.{nat_eq, is_some, unwrap_or}
use Rattle.std.specs.Option.{option_map}
use Rattle.std.specs.FinMap as map
use mathlib.Core.Bool.{true≢false}
use Rattle.slab.specs.Slab.{Slab, get, Updates}
use Rattle.lt_links.specs.declared.node.Node.{Node}
use Rattle.lt_links.specs.declared.node.Heads.{Heads}
use Rattle.lt_links.specs.declared.stand.Stand.{Stand}
use Rattle.lt_links.specs.declared.ids.Queue.{Queue}
use Rattle.lt_links.specs.declared.ids.QueueKind.{QueueKind}
use Rattle.lt_links.specs.declared.ids.QueueKind.TheVariants.{Writers, Readers, Reservation}
use Rattle.lt_links.specs.Ring.{has, is_in, Path}
use Rattle.lt_links.specs.Cells.{no_joint, empty_head, head_of, len_of, queue_joint, owned_of, next_of, prev_of, queued_at, owned_at, Owners}
use Rattle.lt_links.specs.Maps.{Maps, Lists, no_lists, list_of, has_record, IsEmpty, AddsRecord, DropsRecord, SetsStand, queue, number_at}
use Rattle.lt_links.specs.View.{maps_of, queue_of, node_number, stand_of, Links}
use Rattle.lt_links.proofs.Rings.{same_or_apart}
use Rattle.lt_links.proofs.Joints.{same_queue, IsFamily-kept}
use Rattle.lt_links.proofs.Views.{queue_is, stand_is}
use Rattle.lt_links.proofs.Steps.{Are-links, same_number}
use Rattle.lt_links.proofs.Counts.{AreCounted}

abbrev pub no_heads : Heads
no_heads = record { writers = empty_head; readers = empty_head; reservation = empty_head }

no_head : (kind : QueueKind) → head_of (Some no_heads) kind ≡ no_joint
no_head Writers = refl
no_head Readers = refl
no_head Reservation = refl

no_len : (kind : QueueKind) → len_of (Some no_heads) kind ≡ 0
no_len Writers = refl
no_len Readers = refl
no_len Reservation = refl

-- the heads of one record are replaced, and the ends of its queues are as before
module _ (nodes : Slab Node) (heads heads' : Slab Heads) (owners : Owners) (queues : Queue → List ℕ) (numbers : ℕ → List ℕ) (links : Links nodes heads owners queues numbers) (id : ℕ) (slot : Option Heads) (writes : Updates heads heads' id slot) where
  module _ (ends : (q : Queue) → q.id ≡ id → head_of slot q.kind ≡ queued_at nodes heads q None) (there : (q : Queue) (n : ℕ) → q.id ≡ id → has n (queues q) ≡ true → is_some slot ≡ true) where
    Links-heads : Links nodes heads' owners queues numbers
    Links-heads = record {
      queues_linked = IsFamily-kept same_queue (queued_at nodes heads) (queued_at nodes heads') (λ m. queue_of (get nodes m)) (λ m. queue_of (get nodes m)) queues links.queues_linked kept (λ m. refl);
      numbers_linked = links.numbers_linked;
      heads_there = λ n q h. elim (same_or_apart q.id id) [
        | inl e ↦ ap (λ i. is_some (get heads' i)) e.0 ∙ ap is_some writes.changed ∙ there q n e.0 (links.queues_linked.housed q n h)
        | inr o ↦ ap is_some (writes.others q.id o.0) ∙ links.heads_there n q h
      ];
      owners_there = links.owners_there;
      owners_needed = links.owners_needed;
    }
      where
        kept : (q : Queue) (a : Option ℕ) → is_in (queues q) a ≡ true → queued_at nodes heads' q a ≡ queued_at nodes heads q a
        kept q (Some m) h = refl
        kept q None h = elim (same_or_apart q.id id) [
          | inl e ↦ ap (λ i. head_of (get heads' i) q.kind) e.0 ∙ ap (λ o. head_of o q.kind) writes.changed ∙ ends q e.0
          | inr o ↦ ap (λ o. head_of o q.kind) (writes.others q.id o.0)
        ]

  AreCounted-heads : AreCounted heads queues → ((q : Queue) → q.id ≡ id → len_of slot q.kind ≡ length (queues q)) → AreCounted heads' queues
  AreCounted-heads counted lens q = elim (same_or_apart q.id id) [
    | inl e ↦ ap (λ i. len_of (get heads' i) q.kind) e.0 ∙ ap (λ o. len_of o q.kind) writes.changed ∙ lens q e.0
    | inr o ↦ ap (λ o. len_of o q.kind) (writes.others q.id o.0) ∙ counted q
  ]

  records_are : (there : Bool) → is_some slot ≡ there → (i : ℕ) → is_some (get heads' i) ≡ cond (nat_eq i id) there (is_some (get heads i))
  records_are there is i = elim (same_or_apart i id) [
    | inl e ↦ rw e.1 (ap (λ j. is_some (get heads' j)) e.0 ∙ ap is_some writes.changed ∙ is)
    | inr o ↦ rw o.1 (ap is_some (writes.others i o.0))
  ]

-- a record is added
module _ (nodes : Slab Node) (heads heads' : Slab Heads) (owners : Owners) (queues : Queue → List ℕ) (numbers : ℕ → List ℕ) (links : Links nodes heads owners queues numbers) (id : ℕ) (vacant : get heads id ≡ None) (writes : Updates heads heads' id (Some no_heads)) where
  pub Links-added : Links nodes heads' owners queues numbers
  Links-added =
      Links-heads nodes heads heads' owners queues numbers links id (Some no_heads) writes
      (λ q e. no_head q.kind ∙ sym (ap (λ i. head_of (get heads i) q.kind) e ∙ ap (λ o. head_of o q.kind) vacant))
      (λ q n e h. refl)

  pub AreCounted-added : AreCounted heads queues → AreCounted heads' queues
  AreCounted-added counted =
      AreCounted-heads nodes heads heads' owners queues numbers links id (Some no_heads) writes counted
      (λ q e. no_len q.kind ∙ sym (ap (λ i. len_of (get heads i) q.kind) e ∙ ap (λ o. len_of o q.kind) vacant) ∙ counted q)

  pub AddsRecord-added : AddsRecord (maps_of nodes heads owners) (maps_of nodes heads' owners) id
  AddsRecord-added =
      Are-links nodes nodes heads heads' owners owners queues queues numbers numbers (λ q l. l) (λ k l. l) (λ m s. s) (λ i b. cond (nat_eq i id) true b) links Links-added
      (λ q. refl) (λ k. refl) (λ m. refl) (records_are nodes heads heads' owners queues numbers links id (Some no_heads) writes true refl)

-- a record is dropped
module _ (nodes : Slab Node) (heads heads' : Slab Heads) (owners : Owners) (queues : Queue → List ℕ) (numbers : ℕ → List ℕ) (links : Links nodes heads owners queues numbers) (id : ℕ) (empty : IsEmpty (maps_of nodes heads owners) id) (writes : Updates heads heads' id None) where
  none_queued : (q : Queue) → q.id ≡ id → queues q ≡ []
  none_queued q e =
      sym (queue_is nodes heads owners queues numbers links q)
      ∙ ap (λ i. queue (maps_of nodes heads owners) (record { id = i; kind = q.kind })) e
      ∙ empty q.kind

  no_ends : (q : Queue) → q.id ≡ id → queued_at nodes heads q None ≡ no_joint
  no_ends q e = λ t. record { prev = nothing_before t; next = nothing_behind t }
    where
      nothing_behind : (queued_at nodes heads q None).next ≡ None
      nothing_behind = subst (Path (next_of (queued_at nodes heads) q) None) (none_queued q e) (links.queues_linked.rings q).path

      nothing_before : (queued_at nodes heads q None).prev ≡ None
      nothing_before = ap (prev_of (queued_at nodes heads) q) (sym nothing_behind) ∙ (links.queues_linked.rings q).back None refl

  pub Links-dropped : Links nodes heads' owners queues numbers
  Links-dropped =
      Links-heads nodes heads heads' owners queues numbers links id None writes
      (λ q e. sym (no_ends q e))
      (λ q n e h. absurd (true≢false (sym h ∙ ap (has n) (none_queued q e))))

  pub AreCounted-dropped : AreCounted heads queues → AreCounted heads' queues
  AreCounted-dropped counted =
      AreCounted-heads nodes heads heads' owners queues numbers links id None writes counted
      (λ q e. ap length (sym (none_queued q e)))

  pub DropsRecord-dropped : DropsRecord (maps_of nodes heads owners) (maps_of nodes heads' owners) id
  DropsRecord-dropped =
      Are-links nodes nodes heads heads' owners owners queues queues numbers numbers (λ q l. l) (λ k l. l) (λ m s. s) (λ i b. cond (nat_eq i id) false b) links Links-dropped
      (λ q. refl) (λ k. refl) (λ m. refl) (records_are nodes heads heads' owners queues numbers links id None writes false refl)

-- the queue entry at a node is replaced by another of the same number
module _ (nodes nodes' : Slab Node) (heads : Slab Heads) (owners : Owners) (queues : Queue → List ℕ) (numbers : ℕ → List ℕ) (links : Links nodes heads owners queues numbers) (n : ℕ) (d : Node) (s : Stand) (at : get nodes n ≡ Some d) (same : s.number ≡ d.stand.number) (writes : Updates nodes nodes' n (Some (record d { stand = s }))) where
  rest_same : {X : Type 0} (f : Option Node → X) → f (Some (record d { stand = s })) ≡ f (Some d) → (m : ℕ) → f (get nodes' m) ≡ f (get nodes m)
  rest_same f here m = elim (same_or_apart m n) [
    | inl e ↦ ap (λ i. f (get nodes' i)) e.0 ∙ ap f writes.changed ∙ here ∙ ap f (sym at) ∙ ap (λ i. f (get nodes i)) (sym e.0)
    | inr o ↦ ap f (writes.others m o.0)
  ]

  pub Links-set : Links nodes' heads owners queues numbers
  Links-set = record {
    queues_linked = IsFamily-kept same_queue (queued_at nodes heads) (queued_at nodes' heads) (λ m. queue_of (get nodes m)) (λ m. queue_of (get nodes' m)) queues links.queues_linked queued_same (rest_same queue_of refl);
    numbers_linked = IsFamily-kept same_number (owned_at nodes owners) (owned_at nodes' owners) (λ m. node_number (get nodes m)) (λ m. node_number (get nodes' m)) numbers links.numbers_linked owned_same (rest_same node_number (ap Some same));
    heads_there = λ m q h. links.heads_there m q (sym (rest_same queue_of refl m) ∙ h);
    owners_there = λ m k h. links.owners_there m k (sym (rest_same node_number (ap Some same) m) ∙ h);
    owners_needed = links.owners_needed;
  }
    where
      queued_same : (q : Queue) (a : Option ℕ) → is_in (queues q) a ≡ true → queued_at nodes' heads q a ≡ queued_at nodes heads q a
      queued_same q None h = refl
      queued_same q (Some m) h = rest_same queue_joint refl m

      owned_same : (k : ℕ) (a : Option ℕ) → is_in (numbers k) a ≡ true → owned_at nodes' owners k a ≡ owned_at nodes owners k a
      owned_same k None h = refl
      owned_same k (Some m) h = rest_same owned_of refl m

  pub SetsStand-set : SetsStand (maps_of nodes heads owners) (maps_of nodes' heads owners) n s
  SetsStand-set =
      Are-links nodes nodes' heads heads owners owners queues queues numbers numbers (λ q l. l) (λ k l. l) (λ m o. cond (nat_eq m n) (Some s) o) (λ i b. b) links Links-set
      (λ q. refl) (λ k. refl)
      (λ m. elim (same_or_apart m n) [
        | inl e ↦ rw e.1 (ap (λ i. stand_of (get nodes' i)) e.0 ∙ ap stand_of writes.changed)
        | inr o ↦ rw o.1 (ap stand_of (writes.others m o.0))
      ])
      (λ id. refl)

-- The links depend only on the slots of the heads.
pub Links-head_slots : (nodes : Slab Node) (heads heads' : Slab Heads) (owners : Owners) (queues : Queue → List ℕ) (numbers : ℕ → List ℕ) → heads'.slots ≡ heads.slots → Links nodes heads owners queues numbers → Links nodes heads' owners queues numbers
Links-head_slots nodes heads heads' owners queues numbers e links =
    subst (λ (l : List (Option Heads)). Links nodes (record heads' { slots = l }) owners queues numbers) (sym e)
    (record { queues_linked = links.queues_linked; numbers_linked = links.numbers_linked; heads_there = links.heads_there; owners_there = links.owners_there; owners_needed = links.owners_needed })

-- The maps depend only on the slots of the heads.
pub maps-head_slots : (nodes : Slab Node) (heads heads' : Slab Heads) (owners : Owners) → heads'.slots ≡ heads.slots → maps_of nodes heads' owners ≡ maps_of nodes heads owners
maps-head_slots nodes heads heads' owners e = λ t. maps_of nodes (record heads' { slots = e t }) owners

-- a new record is empty
pub IsEmpty-added : (old new : Maps) (id : ℕ) → has_record old id ≡ false → AddsRecord old new id → IsEmpty new id
IsEmpty-added old new id absent adds kind = adds.queues_are (record { id = id; kind = kind }) ∙ by_case (map.get old.records id) absent kind
  where
    by_case : (o : Option Lists) → is_some o ≡ false → (kind : QueueKind) → list_of (unwrap_or o no_lists) kind ≡ []
    by_case None e Writers = refl
    by_case None e Readers = refl
    by_case None e Reservation = refl
    by_case (Some l) e kind = absurd (true≢false e)

module _ (nodes : Slab Node) (heads : Slab Heads) (owners : Owners) (n number : ℕ) (at : number_at (maps_of nodes heads owners) n ≡ Some number) where
  pub number_there : is_some (get nodes n) ≡ true
  number_there = by_case (get nodes n) (sym (ap (option_map (λ (s : Stand). s.number)) (stand_is nodes heads owners n)) ∙ at)
    where
      by_case : (o : Option Node) → option_map (λ (s : Stand). s.number) (stand_of o) ≡ Some number → is_some o ≡ true
      by_case None e = absurd (cc)
      by_case (Some d) e = refl

  pub number_same : (d : Node) → get nodes n ≡ Some d → number ≡ d.stand.number
  number_same d there =
      let e : Some d.stand.number ≡ Some number = sym (ap (λ o. option_map (λ (s : Stand). s.number) (stand_of o)) there) ∙ sym (ap (option_map (λ (s : Stand). s.number)) (stand_is nodes heads owners n)) ∙ at in
      cc
