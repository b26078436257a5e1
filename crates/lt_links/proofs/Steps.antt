use Rattle.std.proofs.Common.{◌≡◌, ◌≢◌, ◌⊎◌, ℕ, Bool, true, false, cond, Option, Some, None, List, [], ◌∷◌, refl, sym, ap, ◌∙◌, inl, inr, subst}
use Rattle.std.specs.Prelude.{nat_eq, is_some}
use mathlib.Core.Bool.{true≢false}
use Rattle.slab.specs.Slab.{Slab, get, Updates}
use Rattle.lt_links.specs.declared.node.Joint.{Joint}
use Rattle.lt_links.specs.declared.node.Node.{Node}
use Rattle.lt_links.specs.declared.node.Heads.{Heads}
use Rattle.lt_links.specs.declared.stand.Stand.{Stand}
use Rattle.lt_links.specs.declared.ids.Queue.{Queue}
use Rattle.lt_links.specs.declared.ids.QueueKind.{QueueKind}
use Rattle.lt_links.specs.declared.ids.QueueKind.TheVariants.{Writers, Readers, Reservation}
use Rattle.lt_links.specs.Ring.{has, is_in, without}
use Rattle.lt_links.specs.Cells.{queue_joint, owned_of, unqueued, unowned, next_of, prev_of, queued_at, owned_at, Owners, ends_of, JoinsIn, IsFamily, JoinsQueued, LinksQueued, UnlinksOwned, HasQueued, HasOwned}
use Rattle.lt_links.specs.Maps.{queue, owned, stand, has_record, HasNode, Are, Removes, MovesFront, is_queue, is_kind}
use Rattle.lt_links.specs.View.{maps_of, queue_of, node_number, stand_of, Links}
use Rattle.lt_links.proofs.Rings.{same_or_apart, is_itself, alone, not_alone, without_absent, has-without, prev_in, next_in}
use Rattle.lt_links.proofs.Joints.{same_queue, same_parts, IsFamily-without, IsFamily-put_after, IsFamily-kept}
use Rattle.lt_links.proofs.Views.{stand_is, record_is, queue_is, owned_is, has_queue, has_number}

-- The fields of a node do not depend on its neighbors, if these are left out.
pub owned_of-unqueued : (x : Option Node) → owned_of (unqueued x) ≡ owned_of x
owned_of-unqueued None = refl
owned_of-unqueued (Some d) = refl

pub queue_of-unqueued : (x : Option Node) → queue_of (unqueued x) ≡ queue_of x
queue_of-unqueued None = refl
queue_of-unqueued (Some d) = refl

pub node_number-unqueued : (x : Option Node) → node_number (unqueued x) ≡ node_number x
node_number-unqueued None = refl
node_number-unqueued (Some d) = refl

pub stand_of-unqueued : (x : Option Node) → stand_of (unqueued x) ≡ stand_of x
stand_of-unqueued None = refl
stand_of-unqueued (Some d) = refl

pub is_some-unqueued : (x : Option Node) → is_some (unqueued x) ≡ is_some x
is_some-unqueued None = refl
is_some-unqueued (Some d) = refl

pub queue_joint-unowned : (x : Option Node) → queue_joint (unowned x) ≡ queue_joint x
queue_joint-unowned None = refl
queue_joint-unowned (Some d) = refl

pub queue_of-unowned : (x : Option Node) → queue_of (unowned x) ≡ queue_of x
queue_of-unowned None = refl
queue_of-unowned (Some d) = refl

pub node_number-unowned : (x : Option Node) → node_number (unowned x) ≡ node_number x
node_number-unowned None = refl
node_number-unowned (Some d) = refl

pub stand_of-unowned : (x : Option Node) → stand_of (unowned x) ≡ stand_of x
stand_of-unowned None = refl
stand_of-unowned (Some d) = refl

-- what does not depend on a node's neighbors in its queue
module _ (o o' : Option Node) (same : unqueued o' ≡ unqueued o) where
  pub over : {X : Type 0} (f : Option Node → X) → ((x : Option Node) → f (unqueued x) ≡ f x) → f o' ≡ f o
  over f through = sym (through o') ∙ ap f same ∙ through o

  pub q_owned : owned_of o' ≡ owned_of o
  q_owned = over owned_of owned_of-unqueued

  pub q_queue : queue_of o' ≡ queue_of o
  q_queue = over queue_of queue_of-unqueued

  pub q_number : node_number o' ≡ node_number o
  q_number = over node_number node_number-unqueued

  pub q_stand : stand_of o' ≡ stand_of o
  q_stand = over stand_of stand_of-unqueued

-- what does not depend on a node's neighbors in its number's list
module _ (o o' : Option Node) (same : unowned o' ≡ unowned o) where
  pub under : {X : Type 0} (f : Option Node → X) → ((x : Option Node) → f (unowned x) ≡ f x) → f o' ≡ f o
  under f through = sym (through o') ∙ ap f same ∙ through o

  pub o_queued : queue_joint o' ≡ queue_joint o
  o_queued = under queue_joint queue_joint-unowned

  pub o_queue : queue_of o' ≡ queue_of o
  o_queue = under queue_of queue_of-unowned

  pub o_number : node_number o' ≡ node_number o
  o_number = under node_number node_number-unowned

  pub o_stand : stand_of o' ≡ stand_of o
  o_stand = under stand_of stand_of-unowned

-- The three maps of new fields, if their lists and queue entries are known.
pub Are-links : (nodes nodes' : Slab Node) (heads heads' : Slab Heads) (owners owners' : Owners) (queues queues' : Queue → List ℕ) (numbers numbers' : ℕ → List ℕ) (change : Queue → List ℕ → List ℕ) (change' : ℕ → List ℕ → List ℕ) (stands : ℕ → Option Stand → Option Stand) (records : ℕ → Bool → Bool) → Links nodes heads owners queues numbers → Links nodes' heads' owners' queues' numbers' → ((q : Queue) → queues' q ≡ change q (queues q)) → ((k : ℕ) → numbers' k ≡ change' k (numbers k)) → ((n : ℕ) → stand_of (get nodes' n) ≡ stands n (stand_of (get nodes n))) → ((id : ℕ) → is_some (get heads' id) ≡ records id (is_some (get heads id))) → Are (maps_of nodes' heads' owners') (λ q. change q (queue (maps_of nodes heads owners) q)) (λ k. change' k (owned (maps_of nodes heads owners) k)) (λ n. stands n (stand (maps_of nodes heads owners) n)) (λ id. records id (has_record (maps_of nodes heads owners) id))
Are-links nodes nodes' heads heads' owners owners' queues queues' numbers numbers' change change' stands records links links' qs ns ss hs =
    record {
      queues_are = λ q. queue_is nodes' heads' owners' queues' numbers' links' q ∙ qs q ∙ ap (change q) (sym (queue_is nodes heads owners queues numbers links q));
      numbers_are = λ k. owned_is nodes' heads' owners' queues' numbers' links' k ∙ ns k ∙ ap (change' k) (sym (owned_is nodes heads owners queues numbers links k));
      stands_are = λ n. stand_is nodes' heads' owners' n ∙ ss n ∙ ap (stands n) (sym (stand_is nodes heads owners n));
      records_are = λ id. record_is nodes' heads' owners' id ∙ hs id ∙ ap (records id) (sym (record_is nodes heads owners id));
    }

pub none≢some : {X : Type 0} (x : X) → None ≢ Some x
none≢some x = λ e. cc

out : (m n : ℕ) (l : List ℕ) → has m (without n l) ≡ true → m ≢ n
out m n l h = elim (same_or_apart m n) [
  | inl s ↦ absurd (true≢false (sym (rw (has-without m n l, s.1) at h)))
  | inr o ↦ o.0
]

-- a node leaves its queue and its number's list, and then the slab
module _ (nodes nodes1 nodes2 nodes3 : Slab Node) (heads heads1 : Slab Heads) (owners owners2 : Owners) (queues : Queue → List ℕ) (numbers : ℕ → List ℕ) (n : ℕ) (d : Node) (links : Links nodes heads owners queues numbers) (at : get nodes n ≡ Some d) (one : JoinsQueued nodes heads nodes1 heads1 d.queue d.queued.prev d.queued.next) (two : UnlinksOwned nodes1 owners nodes2 owners2 d.stand.number d.owned.prev d.owned.next) (gone : Updates nodes2 nodes3 n None) where
  rest : (m : ℕ) → m ≢ n → get nodes3 m ≡ get nodes2 m
  rest m off = gone.others m off

  home : (m : ℕ) → m ≢ n → queue_of (get nodes3 m) ≡ queue_of (get nodes m)
  home m off = ap queue_of (rest m off) ∙ o_queue (get nodes1 m) (get nodes2 m) (two.nodes_kept m) ∙ q_queue (get nodes m) (get nodes1 m) (one.keeps.nodes_kept m)

  number : (m : ℕ) → m ≢ n → node_number (get nodes3 m) ≡ node_number (get nodes m)
  number m off = ap node_number (rest m off) ∙ o_number (get nodes1 m) (get nodes2 m) (two.nodes_kept m) ∙ q_number (get nodes m) (get nodes1 m) (one.keeps.nodes_kept m)

  stands : (m : ℕ) → m ≢ n → stand_of (get nodes3 m) ≡ stand_of (get nodes m)
  stands m off = ap stand_of (rest m off) ∙ o_stand (get nodes1 m) (get nodes2 m) (two.nodes_kept m) ∙ q_stand (get nodes m) (get nodes1 m) (one.keeps.nodes_kept m)

  pub Links-removed : Links nodes3 heads1 owners2 (λ q. without n (queues q)) (λ k. without n (numbers k))
  Links-removed =
      record {
        queues_linked = IsFamily-kept same_queue (queued_at nodes1 heads1) (queued_at nodes3 heads1) (λ m. queue_of (get nodes3 m)) (λ m. queue_of (get nodes3 m)) (λ q. without n (queues q))
            (IsFamily-without same_queue (queued_at nodes heads) (queued_at nodes1 heads1) (λ m. queue_of (get nodes m)) (λ m. queue_of (get nodes3 m)) queues d.queue n links.queues_linked (ap queue_of at) (subst (λ (j : Joint). JoinsIn (queued_at nodes heads) (queued_at nodes1 heads1) d.queue j.prev j.next) (sym (ap queue_joint at)) one.joins) (ap queue_of gone.changed) home)
            queued_kept (λ m. refl);
        numbers_linked = IsFamily-kept same_number (owned_at nodes2 owners2) (owned_at nodes3 owners2) (λ m. node_number (get nodes3 m)) (λ m. node_number (get nodes3 m)) (λ k. without n (numbers k))
            (IsFamily-without same_number (owned_at nodes1 owners) (owned_at nodes2 owners2) (λ m. node_number (get nodes m)) (λ m. node_number (get nodes3 m)) numbers d.stand.number n (IsFamily-kept same_number (owned_at nodes owners) (owned_at nodes1 owners) (λ m. node_number (get nodes m)) (λ m. node_number (get nodes m)) numbers links.numbers_linked owned_first (λ m. refl)) (ap node_number at) (subst (λ (j : Joint). JoinsIn (owned_at nodes1 owners) (owned_at nodes2 owners2) d.stand.number j.prev j.next) (sym owned_there) two.joins) (ap node_number gone.changed) number)
            owned_kept (λ m. refl);
        heads_there = λ m q h. one.keeps.heads_kept q.id ∙ links.heads_there m q (sym (home m (queue_off m q h)) ∙ h);
        owners_there = λ m k h. two.owners_kept k (not_last m k h) ∙ links.owners_there m k (sym (number m (number_off m k h)) ∙ h);
        owners_needed = λ k h. needed k h;
      }
    where
      same_number : (i k : ℕ) → (i ≡ k) ⊎ (i ≢ k)
      same_number i k = elim (same_or_apart i k) [ inl s ↦ inl s.0 | inr o ↦ inr o.0 ]

      owned_there : owned_of (get nodes1 n) ≡ d.owned
      owned_there = q_owned (get nodes n) (get nodes1 n) (one.keeps.nodes_kept n) ∙ ap owned_of at

      queue_off : (m : ℕ) (q : Queue) → queue_of (get nodes3 m) ≡ Some q → m ≢ n
      queue_off m q h e = none≢some q (sym (ap (λ i. queue_of (get nodes3 i)) e ∙ ap queue_of gone.changed) ∙ h)

      number_off : (m k : ℕ) → node_number (get nodes3 m) ≡ Some k → m ≢ n
      number_off m k h e = none≢some k (sym (ap (λ i. node_number (get nodes3 i)) e ∙ ap node_number gone.changed) ∙ h)

      numbered : (m k : ℕ) → node_number (get nodes3 m) ≡ Some k → has m (numbers k) ≡ true
      numbered m k h = links.numbers_linked.housed k m (sym (number m (number_off m k h)) ∙ h)

      not_last : (m k : ℕ) → node_number (get nodes3 m) ≡ Some k → (k ≡ d.stand.number) × (d.owned.prev ≡ None) × (d.owned.next ≡ None) → ⊥
      not_last m k h last =
          number_off m k h (alone (next_of (owned_at nodes owners) d.stand.number) (prev_of (owned_at nodes owners) d.stand.number) (numbers d.stand.number) n m
          (links.numbers_linked.rings d.stand.number) (links.numbers_linked.housed d.stand.number n (ap node_number at)) (ap (λ o. (owned_of o).prev) at ∙ last.1) (ap (λ o. (owned_of o).next) at ∙ last.2)
          (ap (λ i. has m (numbers i)) (sym last.0) ∙ numbered m k h))

      elsewhere : (k : ℕ) → k ≢ d.stand.number → has n (numbers k) ≡ false
      elsewhere k off = elim (has n (numbers k)) as (λ b. has n (numbers k) ≡ b → b ≡ false) [
        | true ↦ λ e.
            let same : Some k ≡ Some d.stand.number = sym (links.numbers_linked.homes k n e) ∙ ap node_number at in
            absurd (off (cc))
        | false ↦ λ e. refl
      ] refl

      needed : (k : ℕ) → is_some (ends_of owners2 k) ≡ true → without n (numbers k) ≢ []
      needed k h = elim (same_or_apart k d.stand.number) [
        | inl e ↦ subst (λ i. without n (numbers i) ≢ []) (sym e.0)
            (not_alone (next_of (owned_at nodes owners) d.stand.number) (prev_of (owned_at nodes owners) d.stand.number) (numbers d.stand.number) n
            (links.numbers_linked.rings d.stand.number) (links.numbers_linked.housed d.stand.number n (ap node_number at))
            (λ p s. true≢false (sym (ap (λ i. is_some (ends_of owners2 i)) (sym e.0) ∙ h) ∙ two.gone (ap (λ o. (owned_of o).prev) (sym at) ∙ p) (ap (λ o. (owned_of o).next) (sym at) ∙ s))))
        | inr o ↦ λ e. links.owners_needed k (sym (two.owners_kept k (λ last. o.0 last.0)) ∙ h) (sym (without_absent n (numbers k) (elsewhere k o.0)) ∙ e)
      ]

      queued_kept : (q : Queue) (a : Option ℕ) → is_in (without n (queues q)) a ≡ true → queued_at nodes3 heads1 q a ≡ queued_at nodes1 heads1 q a
      queued_kept q None h = refl
      queued_kept q (Some m) h = ap queue_joint (rest m (out m n (queues q) h)) ∙ o_queued (get nodes1 m) (get nodes2 m) (two.nodes_kept m)

      owned_kept : (k : ℕ) (a : Option ℕ) → is_in (without n (numbers k)) a ≡ true → owned_at nodes3 owners2 k a ≡ owned_at nodes2 owners2 k a
      owned_kept k None h = refl
      owned_kept k (Some m) h = ap owned_of (rest m (out m n (numbers k) h))

      owned_first : (k : ℕ) (a : Option ℕ) → is_in (numbers k) a ≡ true → owned_at nodes1 owners k a ≡ owned_at nodes owners k a
      owned_first k None h = refl
      owned_first k (Some m) h = q_owned (get nodes m) (get nodes1 m) (one.keeps.nodes_kept m)

  pub Removes-removed : Removes (maps_of nodes heads owners) (maps_of nodes3 heads1 owners2) n
  Removes-removed =
      Are-links nodes nodes3 heads heads1 owners owners2 queues (λ q. without n (queues q)) numbers (λ k. without n (numbers k))
      (λ q l. without n l) (λ k l. without n l) (λ m s. cond (nat_eq m n) None s) (λ id b. b) links Links-removed (λ q. refl) (λ k. refl)
      (λ m. elim (same_or_apart m n) [
        | inl s ↦ ap (λ i. stand_of (get nodes3 i)) s.0 ∙ ap stand_of gone.changed ∙ rw s.1 refl
        | inr o ↦ rw o.1 (stands m o.0)
      ])
      one.keeps.heads_kept

-- a node's neighbors exist
module _ (nodes : Slab Node) (heads : Slab Heads) (owners : Owners) (queues : Queue → List ℕ) (numbers : ℕ → List ℕ) (links : Links nodes heads owners queues numbers) where
  pub HasQueued-in : (q : Queue) → is_some (get heads q.id) ≡ true → (a : Option ℕ) → is_in (queues q) a ≡ true → HasQueued nodes heads q a
  HasQueued-in q there None h = there
  HasQueued-in q there (Some m) h = has_queue nodes heads owners queues numbers links m q (links.queues_linked.homes q m h)

  pub HasOwned-in : (k : ℕ) → is_some (ends_of owners k) ≡ true → (a : Option ℕ) → is_in (numbers k) a ≡ true → HasOwned nodes owners k a
  HasOwned-in k there None h = there
  HasOwned-in k there (Some m) h = has_number nodes heads owners queues numbers links m k (links.numbers_linked.homes k m h)

  module _ (n : ℕ) (d : Node) (at : get nodes n ≡ Some d) where
    q_in : has n (queues d.queue) ≡ true
    q_in = links.queues_linked.housed d.queue n (ap queue_of at)

    k_in : has n (numbers d.stand.number) ≡ true
    k_in = links.numbers_linked.housed d.stand.number n (ap node_number at)

    pub queued_prev_there : HasQueued nodes heads d.queue d.queued.prev
    queued_prev_there =
        subst (λ (j : Joint). HasQueued nodes heads d.queue j.prev) (ap queue_joint at)
        (HasQueued-in d.queue (links.heads_there n d.queue (ap queue_of at)) _ (prev_in _ _ _ (links.queues_linked.rings d.queue) (Some n) q_in))

    pub queued_next_there : HasQueued nodes heads d.queue d.queued.next
    queued_next_there =
        subst (λ (j : Joint). HasQueued nodes heads d.queue j.next) (ap queue_joint at)
        (HasQueued-in d.queue (links.heads_there n d.queue (ap queue_of at)) _ (next_in _ _ _ (links.queues_linked.rings d.queue) (Some n) q_in))

    pub owned_prev_there : HasOwned nodes owners d.stand.number d.owned.prev
    owned_prev_there =
        subst (λ (j : Joint). HasOwned nodes owners d.stand.number j.prev) (ap owned_of at)
        (HasOwned-in d.stand.number (links.owners_there n d.stand.number (ap node_number at)) _ (prev_in _ _ _ (links.numbers_linked.rings d.stand.number) (Some n) k_in))

    pub owned_next_there : HasOwned nodes owners d.stand.number d.owned.next
    owned_next_there =
        subst (λ (j : Joint). HasOwned nodes owners d.stand.number j.next) (ap owned_of at)
        (HasOwned-in d.stand.number (links.owners_there n d.stand.number (ap node_number at)) _ (next_in _ _ _ (links.numbers_linked.rings d.stand.number) (Some n) k_in))

-- a node that exists still exists after queues are joined
pub HasOwned-queued : (nodes nodes' : Slab Node) (owners : Owners) (k : ℕ) (a : Option ℕ) → ((m : ℕ) → unqueued (get nodes' m) ≡ unqueued (get nodes m)) → HasOwned nodes owners k a → HasOwned nodes' owners k a
HasOwned-queued nodes nodes' owners k None same h = h
HasOwned-queued nodes nodes' owners k (Some m) same h = over (get nodes m) (get nodes' m) (same m) is_some is_some-unqueued ∙ h

pub node_is : (nodes : Slab Node) (heads : Slab Heads) (owners : Owners) (n : ℕ) → is_some (stand (maps_of nodes heads owners) n) ≡ is_some (get nodes n)
node_is nodes heads owners n = ap is_some (stand_is nodes heads owners n) ∙ by_case (get nodes n)
  where
    by_case : (x : Option Node) → is_some (stand_of x) ≡ is_some x
    by_case None = refl
    by_case (Some d) = refl

pub node_there : (nodes : Slab Node) (heads : Slab Heads) (owners : Owners) (n : ℕ) → HasNode (maps_of nodes heads owners) n → is_some (get nodes n) ≡ true
node_there nodes heads owners n h = sym (node_is nodes heads owners n) ∙ h

pub stand_found : (nodes : Slab Node) (heads : Slab Heads) (owners : Owners) (n : ℕ) (d : Node) → get nodes n ≡ Some d → stand (maps_of nodes heads owners) n ≡ Some d.stand
stand_found nodes heads owners n d at = stand_is nodes heads owners n ∙ ap stand_of at

-- joining changes no queue entry
pub stand_joined : (nodes nodes1 nodes2 : Slab Node) (n : ℕ) (d e : Node) → ((m : ℕ) → unqueued (get nodes1 m) ≡ unqueued (get nodes m)) → ((m : ℕ) → unowned (get nodes2 m) ≡ unowned (get nodes1 m)) → get nodes n ≡ Some d → get nodes2 n ≡ Some e → Some d.stand ≡ Some e.stand
stand_joined nodes nodes1 nodes2 n d e one two at at' = sym (ap stand_of at) ∙ sym (q_stand (get nodes n) (get nodes1 n) (one n)) ∙ sym (o_stand (get nodes1 n) (get nodes2 n) (two n)) ∙ ap stand_of at'

pub is_same : (q : Queue) → is_queue q q ≡ true
is_same q = rw (is_itself q.id) (by_case q.kind)
  where
    by_case : (k : QueueKind) → is_kind k k ≡ true
    by_case Writers = refl
    by_case Readers = refl
    by_case Reservation = refl

pub is_other : (p q : Queue) → p ≢ q → is_queue p q ≡ false
is_other p q off =
    elim (same_or_apart p.id q.id) [
      | inl s ↦ rw s.1 (by_case p.kind q.kind (λ e. off (same_parts p q s.0 e)))
      | inr o ↦ rw o.1 refl
    ]
  where
    by_case : (j k : QueueKind) → j ≢ k → is_kind j k ≡ false
    by_case Writers Writers off = absurd (off refl)
    by_case Writers Readers off = refl
    by_case Writers Reservation off = refl
    by_case Readers Writers off = refl
    by_case Readers Readers off = absurd (off refl)
    by_case Readers Reservation off = refl
    by_case Reservation Writers off = refl
    by_case Reservation Readers off = refl
    by_case Reservation Reservation off = absurd (off refl)

pub same_number : (i k : ℕ) → (i ≡ k) ⊎ (i ≢ k)
same_number i k = elim (same_or_apart i k) [ inl s ↦ inl s.0 | inr o ↦ inr o.0 ]

-- a node leaves its queue to move to the front of another
module _ (nodes nodes1 nodes2 : Slab Node) (heads heads1 : Slab Heads) (owners : Owners) (queues : Queue → List ℕ) (numbers : ℕ → List ℕ) (n : ℕ) (d e : Node) (to : Queue) (links : Links nodes heads owners queues numbers) (at : get nodes n ≡ Some d) (one : JoinsQueued nodes heads nodes1 heads1 d.queue d.queued.prev d.queued.next) (at1 : get nodes1 n ≡ Some e) (set : Updates nodes1 nodes2 n (Some (record e { queue = to }))) (there : is_some (get heads to.id) ≡ true) where
  -- in between, it is in no queue
  abbrev between : ℕ → Option Queue
  between m = cond (nat_eq m n) None (queue_of (get nodes m))

  between_family : IsFamily (queued_at nodes2 heads1) between (λ q. without n (queues q))
  between_family =
      IsFamily-kept same_queue (queued_at nodes1 heads1) (queued_at nodes2 heads1) between between (λ q. without n (queues q))
      (IsFamily-without same_queue (queued_at nodes heads) (queued_at nodes1 heads1) (λ m. queue_of (get nodes m)) between queues d.queue n links.queues_linked (ap queue_of at)
      (subst (λ (j : Joint). JoinsIn (queued_at nodes heads) (queued_at nodes1 heads1) d.queue j.prev j.next) (sym (ap queue_joint at)) one.joins)
      (rw (is_itself n) refl) (λ m off. elim (same_or_apart m n) [ inl s ↦ absurd (off s.0) | inr o ↦ rw o.1 refl ]))
      kept (λ m. refl)
    where
      kept : (q : Queue) (a : Option ℕ) → is_in (without n (queues q)) a ≡ true → queued_at nodes2 heads1 q a ≡ queued_at nodes1 heads1 q a
      kept q None h = refl
      kept q (Some m) h = ap queue_joint (set.others m (out m n (queues q) h))

  -- the previous first node exists
  pub front_there : HasQueued nodes2 heads1 to (queued_at nodes2 heads1 to None).next
  front_there = by_case _ (next_in _ _ _ (between_family.rings to) None refl)
    where
      by_case : (a : Option ℕ) → is_in (without n (queues to)) a ≡ true → HasQueued nodes2 heads1 to a
      by_case None h = one.keeps.heads_kept to.id ∙ there
      by_case (Some m) h = here (get nodes2 m) (q_queue (get nodes m) (get nodes1 m) (one.keeps.nodes_kept m)) (set.others m (out m n (queues to) h)) (between_family.homes to m h)
        where
          here : (x : Option Node) → queue_of (get nodes1 m) ≡ queue_of (get nodes m) → x ≡ get nodes1 m → cond (nat_eq m n) None (queue_of (get nodes m)) ≡ Some to → is_some x ≡ true
          here (Some x) e f g = refl
          here None e f g = elim (same_or_apart m n) [
            | inl s ↦ absurd (none≢some to (rw s.1 at g))
            | inr o ↦ absurd (none≢some to (ap queue_of f ∙ e ∙ (rw o.1 at g)))
          ]

-- a node moves from its queue to the front of another
module _ (nodes nodes1 nodes2 nodes3 : Slab Node) (heads heads1 heads3 : Slab Heads) (owners : Owners) (queues : Queue → List ℕ) (numbers : ℕ → List ℕ) (n : ℕ) (d e : Node) (to : Queue) (links : Links nodes heads owners queues numbers) (at : get nodes n ≡ Some d) (one : JoinsQueued nodes heads nodes1 heads1 d.queue d.queued.prev d.queued.next) (at1 : get nodes1 n ≡ Some e) (set : Updates nodes1 nodes2 n (Some (record e { queue = to }))) (first : Option ℕ) (first_is : first ≡ (queued_at nodes2 heads1 to None).next) (two : LinksQueued nodes2 heads1 nodes3 heads3 to None first n) (there : is_some (get heads to.id) ≡ true) where
  -- what does not depend on queues stays
  moved_same : {X : Type 0} (f : Option Node → X) → ((x : Option Node) → f (unqueued x) ≡ f x) → f (Some (record e { queue = to })) ≡ f (Some e) → (m : ℕ) → f (get nodes3 m) ≡ f (get nodes m)
  moved_same f through same m =
      over (get nodes2 m) (get nodes3 m) (two.keeps.nodes_kept m) f through
      ∙ elim (same_or_apart m n) [
        | inl s ↦ ap (λ i. f (get nodes2 i)) s.0 ∙ ap f set.changed ∙ same ∙ ap f (sym at1) ∙ ap (λ i. f (get nodes1 i)) (sym s.0)
        | inr o ↦ ap f (set.others m o.0)
      ]
      ∙ over (get nodes m) (get nodes1 m) (one.keeps.nodes_kept m) f through

  new_home : (m : ℕ) → m ≢ n → queue_of (get nodes3 m) ≡ queue_of (get nodes m)
  new_home m off =
      q_queue (get nodes2 m) (get nodes3 m) (two.keeps.nodes_kept m)
      ∙ ap queue_of (set.others m off)
      ∙ q_queue (get nodes m) (get nodes1 m) (one.keeps.nodes_kept m)

  comes_home : queue_of (get nodes3 n) ≡ Some to
  comes_home =
      q_queue (get nodes2 n) (get nodes3 n) (two.keeps.nodes_kept n)
      ∙ ap queue_of set.changed

  heads_same : (id : ℕ) → is_some (get heads3 id) ≡ is_some (get heads id)
  heads_same id = two.keeps.heads_kept id ∙ one.keeps.heads_kept id

  abbrev moved_queues : Queue → List ℕ
  moved_queues q = cond (is_queue q to) (n ∷ without n (queues q)) (without n (queues q))

  pub Links-moved : Links nodes3 heads3 owners moved_queues numbers
  Links-moved =
      record {
        queues_linked = IsFamily-put_after same_queue (queued_at nodes2 heads1) (queued_at two.mid_nodes two.mid_ends) (queued_at nodes3 heads3) (between nodes nodes1 nodes2 heads heads1 owners queues numbers n d e to links at one at1 set there) (λ m. queue_of (get nodes3 m)) (λ q. without n (queues q)) moved_queues to None n
            (between_family nodes nodes1 nodes2 heads heads1 owners queues numbers n d e to links at one at1 set there) refl (rw (is_itself n) refl) two.first (subst (JoinsIn (queued_at two.mid_nodes two.mid_ends) (queued_at nodes3 heads3) to (Some n)) first_is two.second) comes_home
            (λ m off. elim (same_or_apart m n) [ inl s ↦ absurd (off s.0) | inr o ↦ new_home m off ∙ rw o.1 refl ])
            (rw (is_same to) refl) (λ q off. rw (is_other q to off) refl);
        numbers_linked = IsFamily-kept same_number (owned_at nodes owners) (owned_at nodes3 owners) (λ m. node_number (get nodes m)) (λ m. node_number (get nodes3 m)) numbers links.numbers_linked
            owned_same (moved_same node_number node_number-unqueued refl);
        heads_there = λ m q h. heads_same q.id ∙ elim (same_or_apart m n) [
          | inl s ↦
              let e : Some to ≡ Some q = sym comes_home ∙ ap (λ i. queue_of (get nodes3 i)) (sym s.0) ∙ h in
              same_there q (cc)
          | inr o ↦ links.heads_there m q (sym (new_home m o.0) ∙ h)
        ];
        owners_there = λ m k h. links.owners_there m k (sym (moved_same node_number node_number-unqueued refl m) ∙ h);
        owners_needed = links.owners_needed;
      }
    where
      owned_same : (k : ℕ) (a : Option ℕ) → is_in (numbers k) a ≡ true → owned_at nodes3 owners k a ≡ owned_at nodes owners k a
      owned_same k None h = refl
      owned_same k (Some m) h = moved_same owned_of owned_of-unqueued refl m

      same_there : (q : Queue) → to ≡ q → is_some (get heads q.id) ≡ true
      same_there q e = ap (λ (r : Queue). is_some (get heads r.id)) (sym e) ∙ there

  pub MovesFront-moved : MovesFront (maps_of nodes heads owners) (maps_of nodes3 heads3 owners) n to
  MovesFront-moved =
      Are-links nodes nodes3 heads heads3 owners owners queues moved_queues numbers numbers
      (λ q l. cond (is_queue q to) (n ∷ without n l) (without n l)) (λ k l. l) (λ m s. s) (λ id b. b) links Links-moved (λ q. refl) (λ k. refl)
      (moved_same stand_of stand_of-unqueued refl) heads_same
