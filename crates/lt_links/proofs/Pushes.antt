-- A new node comes into a queue and into its number's list.
use Rattle.std.proofs.Common.{◌≡◌, ◌≢◌, ◌⊎◌, ℕ, true, cond, Option, Some, None, List, [], ◌∷◌, ◌++◌, refl, sym, ap, ◌∙◌, inl, inr, subst, unwrap_or, map, length}
use Rattle.std.specs.FinMap.{from_entries}
use Rattle.std.specs.Map.{lookup}
use Rattle.std.specs.Prelude.{nat_eq, is_some}
use Rattle.slab.specs.Slab.{Slab, get, Updates}
use Rattle.lt_links.specs.declared.node.Node.{Node}
use Rattle.lt_links.specs.declared.node.Heads.{Heads}
use Rattle.lt_links.specs.declared.stand.Stand.{Stand}
use Rattle.lt_links.specs.declared.ids.Queue.{Queue}
use Rattle.lt_links.specs.Ring.{has, is_in, put_after}
use Rattle.lt_links.specs.declared.node.Joint.{Joint}
use Rattle.lt_links.specs.Cells.{Joints, no_joint, queue_joint, owned_of, unqueued, unowned, next_of, prev_of, queued_at, owned_at, Owners, ends_of, JoinsIn, IsFamily, LinksQueued, PushesOwner, FollowsLast, ends_with, HasQueued}
use Rattle.lt_links.specs.Maps.{PutsAfter, is_queue}
use Rattle.lt_links.specs.View.{maps_of, walk, queue_of, node_number, stand_of, Links}
use Rattle.lt_links.proofs.Rings.{same_or_apart, is_itself, prev_in, next_in, forth, put_after_last}
use Rattle.lt_links.proofs.Joints.{same_queue, IsFamily-put_after, IsFamily-kept}
use Rattle.lt_links.proofs.Views.{has_queue, has_number}
use Rattle.lt_links.proofs.Steps.{queue_of-unqueued, queue_of-unowned, node_number-unqueued, node_number-unowned, stand_of-unqueued, stand_of-unowned, queue_joint-unowned, owned_of-unqueued, is_some-unqueued, Are-links, none≢some, over, under, same_number, is_same, is_other}

-- The links depend only on the slots.
pub Links-slots : (nodes nodes' : Slab Node) (heads : Slab Heads) (owners : Owners) (queues : Queue → List ℕ) (numbers : ℕ → List ℕ) → nodes'.slots ≡ nodes.slots → Links nodes heads owners queues numbers → Links nodes' heads owners queues numbers
Links-slots nodes nodes' heads owners queues numbers e links =
    subst (λ (l : List (Option Node)). Links (record nodes' { slots = l }) heads owners queues numbers) (sym e)
    (record { queues_linked = links.queues_linked; numbers_linked = links.numbers_linked; heads_there = links.heads_there; owners_there = links.owners_there; owners_needed = links.owners_needed })

abbrev pub new_node : Stand → Queue → Node
new_node s to = record { stand = s; queue = to; queued = no_joint; owned = no_joint }

-- the node is in the slab, and has no neighbors
module _ (nodes nodes1 : Slab Node) (heads : Slab Heads) (owners : Owners) (queues : Queue → List ℕ) (numbers : ℕ → List ℕ) (n : ℕ) (s : Stand) (to : Queue) (links : Links nodes heads owners queues numbers) (vacant : get nodes n ≡ None) (put : Updates nodes nodes1 n (Some (new_node s to))) (there : is_some (get heads to.id) ≡ true) (a : Option ℕ) (a_in : is_in (queues to) a ≡ true) where
  queued_off : (q : Queue) (m : ℕ) → has m (queues q) ≡ true → m ≢ n
  queued_off q m h e = none≢some q (sym (ap (λ i. queue_of (get nodes i)) e ∙ ap queue_of vacant) ∙ links.queues_linked.homes q m h)

  owned_off : (k m : ℕ) → has m (numbers k) ≡ true → m ≢ n
  owned_off k m h e = none≢some k (sym (ap (λ i. node_number (get nodes i)) e ∙ ap node_number vacant) ∙ links.numbers_linked.homes k m h)

  in_slab : IsFamily (queued_at nodes1 heads) (λ m. queue_of (get nodes m)) queues
  in_slab = IsFamily-kept same_queue (queued_at nodes heads) (queued_at nodes1 heads) (λ m. queue_of (get nodes m)) (λ m. queue_of (get nodes m)) queues links.queues_linked kept (λ m. refl)
    where
      kept : (q : Queue) (a : Option ℕ) → is_in (queues q) a ≡ true → queued_at nodes1 heads q a ≡ queued_at nodes heads q a
      kept q None h = refl
      kept q (Some m) h = ap queue_joint (put.others m (queued_off q m h))

  queued_there : (b : Option ℕ) → is_in (queues to) b ≡ true → HasQueued nodes1 heads to b
  queued_there None h = there
  queued_there (Some m) h = ap is_some (put.others m (queued_off to m h)) ∙ has_queue nodes heads owners queues numbers links m to (links.queues_linked.homes to m h)

  pub at_there : HasQueued nodes1 heads to a
  at_there = queued_there a a_in

  pub next_there : HasQueued nodes1 heads to (queued_at nodes1 heads to a).next
  next_there = queued_there _ (next_in _ _ _ (in_slab.rings to) a a_in)

  -- it is in its queue, and its number's list ends with it
  module _ (nodes2 : Slab Node) (heads2 : Slab Heads) (owners1 : Owners) (last : Option ℕ) (opens : PushesOwner owners owners1 s.number last n) (next : Option ℕ) (next_is : next ≡ (queued_at nodes1 heads to a).next) (one : LinksQueued nodes1 heads nodes2 heads2 to a next n) where
    linked_same : {X : Type 0} (f : Option Node → X) → ((x : Option Node) → f (unqueued x) ≡ f x) → (m : ℕ) → f (get nodes2 m) ≡ f (get nodes1 m)
    linked_same f through m =
        over (get nodes1 m) (get nodes2 m) (one.keeps.nodes_kept m) f through

    in_queue : IsFamily (owned_at nodes2 owners) (λ m. node_number (get nodes m)) numbers
    in_queue = IsFamily-kept same_number (owned_at nodes owners) (owned_at nodes2 owners) (λ m. node_number (get nodes m)) (λ m. node_number (get nodes m)) numbers links.numbers_linked kept (λ m. refl)
      where
        kept : (k : ℕ) (a : Option ℕ) → is_in (numbers k) a ≡ true → owned_at nodes2 owners k a ≡ owned_at nodes owners k a
        kept k None h = refl
        kept k (Some m) h = linked_same owned_of owned_of-unqueued m ∙ ap owned_of (put.others m (owned_off k m h))

    last_in : is_in (numbers s.number) last ≡ true
    last_in = ap (is_in (numbers s.number)) opens.last_is ∙ prev_in _ _ _ (in_queue.rings s.number) None refl

    pub last_there : (l : ℕ) → last ≡ Some l → is_some (get nodes2 l) ≡ true
    last_there l e =
        let h : has l (numbers s.number) ≡ true = ap (is_in (numbers s.number)) (sym e) ∙ last_in in
        linked_same is_some is_some-unqueued l ∙ ap is_some (put.others l (owned_off s.number l h)) ∙ has_number nodes heads owners queues numbers links l s.number (links.numbers_linked.homes s.number l h)

    pub node_in : is_some (get nodes2 n) ≡ true
    node_in = linked_same is_some is_some-unqueued n ∙ ap is_some put.changed

    -- nothing follows the last node, which is a different node
    last_next : (owned_at nodes2 owners s.number last).next ≡ None
    last_next = ap (next_of (owned_at nodes2 owners) s.number) opens.last_is ∙ forth _ _ _ (in_queue.rings s.number) None refl

    last_other : last ≢ Some n
    last_other e = owned_off s.number n (ap (is_in (numbers s.number)) (sym e) ∙ last_in) refl

    new_ends : owned_at nodes2 owners1 s.number None ≡ ends_with n last (owned_at nodes2 owners s.number None)
    new_ends = ap (λ o. unwrap_or o no_joint) opens.ends

    ends_next : (b : Option ℕ) (j : Joint) → None ≢ b → (ends_with n b j).next ≡ j.next
    ends_next None j off = absurd (off refl)
    ends_next (Some l) j off = refl

    ends_prev : (b : Option ℕ) (j : Joint) → (ends_with n b j).prev ≡ Some n
    ends_prev None j = refl
    ends_prev (Some l) j = refl

    -- it is in both
    module _ (nodes3 : Slab Node) (two : FollowsLast nodes2 nodes3 last n) where
      owned_same : {X : Type 0} (f : Option Node → X) → ((x : Option Node) → f (unowned x) ≡ f x) → (m : ℕ) → f (get nodes3 m) ≡ f (get nodes2 m)
      owned_same f through m =
          under (get nodes2 m) (get nodes3 m) (two.nodes_kept m) f through

      pushed_same : {X : Type 0} (f : Option Node → X) → ((x : Option Node) → f (unqueued x) ≡ f x) → ((x : Option Node) → f (unowned x) ≡ f x) → (m : ℕ) → m ≢ n → f (get nodes3 m) ≡ f (get nodes m)
      pushed_same f through through' m off = owned_same f through' m ∙ linked_same f through m ∙ ap f (put.others m off)

      pushed_here : {X : Type 0} (f : Option Node → X) → ((x : Option Node) → f (unqueued x) ≡ f x) → ((x : Option Node) → f (unowned x) ≡ f x) → f (get nodes3 n) ≡ f (Some (new_node s to))
      pushed_here f through through' = owned_same f through' n ∙ linked_same f through n ∙ ap f put.changed

      abbrev pub pushed_queues : Queue → List ℕ
      pushed_queues q = cond (is_queue q to) (put_after a n (queues q)) (queues q)

      abbrev pub pushed_numbers : ℕ → List ℕ
      pushed_numbers k = cond (nat_eq k s.number) (numbers k ++ n ∷ []) (numbers k)

      heads_same : (id : ℕ) → is_some (get heads2 id) ≡ is_some (get heads id)
      heads_same id = one.keeps.heads_kept id

      -- in between, the ends lead to the node, but the node does not yet lead back
      abbrev between : Joints ℕ
      between k None = record (owned_at nodes2 owners k None) { next = (owned_at nodes3 owners1 k None).next }
      between k (Some m) = owned_of (get nodes3 m)

      other_ends : (k : ℕ) → k ≢ s.number → between k None ≡ owned_at nodes2 owners k None
      other_ends k off = ap (λ (o : Option Joint). record (owned_at nodes2 owners k None) { next = (unwrap_or o no_joint).next }) (opens.others k off)

      first : JoinsIn (owned_at nodes2 owners) between s.number last (Some n)
      first = record {
        here = record {
          next_here = to_node last refl;
          next_else = λ b off. next_same b off;
          prev_here = two.prev_here;
          prev_else = λ b off. prev_same b off;
        };
        elsewhere = λ k off b at. same_there k off b at;
      }
        where
          to_node : (b : Option ℕ) → last ≡ b → (between s.number b).next ≡ Some n
          to_node None e = ap (λ j. j.next) new_ends ∙ ap (λ b. (ends_with n b (owned_at nodes2 owners s.number None)).next) e
          to_node (Some l) e = two.next_here l e

          next_same : (b : Option ℕ) → b ≢ last → (between s.number b).next ≡ (owned_at nodes2 owners s.number b).next
          next_same None off = ap (λ j. j.next) new_ends ∙ ends_next last (owned_at nodes2 owners s.number None) off
          next_same (Some m) off = two.next_else m (λ e. off (sym e))

          prev_same : (b : Option ℕ) → b ≢ Some n → (between s.number b).prev ≡ (owned_at nodes2 owners s.number b).prev
          prev_same None off = refl
          prev_same (Some m) off = two.prev_else m (λ e. off (ap Some e))

          same_there : (k : ℕ) → k ≢ s.number → (b : Option ℕ) → ((b ≢ last) × (b ≢ Some n)) ⊎ (b ≡ None) → between k b ≡ owned_at nodes2 owners k b
          same_there k off None at = other_ends k off
          same_there k off (Some m) (inl (a, b)) = λ t. record { prev = two.prev_else m (λ e. b (ap Some e)) t; next = two.next_else m (λ e. a (sym e)) t }
          same_there k off (Some m) (inr e) = absurd (none≢some m (sym e))

      second : JoinsIn between (owned_at nodes3 owners1) s.number (Some n) (owned_at nodes2 owners s.number last).next
      second = subst (JoinsIn between (owned_at nodes3 owners1) s.number (Some n)) (sym last_next) (record {
        here = record {
          next_here = two.next_else n last_other ∙ ap (λ j. j.next) (linked_same owned_of owned_of-unqueued n ∙ ap owned_of put.changed);
          next_else = λ b off. next_same b;
          prev_here = ap (λ j. j.prev) new_ends ∙ ends_prev last (owned_at nodes2 owners s.number None);
          prev_else = λ b off. prev_same b off;
        };
        elsewhere = λ k off b at. same_there k off b;
      })
        where
          next_same : (b : Option ℕ) → (owned_at nodes3 owners1 s.number b).next ≡ (between s.number b).next
          next_same None = refl
          next_same (Some m) = refl

          prev_same : (b : Option ℕ) → b ≢ None → (owned_at nodes3 owners1 s.number b).prev ≡ (between s.number b).prev
          prev_same None off = absurd (off refl)
          prev_same (Some m) off = refl

          same_there : (k : ℕ) → k ≢ s.number → (b : Option ℕ) → owned_at nodes3 owners1 k b ≡ between k b
          same_there k off None = ap (λ o. unwrap_or o no_joint) (opens.others k off) ∙ sym (other_ends k off)
          same_there k off (Some m) = refl

      pub Links-pushed : Links nodes3 heads2 owners1 pushed_queues pushed_numbers
      Links-pushed =
          record {
            queues_linked = IsFamily-kept same_queue (queued_at nodes2 heads2) (queued_at nodes3 heads2) (λ m. queue_of (get nodes3 m)) (λ m. queue_of (get nodes3 m)) pushed_queues
                (IsFamily-put_after same_queue (queued_at nodes1 heads) (queued_at one.mid_nodes one.mid_ends) (queued_at nodes2 heads2) (λ m. queue_of (get nodes m)) (λ m. queue_of (get nodes3 m)) queues pushed_queues to a n
                in_slab a_in (ap queue_of vacant) one.first (subst (JoinsIn (queued_at one.mid_nodes one.mid_ends) (queued_at nodes2 heads2) to (Some n)) next_is one.second) (pushed_here queue_of queue_of-unqueued queue_of-unowned) (pushed_same queue_of queue_of-unqueued queue_of-unowned) (rw (is_same to) refl) (λ q off. rw (is_other q to off) refl))
                kept (λ m. refl);
            numbers_linked = IsFamily-put_after same_number (owned_at nodes2 owners) between (owned_at nodes3 owners1) (λ m. node_number (get nodes m)) (λ m. node_number (get nodes3 m)) numbers pushed_numbers s.number last n
                in_queue last_in (ap node_number vacant) first second (pushed_here node_number node_number-unqueued node_number-unowned) (pushed_same node_number node_number-unqueued node_number-unowned)
                (rw (is_itself s.number, opens.last_is) (sym (put_after_last (next_of (owned_at nodes2 owners) s.number) (prev_of (owned_at nodes2 owners) s.number) (numbers s.number) n (in_queue.rings s.number))))
                (λ k off. elim (same_or_apart k s.number) [ inl e ↦ absurd (off e.0) | inr o ↦ rw o.1 refl ]);
            heads_there = λ m q h. heads_same q.id ∙ elim (same_or_apart m n) [
              | inl e ↦
                  let same : Some to ≡ Some q = sym (pushed_here queue_of queue_of-unqueued queue_of-unowned) ∙ ap (λ i. queue_of (get nodes3 i)) (sym e.0) ∙ h in
                  queue_there q (cc)
              | inr o ↦ links.heads_there m q (sym (pushed_same queue_of queue_of-unqueued queue_of-unowned m o.0) ∙ h)
            ];
            owners_there = λ m k h. elim (same_or_apart m n) [
              | inl e ↦
                  let same : Some s.number ≡ Some k = sym (pushed_here node_number node_number-unqueued node_number-unowned) ∙ ap (λ i. node_number (get nodes3 i)) (sym e.0) ∙ h in
                  number_there k (cc)
              | inr o ↦ opened_too k (links.owners_there m k (sym (pushed_same node_number node_number-unqueued node_number-unowned m o.0) ∙ h))
            ];
            owners_needed = λ k h. needed k h;
          }
        where
          kept : (q : Queue) (a : Option ℕ) → is_in (pushed_queues q) a ≡ true → queued_at nodes3 heads2 q a ≡ queued_at nodes2 heads2 q a
          kept q None h = refl
          kept q (Some m) h = owned_same queue_joint queue_joint-unowned m

          opened_too : (k : ℕ) → is_some (ends_of owners k) ≡ true → is_some (ends_of owners1 k) ≡ true
          opened_too k h = elim (same_or_apart k s.number) [
            | inl e ↦ ap (λ i. is_some (ends_of owners1 i)) e.0 ∙ ap is_some opens.ends
            | inr o ↦ ap is_some (opens.others k o.0) ∙ h
          ]

          some_more : (l : List ℕ) → l ++ n ∷ [] ≢ []
          some_more [] = λ e. cc
          some_more (x ∷ xs) = λ e. cc

          needed : (k : ℕ) → is_some (ends_of owners1 k) ≡ true → pushed_numbers k ≢ []
          needed k h = elim (same_or_apart k s.number) [
            | inl e ↦ rw e.1 (some_more (numbers k))
            | inr o ↦ rw o.1 (links.owners_needed k (sym (ap is_some (opens.others k o.0)) ∙ h))
          ]

          queue_there : (q : Queue) → to ≡ q → is_some (get heads q.id) ≡ true
          queue_there q e = ap (λ (r : Queue). is_some (get heads r.id)) (sym e) ∙ there

          number_there : (k : ℕ) → s.number ≡ k → is_some (ends_of owners1 k) ≡ true
          number_there k e = ap (λ i. is_some (ends_of owners1 i)) (sym e) ∙ ap is_some opens.ends

      pub PutsAfter-pushed : PutsAfter (maps_of nodes heads owners) (maps_of nodes3 heads2 owners1) to a n s
      PutsAfter-pushed =
          Are-links nodes nodes3 heads heads2 owners owners1 queues pushed_queues numbers pushed_numbers
          (λ q l. cond (is_queue q to) (put_after a n l) l) (λ k l. cond (nat_eq k s.number) (l ++ n ∷ []) l) (λ m o. cond (nat_eq m n) (Some s) o) (λ id b. b) links Links-pushed (λ q. refl) (λ k. refl)
          (λ m. elim (same_or_apart m n) [
            | inl e ↦ ap (λ i. stand_of (get nodes3 i)) e.0 ∙ pushed_here stand_of stand_of-unqueued stand_of-unowned ∙ rw e.1 refl
            | inr o ↦ rw o.1 (pushed_same stand_of stand_of-unqueued stand_of-unowned m o.0)
          ])
          heads_same

-- The maps depend only on the slots and the entries.
module _ (nodes nodes' : Slab Node) (heads : Slab Heads) (owners owners' : Owners) (slots : nodes'.slots ≡ nodes.slots) (entries : owners'.entries ≡ owners.entries) where
  ends_same : (k : ℕ) → ends_of owners' k ≡ ends_of owners k
  ends_same k = ap (lookup (nat_eq k)) entries

  owned_unchanged : (k : ℕ) (a : Option ℕ) → owned_at nodes owners' k a ≡ owned_at nodes owners k a
  owned_unchanged k None = ap (λ o. unwrap_or o no_joint) (ends_same k)
  owned_unchanged k (Some m) = refl

  pub Links-unchanged : (queues : Queue → List ℕ) (numbers : ℕ → List ℕ) → Links nodes heads owners queues numbers → Links nodes' heads owners' queues numbers
  Links-unchanged queues numbers links =
      Links-slots nodes nodes' heads owners' queues numbers slots (record {
        queues_linked = links.queues_linked;
        numbers_linked = IsFamily-kept same_number (owned_at nodes owners) (owned_at nodes owners') (λ m. node_number (get nodes m)) (λ m. node_number (get nodes m)) numbers links.numbers_linked (λ k a h. owned_unchanged k a) (λ m. refl);
        heads_there = links.heads_there;
        owners_there = λ m k h. ap is_some (ends_same k) ∙ links.owners_there m k h;
        owners_needed = λ k h. links.owners_needed k (ap is_some (sym (ends_same k)) ∙ h);
      })

  slots_only : maps_of nodes' heads owners' ≡ maps_of nodes heads owners'
  slots_only = λ t. maps_of (record nodes' { slots = slots t }) heads owners'

  entries_only : maps_of nodes heads owners' ≡ maps_of nodes heads owners
  entries_only = λ t. record {
    records = (maps_of nodes heads owners).records;
    numbers = from_entries (map (λ e. (e.0, walk (λ a. (owned_unchanged e.0 a t).next) (length nodes.slots) None)) (entries t));
    stands = (maps_of nodes heads owners).stands;
  }

  pub maps-unchanged : maps_of nodes' heads owners' ≡ maps_of nodes heads owners
  maps-unchanged = slots_only ∙ entries_only
