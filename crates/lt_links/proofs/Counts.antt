-- The stored length of each queue stays the length of its list.
use Rattle.std.proofs.Common.{◌≡◌, ◌≢◌, ℕ, ◌+◌, ◌-◌, ◌<◌, Bool, true, false, cond, Option, Some, None, List, length, refl, sym, ap, ◌∙◌, inl, inr, subst, arith, get_or}
use Rattle.slab.specs.Slab.{Slab, get}
use Rattle.lt_links.specs.declared.node.Node.{Node}
use Rattle.lt_links.specs.declared.node.Heads.{Heads}
use Rattle.lt_links.specs.declared.stand.Stand.{Stand}
use Rattle.lt_links.specs.declared.ids.Queue.{Queue}
use Rattle.lt_links.specs.Ring.{has, is_in, without, put_after}
use Rattle.lt_links.specs.Cells.{len_of, len_at, SetsLen, queued_at, Owners}
use Rattle.lt_links.specs.Maps.{Are, is_queue}
use Rattle.lt_links.specs.View.{maps_of, queue_of, Links}
use Rattle.lt_links.proofs.Rings.{without_absent, length-without, length-put_after}
use Rattle.lt_links.proofs.Joints.{same_queue, same_home, IsFamily-kept}
use Rattle.lt_links.proofs.Views.{queue_is, record_is, queue_fits}
use Rattle.lt_links.proofs.Steps.{is_same, is_other}

-- the stored length of each queue is the length of its list
abbrev pub AreCounted : Slab Heads → (Queue → List ℕ) → Type 0
AreCounted heads lists = (q : Queue) → len_at heads q ≡ length (lists q)

-- The stored lengths depend only on the slots of the heads.
pub AreCounted-slots : (heads heads' : Slab Heads) (lists : Queue → List ℕ) → heads'.slots ≡ heads.slots → AreCounted heads lists → AreCounted heads' lists
AreCounted-slots heads heads' lists e counted q = ap (λ (l : List (Option Heads)). len_of (get_or l q.id None) q.kind) e ∙ counted q

-- a node leaves a queue
module _ (nodes : Slab Node) (heads : Slab Heads) (owners : Owners) (queues : Queue → List ℕ) (numbers : ℕ → List ℕ) (links : Links nodes heads owners queues numbers) (n : ℕ) (d : Node) (at : get nodes n ≡ Some d) (heads1 : Slab Heads) (counted : AreCounted heads1 queues) where
  in_queue : has n (queues d.queue) ≡ true
  in_queue = links.queues_linked.housed d.queue n (ap queue_of at)

  one_without : length (queues d.queue) ≡ length (without n (queues d.queue)) + 1
  one_without = length-without n (queues d.queue) (links.queues_linked.rings d.queue).distinct in_queue

  pub len_positive : 0 < len_at heads1 d.queue
  len_positive = omega (arith, counted d.queue, one_without)

  pub AreCounted-without : (heads2 : Slab Heads) → SetsLen heads1 heads2 d.queue (len_at heads1 d.queue - 1) → AreCounted heads2 (λ q. without n (queues q))
  AreCounted-without heads2 sets q =
      elim (same_queue q d.queue) [
        | inl e ↦ subst (λ (p : Queue). len_at heads2 p ≡ length (without n (queues p))) (sym e) (sets.here ∙ less)
        | inr off ↦ sets.others q off ∙ counted q ∙ ap length (sym (without_absent n (queues q) (absent off)))
      ]
    where
      less : len_at heads1 d.queue - 1 ≡ length (without n (queues d.queue))
      less = omega (arith, counted d.queue, one_without)

      absent : q ≢ d.queue → has n (queues q) ≡ false
      absent off = elim (has n (queues q)) as (λ b. has n (queues q) ≡ b → b ≡ false) [
        | true ↦ λ e. absurd (off (same_home q d.queue (sym (links.queues_linked.homes q n e) ∙ ap queue_of at)))
        | false ↦ λ e. refl
      ] refl

-- a node comes into a queue, after a position of it
module _ (lists : Queue → List ℕ) (to : Queue) (a : Option ℕ) (n : ℕ) (a_in : is_in (lists to) a ≡ true) where
  abbrev pub lists_with : Queue → List ℕ
  lists_with q = cond (is_queue q to) (put_after a n (lists q)) (lists q)

  longer : length (lists_with to) ≡ length (lists to) + 1
  longer = rw (is_same to) (length-put_after a n (lists to) a_in)

  pub AreCounted-with : (heads heads' : Slab Heads) → AreCounted heads lists → SetsLen heads heads' to (len_at heads to + 1) → AreCounted heads' lists_with
  AreCounted-with heads heads' counted sets q =
      elim (same_queue q to) [
        | inl e ↦ subst (λ (p : Queue). len_at heads' p ≡ length (lists_with p)) (sym e) (sets.here ∙ ap (λ m. m + 1) (counted to) ∙ sym longer)
        | inr off ↦ sets.others q off ∙ counted q ∙ ap length (sym (other off))
      ]
    where
      other : q ≢ to → lists_with q ≡ lists q
      other off = rw (is_other q to off) refl

  -- the slab has a slot for the new node, so it has more slots than the queue had nodes
  pub len_below_slots : (heads : Slab Heads) → AreCounted heads lists → (nodes : Slab Node) (heads' : Slab Heads) (owners : Owners) (numbers : ℕ → List ℕ) → Links nodes heads' owners lists_with numbers → len_at heads to < length nodes.slots
  len_below_slots heads counted nodes heads' owners numbers links = omega (arith, counted to, longer, queue_fits nodes heads' owners lists_with numbers links to)

-- only a stored length changes
module _ (nodes : Slab Node) (heads heads' : Slab Heads) (owners : Owners) (queues : Queue → List ℕ) (numbers : ℕ → List ℕ) (links : Links nodes heads owners queues numbers) (q : Queue) (n : ℕ) (sets : SetsLen heads heads' q n) where
  pub Links-recounted : Links nodes heads' owners queues numbers
  Links-recounted = record {
    queues_linked = IsFamily-kept same_queue (queued_at nodes heads) (queued_at nodes heads') (λ m. queue_of (get nodes m)) (λ m. queue_of (get nodes m)) queues links.queues_linked kept (λ m. refl);
    numbers_linked = links.numbers_linked;
    heads_there = λ m p h. sets.heads_kept p.id ∙ links.heads_there m p h;
    owners_there = links.owners_there;
    owners_needed = links.owners_needed;
  }
    where
      kept : (p : Queue) (a : Option ℕ) → is_in (queues p) a ≡ true → queued_at nodes heads' p a ≡ queued_at nodes heads p a
      kept p None h = sets.ends_kept p
      kept p (Some m) h = refl

  pub Are-recounted : (lists : Queue → List ℕ) (lists' : ℕ → List ℕ) (stands : ℕ → Option Stand) (records : ℕ → Bool) → Are (maps_of nodes heads owners) lists lists' stands records → Are (maps_of nodes heads' owners) lists lists' stands records
  Are-recounted lists lists' stands records are = record {
    queues_are = λ p. queue_is nodes heads' owners queues numbers Links-recounted p ∙ sym (queue_is nodes heads owners queues numbers links p) ∙ are.queues_are p;
    numbers_are = are.numbers_are;
    stands_are = are.stands_are;
    records_are = λ id. record_is nodes heads' owners id ∙ sets.heads_kept id ∙ sym (record_is nodes heads owners id) ∙ are.records_are id;
  }
