-- The record of a row after a visit.
use Rattle.std.proofs.Common.{◌≡◌, ◌≢◌, ◌≤◌, ℕ, false, List, [], ◌∷◌, ◌++◌, length, Some, None, slice_get, refl, sym, ap, ◌∙◌, subst, arith, nat_eq, is_some}
use Rattle.std.specs.List.{AllByRecursion, IsDistinct, last_or}
use Rattle.lt_ids.specs.declared.request.Access.{Access}
use Rattle.lt_rules.specs.declared.call.Call.TheVariants.{Visit}
use Rattle.lt_rules.specs.declared.call.Reply.{Reply}
use Rattle.lt_rules.specs.declared.call.Reply.TheVariants.{Passed}
use Rattle.lt_rules.specs.Rules.{Record, set_back, stop_reading, without_reader}
use Rattle.lt_rules.specs.Visit.{pass, visit_lock}
use Rattle.lt_rules.specs.Lawful.{numbers}
use Rattle.lt_rules.proofs.Lawfulness.{step_keeps_lawful}
use Rattle.lt_links.specs.declared.stand.Stand.{Stand}
use Rattle.lt_links.specs.declared.ids.Queue.{Queue}
use Rattle.lt_links.specs.declared.ids.QueueKind.TheVariants.{Writers, Readers, Reservation}
use Rattle.lt_links.specs.Maps.{Maps, queue, stand}
use Rattle.lt_row.specs.declared.row.Row.{Row}
use Rattle.lt_row.specs.Row.{stand_at, stands_at, line, queue_at, record_of, request_of, IsNamed}
use Rattle.lt_row.specs.Found.{WritesQueue, MovesToFront}
use Rattle.lt_row.specs.RowStepped.{IsRow, RowStepped}
use Rattle.lt_row.proofs.Written.{stand_is}
use Rattle.lt_row.proofs.Acts.{rewritten_by}

-- ---- after the visit the numbers still differ

pub visited_distinct : (old new : Maps) (r : Row) (s : Stand) (longest : ℕ) (access : Access) (reply : Reply) → IsRow old r → RowStepped old new r r.id (visit_lock r.holder (record_of old r).reservation (stop_reading (record_of old r) s.number) (request_of s) longest access) reply [] →
    IsDistinct nat_eq (numbers (record_of new r))
visited_distinct old new r s longest access reply row went =
    let lawful = step_keeps_lawful (record_of old r) s.pass (Visit (request_of s).ticket s.txn s.ts access longest) row.lawful in
    subst (IsDistinct nat_eq) (sym (ap (λ (x : Record). numbers x) went.is_outcome.moved)) lawful.first.numbers_differ

-- ---- a reservation is taken over

-- Two nodes, with these entries.
pub record AreTwo (m : Maps) (l : List ℕ) (s t : Stand) : Type 0 where
  pub first : ℕ
  pub second : ℕ
  pub is : l ≡ first ∷ second ∷ []
  pub first_is : stand_at m first ≡ s
  pub second_is : stand_at m second ≡ t

-- nodes with two entries are two nodes
two_of : (m : Maps) (l : List ℕ) (s t : Stand) → stands_at m l ≡ s ∷ t ∷ [] → AreTwo m l s t
two_of m [] s t e = absurd (cc)
two_of m (a ∷ []) s t e = absurd (cc)
two_of m (a ∷ b ∷ []) s t e = record { first = a; second = b; is = refl; first_is = cc; second_is = cc }
two_of m (a ∷ b ∷ c ∷ l) s t e = absurd (cc)

-- the only entry of a list is its first
only : (l : List Stand) (t : Stand) → length l ≤ 1 → slice_get l 0 ≡ Some t → l ≡ t ∷ []
only [] t few e = absurd (cc)
only (s ∷ []) t few e = let same : s ≡ t = cc in ap (λ x. x ∷ []) same
only (s ∷ u ∷ l) t few e = absurd (omega (arith, few))

-- `s` comes before the reservation `t`
module _ (old mid : Maps) (r : Row) (s t : Stand) (row : IsRow old r) (reserved : slice_get (line old (queue_at r.id Reservation)) 0 ≡ Some t) (q : Queue) (is : q ≡ queue_at r.id Reservation) (put : WritesQueue old mid q (s ∷ line old q)) where
  -- the reservation's queue had only the entry `t`
  reserved_line : line old q ≡ t ∷ []
  reserved_line = ap (λ p. line old p) is ∙ only (line old (queue_at r.id Reservation)) t row.linked.one_reservation reserved

  -- and now it has `s` and `t`
  two : AreTwo mid (queue mid q) s t
  two = two_of mid (queue mid q) s t (put.here ∙ ap (λ l. s ∷ l) reserved_line)

  -- the queue has a last node, which is that of `t`
  pub has_last : None ≢ last_or None (queue mid q)
  has_last none = let last : None ≡ Some two.second = none ∙ ap (λ l. last_or None l) two.is in cc

  module _ (node : ℕ) (last : Some node ≡ last_or None (queue mid q)) where
    -- the last node is the second
    is_second : node ≡ two.second
    is_second = let e : Some node ≡ Some two.second = last ∙ ap (λ l. last_or None l) two.is in cc

    -- the parts of the queue around its last node
    last_cut : queue mid q ≡ two.first ∷ node ∷ []
    last_cut = two.is ∙ ap (λ n. two.first ∷ n ∷ []) (sym is_second)

    -- the entry at the last node is `t`
    was_second : (back : Stand) → stand mid node ≡ Some back → back ≡ t
    was_second back at = sym (stand_is mid node back at) ∙ ap (stand_at mid) is_second ∙ two.second_is

    -- `t` is made inactive there, and moves to the front of the writers
    pub displaced : (set new : Maps) (to : Queue) (found back : Stand) → r.holder ≡ None → IsNamed s → to ≡ queue_at r.id Writers → stand mid node ≡ Some found → back ≡ record found { active = false } →
        ((p : Queue) → queue set p ≡ queue mid p) → ((xs ys : List ℕ) → queue mid q ≡ xs ++ node ∷ ys → WritesQueue mid set q (stands_at mid xs ++ back ∷ stands_at mid ys)) →
        ((xs ys : List ℕ) → queue set q ≡ xs ++ node ∷ ys → MovesToFront set new q to (stand_at set node) (stands_at set xs ++ stands_at set ys)) →
        RowStepped old new r r.id (pass (record (stop_reading (record_of old r) s.number) { reservation = Some (request_of s); writers = set_back (Some (request_of t)) ++ (record_of old r).writers })) Passed []
    displaced set new to found back unheld named is_to at is_back queues writes brings =
        let kind_of = λ (p : Queue). p.kind in
        let id_of = λ (p : Queue). p.id in
        let w : WritesQueue mid set q (stand_at mid two.first ∷ back ∷ []) = writes (two.first ∷ []) [] last_cut in
        let brought : MovesToFront set new q to (stand_at set node) (stand_at set two.first ∷ []) = brings (two.first ∷ []) [] (queues q ∙ last_cut) in
        let over = brought.over (λ e. let k : Reservation ≡ Writers = ap kind_of (sym is ∙ e ∙ is_to) in cc) in
        let set_line : stand_at set two.first ∷ stand_at set node ∷ [] ≡ s ∷ back ∷ [] = ap (stands_at set) (sym (queues q ∙ last_cut)) ∙ w.here ∙ ap (λ x. x ∷ back ∷ []) two.first_is in
        let first : stand_at set two.first ≡ s = cc in
        let second : stand_at set node ≡ back = cc in
        let apart : queue_at r.id Writers ≢ q = λ e. let k : Writers ≡ Reservation = ap kind_of (e ∙ is) in cc in
        let readers_apart : queue_at r.id Readers ≢ q = λ e. let k : Readers ≡ Reservation = ap kind_of (e ∙ is) in cc in
        let readers_to : queue_at r.id Readers ≢ to = λ e. let k : Readers ≡ Writers = ap kind_of (e ∙ is_to) in cc in
        let was : found ≡ t = was_second found at in
        let idle : back ≡ record t { active = false } = is_back ∙ ap (λ (x : Stand). record x { active = false }) was in
        let reserved_named : AllByRecursion IsNamed (t ∷ []) = subst (AllByRecursion IsNamed) (only (line old (queue_at r.id Reservation)) t row.linked.one_reservation reserved) (row.linked.named Reservation) in
        let back_named : IsNamed back = subst IsNamed (sym idle) reserved_named.0 in
        let after : Record = record (stop_reading (record_of old r) s.number) { reservation = Some (request_of s); writers = set_back (Some (request_of t)) ++ (record_of old r).writers } in
        let no_readers : (record_of old r).readers ≡ [] = row.lawful.first.unheld_has_no_readers (ap is_some unheld) in
        let readers_stay : (record_of old r).readers ≡ without_reader (record_of old r).readers s.number = no_readers ∙ ap (λ l. without_reader l s.number) (sym no_readers) in
        let written = rewritten_by old new r after (back ∷ line old (queue_at r.id Writers)) (line old (queue_at r.id Readers)) (s ∷ [])
        (ap (λ p. line new p) (sym is_to) ∙ over.here ∙ ap (λ l. stand_at set node ∷ l) (ap (λ p. line set p) is_to ∙ w.others (queue_at r.id Writers) apart ∙ put.others (queue_at r.id Writers) apart) ∙ ap (λ x. x ∷ line old (queue_at r.id Writers)) second)
        (over.others (queue_at r.id Readers) readers_apart readers_to ∙ w.others (queue_at r.id Readers) readers_apart ∙ put.others (queue_at r.id Readers) readers_apart)
        (ap (λ p. line new p) (sym is) ∙ over.left_is ∙ ap (λ x. x ∷ []) first)
        over.sound
        (record {
          lines = λ p elsewhere.
              let from : p ≢ q = λ e. elsewhere (ap id_of (e ∙ is)) in
              over.others p from (λ e. elsewhere (ap id_of (e ∙ is_to))) ∙ w.others p from ∙ put.others p from;
          records = λ i. over.records i ∙ w.records i ∙ put.records i;
        })
        row.linked (omega arith) (back_named, row.linked.named Writers) (row.linked.named Readers) (named, tt)
        (rw idle (ap (λ qs. record { holder = r.holder; reservation = Some (request_of s); writers = set_back (Some (request_of t)) ++ (record_of old r).writers; readers = qs; distinguished = r.distinguished }) readers_stay)) in
        record {
          same_id = refl;
          is_outcome = record { moved = written.is; replied = refl; let_through = refl };
          linked = written.linked;
          others = written.others;
        }
