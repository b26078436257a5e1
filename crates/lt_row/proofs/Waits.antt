-- The record of a row after a request comes to wait, or stops waiting to read.
use Rattle.std.proofs.Common.{◌≡◌, ◌≢◌, ◌<◌, ℕ, true, false, List, [], ◌∷◌, ◌++◌, map, refl, sym, ap, ◌∙◌, subst, arith, nat_eq}
use Rattle.std.specs.Prelude.{if◌then◌else◌}
use Rattle.std.specs.List.{AllByRecursion, IsDistinct, list_any}
use Rattle.std.proofs.lemmas.List.{map-append}
use Rattle.std.proofs.lemmas.Bool.Decides.{nat_tests}
use Rattle.lt_rules.specs.declared.queued.QueuedRequest.{QueuedRequest}
use Rattle.lt_rules.specs.declared.queued.QueuedWriter.{QueuedWriter}
use Rattle.lt_rules.specs.declared.call.Reply.{Reply}
use Rattle.lt_rules.specs.declared.call.Reply.TheVariants.{MustWait, TooLong}
use Rattle.lt_rules.specs.Rules.{Record, number_of, writer_number, unchanged, stop_reading, without_reader}
use Rattle.lt_rules.specs.Visit.{enqueue, waiting, is_queued, is_too_long, wait_to_write, join_writers, wait_to_read}
use Rattle.lt_rules.specs.Lawful.{Rises, numbers}
use Rattle.lt_rules.proofs.Cases.{all_append, all_front, all_back}
use Rattle.lt_links.specs.declared.stand.Stand.{Stand}
use Rattle.lt_links.specs.declared.ids.Queue.{Queue}
use Rattle.lt_links.specs.declared.ids.QueueKind.{QueueKind}
use Rattle.lt_links.specs.declared.ids.QueueKind.TheVariants.{Writers, Readers, Reservation}
use Rattle.lt_links.specs.Maps.{Maps, queue}
use Rattle.lt_row.specs.declared.row.Row.{Row}
use Rattle.lt_row.specs.Row.{stand_at, stands_at, line, queue_at, record_of, request_of, writer_of, IsNamed, HasQueues}
use Rattle.lt_row.specs.Found.{IsFound, IsMissing, WritesQueue, PutsWriter, MovesToFront}
use Rattle.lt_row.specs.RowStepped.{KeepsOthers, IsRewritten, RowStepped, VisitsRow}
use Rattle.lt_row.proofs.Rows.{HasNot, StandsAlone, found_alone, none_among, one_among, without_none, record_lines, line_written, linked_written, others_written, others_twice, others_same}
use Rattle.lt_row.proofs.Acts.{few_others}
use Rattle.lt_row.proofs.Leaves.{left, left_row, left_linked, other_readers, other_writers, left_readers}

-- the links are unchanged, and give this record
rewritten_nowhere : (m : Maps) (r : Row) (is : Record) → HasQueues m r.id → is ≡ record_of m r → IsRewritten m m r is
rewritten_nowhere m r is linked e = record {
  is = sym e;
  linked = linked;
  others = others_same m r.id;
}

-- a row whose queues changed has the outcome with this record, with any reply
pub went_rewritten : (old new : Maps) (r : Row) (is : Record) (reply : Reply) → IsRewritten old new r is → RowStepped old new r r.id (unchanged is reply) reply []
went_rewritten old new r is reply written = record {
  same_id = refl;
  is_outcome = record { moved = written.is; replied = refl; let_through = refl };
  linked = written.linked;
  others = written.others;
}

-- two lists of nodes with the same entries, in parts
same_parts : {X : Type 0} (f g : ℕ → X) (n : ℕ) (v : X) (xs ys : List ℕ) → map f (xs ++ n ∷ ys) ≡ map g xs ++ v ∷ map g ys → (map f xs ≡ map g xs) × (f n ≡ v) × (map f ys ≡ map g ys)
same_parts f g n v [] ys e = (refl, cc, cc)
same_parts f g n v (x ∷ xs) ys e =
    let first : f x ≡ g x = cc in
    let rest : map f (xs ++ n ∷ ys) ≡ map g xs ++ v ∷ map g ys = cc in
    let parts = same_parts f g n v xs ys rest in
    (rw (first, parts.0) refl, parts.1, parts.2)

-- an entry that is among the writers already is replaced at its position
enqueue_again : (ws vs : List QueuedWriter) (w : QueuedWriter) (q : QueuedRequest) → Rises (ws ++ w ∷ vs) → writer_number w ≡ number_of q → enqueue (ws ++ w ∷ vs) q ≡ ws ++ waiting q ∷ vs
enqueue_again [] vs w q rises e = grind (arith, nat_tests)
enqueue_again (x ∷ ws) vs w q rises e =
    let below : writer_number x < writer_number w = (all_back (λ v. writer_number x < writer_number v) ws (w ∷ vs) rises.0).0 in
    let rest = enqueue_again ws vs w q rises.1 e in
    grind (arith, nat_tests)

waits_as : (s : Stand) → s.active ≡ true → writer_of s ≡ waiting (request_of s)
waits_as s e = rw e refl

-- ---- a request without an entry at the key, or with one elsewhere than it will have

module _ (old new : Maps) (r : Row) (s : Stand) (linked : HasQueues old r.id) (named : IsNamed s) where
  -- it is inserted among the writers
  module _ (puts : PutsWriter old new (queue_at r.id Writers) s) where
    pub put_linked : HasQueues new r.id
    put_linked = linked_written old new r.id Writers puts.after puts.writes linked (few_others Writers puts.after (λ e. cc)) (puts.named (linked.named Writers))

    pub put_others : KeepsOthers old new r.id
    put_others = others_written old new r.id Writers puts.after puts.writes

    pub put_row : record_of new r ≡ record (record_of old r) { writers = enqueue (record_of old r).writers (request_of s) }
    put_row =
        record_lines new r puts.after (line old (queue_at r.id Readers)) (line old (queue_at r.id Reservation)) puts.writes.here (line_written old new r.id Writers puts.after puts.writes Readers) (line_written old new r.id Writers puts.after puts.writes Reservation)
        ∙ ap (λ ws. record (record_of old r) { writers = ws }) puts.is_placed

    pub put_went : without_reader (record_of old r).readers s.number ≡ (record_of old r).readers → RowStepped old new r r.id (wait_to_write (stop_reading (record_of old r) s.number) (request_of s)) MustWait []
    put_went same = record {
      same_id = refl;
      is_outcome = record { moved = put_row ∙ ap (λ rs. record (record_of old r) { writers = enqueue (record_of old r).writers (request_of s); readers = rs }) (sym same); replied = refl; let_through = refl };
      linked = put_linked;
      others = put_others;
    }

  -- it is inserted at the front of the readers
  pub first_went : WritesQueue old new (queue_at r.id Readers) (s ∷ line old (queue_at r.id Readers)) → without_reader (record_of old r).readers s.number ≡ (record_of old r).readers → is_queued (record_of old r).writers s.number ≡ false →
      RowStepped old new r r.id (wait_to_read (stop_reading (record_of old r) s.number) (request_of s)) MustWait []
  first_went w same none =
      let now = record_lines new r (line old (queue_at r.id Writers)) (s ∷ line old (queue_at r.id Readers)) (line old (queue_at r.id Reservation)) (line_written old new r.id Readers _ w Writers) w.here (line_written old new r.id Readers _ w Reservation) in
      record {
        same_id = refl;
        is_outcome = record { moved = now ∙ rw (none, same) refl; replied = rw none refl; let_through = rw none refl };
        linked = linked_written old new r.id Readers (s ∷ line old (queue_at r.id Readers)) w linked (few_others Readers (s ∷ line old (queue_at r.id Readers)) (λ e. cc)) (named, linked.named Readers);
        others = others_written old new r.id Readers _ w;
      }

-- ---- a request without an entry at the key

module _ (m : Maps) (r : Row) (n : ℕ) (none : IsMissing m r.id n) where
  pub missing_readers : without_reader (record_of m r).readers n ≡ (record_of m r).readers
  missing_readers = without_none request_of number_of (λ s. refl) n (line m (queue_at r.id Readers)) (none Readers)

  pub missing_writers : is_queued (record_of m r).writers n ≡ false
  missing_writers = none_among writer_of writer_number (λ s. refl) n (line m (queue_at r.id Writers)) (none Writers)

  pub missing_stops : HasQueues m r.id → IsRewritten m m r (stop_reading (record_of m r) n)
  missing_stops linked = rewritten_nowhere m r (stop_reading (record_of m r) n) linked (ap (λ rs. record (record_of m r) { readers = rs }) missing_readers)

-- ---- a request with one

module _ (old : Maps) (r : Row) (n : ℕ) (linked : HasQueues old r.id) (distinct : IsDistinct nat_eq (numbers (record_of old r))) (kind : QueueKind) (node : ℕ) (found : IsFound old r.id n node kind) where
  alone : StandsAlone old r n kind (stands_at old found.before) (stand_at old node) (stands_at old found.after)
  alone = found_alone old r n linked distinct kind node found

  pub found_stops : kind ≢ Readers → IsRewritten old old r (stop_reading (record_of old r) n)
  found_stops o = rewritten_nowhere old r (stop_reading (record_of old r) n) linked (ap (λ rs. record (record_of old r) { readers = rs }) (other_readers old r n linked distinct kind node found o))

  -- whether it is among the writers
  pub found_queued : kind ≡ Writers → is_queued (record_of old r).writers n ≡ true
  found_queued e =
      let cut = rw e at alone.cut in
      ap (λ l. list_any (λ w. nat_eq (writer_number w) n) (map writer_of l)) cut ∙ one_among writer_of writer_number (λ s. refl) n (stands_at old found.before) (stands_at old found.after) (stand_at old node) alone.number_is

  pub unqueued : kind ≢ Writers → is_queued (record_of old r).writers n ≡ false
  unqueued o = none_among writer_of writer_number (λ s. refl) n (line old (queue_at r.id Writers)) (alone.elsewhere Writers (λ e. o (sym e)))

  pub none_in : (j : QueueKind) → j ≢ kind → HasNot n (line old (queue_at r.id j))
  none_in = alone.elsewhere

  module _ (new : Maps) where
    pub reader_stops : kind ≡ Readers → WritesQueue old new (queue_at r.id kind) (left old r n linked distinct kind node found) → IsRewritten old new r (stop_reading (record_of old r) n)
    reader_stops e w = record {
      is = left_row old r n linked distinct kind node found new w (λ f. cc) ∙ ap (λ ws. record (record_of old r) { writers = ws; readers = without_reader (record_of old r).readers n }) (other_writers old r n linked distinct kind node found (λ f. cc));
      linked = left_linked old r n linked distinct kind node found new w (λ f. cc);
      others = others_written old new r.id kind _ w;
    }

    module _ (s : Stand) (is : s.number ≡ n) (active : s.active ≡ true) (named : IsNamed s) where
      abbrev renewed : List Stand
      renewed = stands_at old found.before ++ s ∷ stands_at old found.after

      named_renewed : AllByRecursion IsNamed renewed
      named_renewed =
          let all = subst (AllByRecursion IsNamed) alone.cut (linked.named kind) in
          all_append IsNamed (stands_at old found.before) (s ∷ stands_at old found.after)
          (all_front IsNamed (stands_at old found.before) (stand_at old node ∷ stands_at old found.after) all)
          (named, (all_back IsNamed (stands_at old found.before) (stand_at old node ∷ stands_at old found.after) all).1)

      -- its entry among the writers is replaced
      module _ (e : kind ≡ Writers) (rises : Rises (record_of old r).writers) (w : WritesQueue old new (queue_at r.id kind) renewed) where
        here : WritesQueue old new (queue_at r.id Writers) renewed
        here = subst (λ k. WritesQueue old new (queue_at r.id k) renewed) e w

        again_row : record_of new r ≡ record (record_of old r) { writers = enqueue (record_of old r).writers (request_of s) }
        again_row =
            let cut : line old (queue_at r.id Writers) ≡ stands_at old found.before ++ stand_at old node ∷ stands_at old found.after = rw e at alone.cut in
            let writers : (record_of old r).writers ≡ map writer_of (stands_at old found.before) ++ writer_of (stand_at old node) ∷ map writer_of (stands_at old found.after) = ap (map writer_of) cut ∙ map-append writer_of (stands_at old found.before) (stand_at old node ∷ stands_at old found.after) in
            let same : (stand_at old node).number ≡ s.number = alone.number_is ∙ sym is in
            record_lines new r renewed (line old (queue_at r.id Readers)) (line old (queue_at r.id Reservation)) here.here (line_written old new r.id Writers renewed here Readers) (line_written old new r.id Writers renewed here Reservation)
            ∙ ap (λ ws. record (record_of old r) { writers = ws })
            (map-append writer_of (stands_at old found.before) (s ∷ stands_at old found.after)
            ∙ ap (λ x. map writer_of (stands_at old found.before) ++ x ∷ map writer_of (stands_at old found.after)) (waits_as s active)
            ∙ sym (ap (λ ws. enqueue ws (request_of s)) writers ∙ enqueue_again (map writer_of (stands_at old found.before)) (map writer_of (stands_at old found.after)) (writer_of (stand_at old node)) (request_of s) (subst Rises writers rises) same))

        again_linked : HasQueues new r.id
        again_linked = linked_written old new r.id kind renewed w linked (few_others kind renewed (λ f. cc)) named_renewed

        pub again_went : RowStepped old new r r.id (wait_to_write (stop_reading (record_of old r) n) (request_of s)) MustWait []
        again_went = record {
          same_id = refl;
          is_outcome = record { moved = again_row ∙ ap (λ rs. record (record_of old r) { writers = enqueue (record_of old r).writers (request_of s); readers = rs }) (sym (other_readers old r n linked distinct kind node found (λ f. cc))); replied = refl; let_through = refl };
          linked = again_linked;
          others = others_written old new r.id kind renewed w;
        }

        pub again_reads : RowStepped old new r r.id (wait_to_read (stop_reading (record_of old r) n) (request_of s)) MustWait []
        again_reads =
            let same : wait_to_read (stop_reading (record_of old r) n) (request_of s) ≡ wait_to_write (stop_reading (record_of old r) n) (request_of s) = rw (is, found_queued e) refl in
            subst (λ o. RowStepped old new r r.id o MustWait []) (sym same) again_went

      -- its entry is replaced, and moves to the front of the readers
      module _ (mid : Maps) (e : kind ≡ Readers) (w : WritesQueue old mid (queue_at r.id kind) renewed) (q : Queue) (to : q ≡ queue_at r.id Readers) (queues : (p : Queue) → queue mid p ≡ queue old p) (brings : MovesToFront mid new (queue_at r.id kind) q (stand_at mid node) (stands_at mid found.before ++ stands_at mid found.after)) where
        parts : (stands_at mid found.before ≡ stands_at old found.before) × (stand_at mid node ≡ s) × (stands_at mid found.after ≡ stands_at old found.after)
        parts = same_parts (stand_at mid) (stand_at old) node s found.before found.after (ap (stands_at mid) (sym (queues (queue_at r.id kind) ∙ found.cut)) ∙ w.here)

        brought : WritesQueue mid new (queue_at r.id Readers) (s ∷ left old r n linked distinct kind node found)
        brought =
            let within = brings.within (ap (queue_at r.id) e ∙ sym to) in
            subst (λ p. WritesQueue mid new p (s ∷ left old r n linked distinct kind node found)) to (subst (λ l. WritesQueue mid new q l) (rw (parts.0, parts.1, parts.2) refl) within)

        written : WritesQueue old mid (queue_at r.id Readers) renewed
        written = subst (λ k. WritesQueue old mid (queue_at r.id k) renewed) e w

        reread_row : record_of new r ≡ record (record_of old r) { readers = request_of s ∷ without_reader (record_of old r).readers n }
        reread_row =
            record_lines new r (line old (queue_at r.id Writers)) (s ∷ left old r n linked distinct kind node found) (line old (queue_at r.id Reservation))
            (line_written mid new r.id Readers _ brought Writers ∙ line_written old mid r.id Readers renewed written Writers)
            brought.here
            (line_written mid new r.id Readers _ brought Reservation ∙ line_written old mid r.id Readers renewed written Reservation)
            ∙ ap (λ rs. record (record_of old r) { readers = request_of s ∷ rs }) (sym (left_readers old r n linked distinct kind node found e))

        named_brought : AllByRecursion IsNamed (s ∷ left old r n linked distinct kind node found)
        named_brought =
            (named, all_append IsNamed (stands_at old found.before) (stands_at old found.after) (all_front IsNamed (stands_at old found.before) (s ∷ stands_at old found.after) named_renewed) (all_back IsNamed (stands_at old found.before) (s ∷ stands_at old found.after) named_renewed).1)

        mid_linked : HasQueues mid r.id
        mid_linked = linked_written old mid r.id kind renewed w linked (few_others kind renewed (λ f. cc)) named_renewed

        pub reread_went : RowStepped old new r r.id (wait_to_read (stop_reading (record_of old r) n) (request_of s)) MustWait []
        reread_went =
            let none = unqueued (λ f. cc) in
            record {
              same_id = refl;
              is_outcome = record { moved = reread_row ∙ rw (is, none) refl; replied = rw (is, none) refl; let_through = rw (is, none) refl };
              linked = linked_written mid new r.id Readers (s ∷ left old r n linked distinct kind node found) brought mid_linked (few_others Readers (s ∷ left old r n linked distinct kind node found) (λ f. cc)) named_brought;
              others = others_twice old mid new r.id (others_written old mid r.id kind renewed w) (others_written mid new r.id Readers _ brought);
            }

  -- it is inserted among the writers, and its entry among the readers is removed
  module _ (mid new : Maps) (s : Stand) (is : s.number ≡ n) (named : IsNamed s) (e : kind ≡ Readers) (puts : PutsWriter old mid (queue_at r.id Writers) s) where
    other_queue : queue_at r.id kind ≢ queue_at r.id Writers
    other_queue f = let k : kind ≡ Writers = ap (λ (p : Queue). p.kind) f in cc

    pub cut_after : queue mid (queue_at r.id kind) ≡ found.before ++ node ∷ found.after
    cut_after = puts.keeps.queues (queue_at r.id kind) other_queue ∙ found.cut

    module _ (w : WritesQueue mid new (queue_at r.id kind) (stands_at mid found.before ++ stands_at mid found.after)) where
      same_stands : (stands_at mid found.before ≡ stands_at old found.before) × (stand_at mid node ≡ stand_at old node) × (stands_at mid found.after ≡ stands_at old found.after)
      same_stands = same_parts (stand_at mid) (stand_at old) node (stand_at old node) found.before found.after (ap (stands_at mid) (sym cut_after) ∙ puts.writes.others (queue_at r.id kind) other_queue ∙ alone.cut)

      taken : WritesQueue mid new (queue_at r.id Readers) (left old r n linked distinct kind node found)
      taken = subst (λ k. WritesQueue mid new (queue_at r.id k) (left old r n linked distinct kind node found)) e (subst (λ l. WritesQueue mid new (queue_at r.id kind) l) (rw (same_stands.0, same_stands.2) refl) w)

      moved_row : record_of new r ≡ record (record_of old r) { writers = enqueue (record_of old r).writers (request_of s); readers = without_reader (record_of old r).readers n }
      moved_row =
          record_lines new r puts.after (left old r n linked distinct kind node found) (line old (queue_at r.id Reservation))
          (line_written mid new r.id Readers _ taken Writers ∙ puts.writes.here)
          taken.here
          (line_written mid new r.id Readers _ taken Reservation ∙ line_written old mid r.id Writers puts.after puts.writes Reservation)
          ∙ rw (puts.is_placed, left_readers old r n linked distinct kind node found e) refl

      pub moved_went : RowStepped old new r r.id (wait_to_write (stop_reading (record_of old r) n) (request_of s)) MustWait []
      moved_went =
          let all = subst (AllByRecursion IsNamed) alone.cut (linked.named kind) in
          let rest = all_append IsNamed (stands_at old found.before) (stands_at old found.after) (all_front IsNamed (stands_at old found.before) (stand_at old node ∷ stands_at old found.after) all) (all_back IsNamed (stands_at old found.before) (stand_at old node ∷ stands_at old found.after) all).1 in
          record {
            same_id = refl;
            is_outcome = record { moved = moved_row; replied = refl; let_through = refl };
            linked = linked_written mid new r.id Readers (left old r n linked distinct kind node found) taken (put_linked old mid r s linked named puts) (few_others Readers (left old r n linked distinct kind node found) (λ f. cc)) rest;
            others = others_twice old mid new r.id (put_others old mid r s linked named puts) (others_written mid new r.id Readers _ taken);
          }

-- if the writers are not too many, a request that joins them waits to write
pub waits : (m new : Maps) (row : Row) (s : Stand) (longest : ℕ) → is_too_long (record_of m row).writers (request_of s) longest ≡ false → VisitsRow m new row s (λ r q. wait_to_write r q) MustWait → VisitsRow m new row s (λ r q. join_writers r q longest) MustWait
waits m new row s longest few went =
    let r = stop_reading (record_of m row) s.number in
    subst (λ b. RowStepped m new row row.id (if b then unchanged r TooLong else wait_to_write r (request_of s)) MustWait []) (sym few) went
