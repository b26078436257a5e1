-- What it means for a row's record that a request has an entry there, and that the request leaves.
use Rattle.std.proofs.Common.{◌≡◌, ◌≢◌, ◌≤◌, ℕ, true, false, cond, List, [], ◌∷◌, ◌++◌, length, map, Some, None, slice_get, refl, sym, ap, ◌∙◌, subst, arith, nat_eq, ◌⊎◌, inl, inr}
use Rattle.std.specs.List.{AllByRecursion, IsDistinct, list_any, find}
use Rattle.std.specs.Option.{option_map}
use Rattle.std.proofs.lemmas.Bool.Decides.{nat_tests}
use Rattle.lt_ids.specs.declared.timestamp.Timestamp.{Timestamp}
use Rattle.lt_rules.specs.declared.queued.Holder.{Holder}
use Rattle.lt_rules.specs.declared.call.Call.TheVariants.{Acquire, Update, Finish, Leave}
use Rattle.lt_rules.specs.declared.call.Reply.TheVariants.{Freed, Left, Absent, Nothing, Other}
use Rattle.lt_rules.specs.Rules.{Record, number_of, writer_number, Outcome, free, raise, take_lock, acquire_from, update_from, finish_from, leave, unchanged, is_reserved_by, is_waiting, without_reader, without_writer, settle}
use Rattle.lt_rules.specs.Step.{look, look_reader, look_waiter}
use Rattle.lt_rules.specs.Lawful.{IsLawful, numbers}
use Rattle.lt_rules.proofs.Lawfulness.{step_keeps_lawful}
use Rattle.lt_rules.proofs.Cases.{all_append, all_front, all_back}
use Rattle.lt_links.specs.declared.stand.Stand.{Stand}
use Rattle.lt_links.specs.declared.ids.QueueKind.{QueueKind}
use Rattle.lt_links.specs.declared.ids.QueueKind.TheVariants.{Writers, Readers, Reservation}
use Rattle.lt_links.specs.Maps.{Maps}
use Rattle.lt_row.specs.declared.row.Row.{Row}
use Rattle.lt_row.specs.Row.{stand_at, stands_at, line, queue_at, record_of, request_of, writer_of, IsNamed, HasQueues}
use Rattle.lt_row.specs.Found.{IsFound, IsMissing, WritesQueue}
use Rattle.lt_row.proofs.Rows.{HasNot, StandsAlone, found_alone, none_among, one_among, none_found, one_found, without_none, without_one, record_lines, line_written, linked_written}
use Rattle.lt_row.proofs.Acts.{few_others}

-- ---- the record after a step of a lawful record is lawful

module _ (r : Record) (lawful : IsLawful r) where
  pub lawful_taken : (txn : ℕ) (ts : Timestamp) → r.holder ≡ None → IsLawful (take_lock r (record { txn = txn; ts = ts })).after
  lawful_taken txn ts free = subst (λ h. IsLawful (acquire_from h r (record { txn = txn; ts = ts })).after) free (step_keeps_lawful r 1 (Acquire txn ts) lawful)

  pub lawful_raised : (h : Holder) (ts : Timestamp) → r.holder ≡ Some h → IsLawful (raise r h ts).after
  lawful_raised h ts held =
      let kept = subst (λ x. IsLawful (update_from x r h.txn ts).after) held (step_keeps_lawful r 1 (Update h.txn ts) lawful) in
      let own : nat_eq h.txn h.txn ≡ true = grind (arith, nat_tests) in
      subst (λ b. IsLawful (cond b (raise r h ts) (unchanged r Other)).after) own kept

  pub lawful_freed : (h : Holder) → r.holder ≡ Some h → IsLawful (free (record r { holder = None }) Freed).after
  lawful_freed h held =
      let kept = subst (λ x. IsLawful (finish_from x r h.txn).after) held (step_keeps_lawful r 1 (Finish h.txn) lawful) in
      let own : nat_eq h.txn h.txn ≡ true = grind (arith, nat_tests) in
      subst (λ b. IsLawful (cond b (free (record r { holder = None }) Freed) (unchanged r Other)).after) own kept

  pub lawful_unreserved : (n : ℕ) → is_reserved_by r.reservation n ≡ true → IsLawful (free r Freed).after
  lawful_unreserved n reserved = subst (λ b. IsLawful (cond b (free (record r { reservation = None }) Left) (cond (is_waiting r n) (record { after = settle (record r { writers = without_writer r.writers n; readers = without_reader r.readers n }); reply = Left; lets = [] }) (unchanged r Absent))).after) reserved (step_keeps_lawful r 1 (Leave n) lawful)

-- ---- the holder of the reservation

not_reserved : (n : ℕ) (l : List Stand) → HasNot n l → is_reserved_by (option_map request_of (slice_get l 0)) n ≡ false
not_reserved n [] a = refl
not_reserved n (s ∷ l) a = let no : s.number ≢ n = a.0 in grind (arith, nat_tests)

is_reserved : (n : ℕ) (before after : List Stand) (s : Stand) → length (before ++ s ∷ after) ≤ 1 → s.number ≡ n → is_reserved_by (option_map request_of (slice_get (before ++ s ∷ after) 0)) n ≡ true
is_reserved n [] after s few e = grind (arith, nat_tests)
is_reserved n (t ∷ before) after s few e = absurd (omega (arith, few, some before))
  where
    some : (xs : List Stand) → 1 ≤ length (xs ++ s ∷ after)
    some [] = omega arith
    some (x ∷ xs) = omega arith

pub which : (kind : QueueKind) → (kind ≡ Writers) ⊎ ((kind ≡ Readers) ⊎ (kind ≡ Reservation))
which Writers = inl refl
which Readers = inr (inl refl)
which Reservation = inr (inr refl)

pub writers_else : (kind : QueueKind) → kind ≢ Reservation → kind ≢ Readers → kind ≡ Writers
writers_else Writers s r = refl
writers_else Readers s r = absurd (r refl)
writers_else Reservation s r = absurd (s refl)

module _ (m : Maps) (r : Row) (n : ℕ) where
  -- if no request with the number is at the key
  module _ (none : IsMissing m r.id n) where
    pub missing_unreserved : is_reserved_by (record_of m r).reservation n ≡ false
    missing_unreserved = not_reserved n (line m (queue_at r.id Reservation)) (none Reservation)

    pub missing_absent : leave (record_of m r) n ≡ unchanged (record_of m r) Absent
    missing_absent = rw (missing_unreserved, none_among request_of number_of (λ s. refl) n (line m (queue_at r.id Readers)) (none Readers), none_among writer_of writer_number (λ s. refl) n (line m (queue_at r.id Writers)) (none Writers)) refl

    pub missing_looks : look (record_of m r) n ≡ Nothing
    missing_looks = rw (missing_unreserved, none_found writer_of writer_number (λ s. refl) n (line m (queue_at r.id Writers)) (none Writers), none_among request_of number_of (λ s. refl) n (line m (queue_at r.id Readers)) (none Readers)) refl

  -- if there is one
  module _ (linked : HasQueues m r.id) (distinct : IsDistinct nat_eq (numbers (record_of m r))) (kind : QueueKind) (node : ℕ) (found : IsFound m r.id n node kind) where
    alone : StandsAlone m r n kind (stands_at m found.before) (stand_at m node) (stands_at m found.after)
    alone = found_alone m r n linked distinct kind node found

    pub found_reserved : kind ≡ Reservation → is_reserved_by (record_of m r).reservation n ≡ true
    found_reserved e =
        let cut = rw e at alone.cut in
        ap (λ l. is_reserved_by (option_map request_of (slice_get l 0)) n) cut ∙ is_reserved n (stands_at m found.before) (stands_at m found.after) (stand_at m node) (subst (λ l. length l ≤ 1) cut linked.one_reservation) alone.number_is

    pub found_unreserved : kind ≢ Reservation → is_reserved_by (record_of m r).reservation n ≡ false
    found_unreserved o = not_reserved n (line m (queue_at r.id Reservation)) (alone.elsewhere Reservation (λ e. o (sym e)))

    -- its queue without it
    abbrev pub left : List Stand
    left = stands_at m found.before ++ stands_at m found.after

    named_left : AllByRecursion IsNamed left
    named_left =
        let all = subst (AllByRecursion IsNamed) alone.cut (linked.named kind) in
        all_append IsNamed (stands_at m found.before) (stands_at m found.after)
        (all_front IsNamed (stands_at m found.before) (stand_at m node ∷ stands_at m found.after) all)
        (all_back IsNamed (stands_at m found.before) (stand_at m node ∷ stands_at m found.after) all).1

    -- the readers without it
    pub left_readers : kind ≡ Readers → without_reader (record_of m r).readers n ≡ map request_of left
    left_readers e =
        let cut = rw e at alone.cut in
        ap (λ l. without_reader (map request_of l) n) cut ∙ without_one request_of number_of (λ s. refl) n (stands_at m found.before) (stands_at m found.after) (stand_at m node) alone.number_is alone.none_before alone.none_after

    pub left_writers : kind ≡ Writers → without_writer (record_of m r).writers n ≡ map writer_of left
    left_writers e =
        let cut = rw e at alone.cut in
        ap (λ l. without_writer (map writer_of l) n) cut ∙ without_one writer_of writer_number (λ s. refl) n (stands_at m found.before) (stands_at m found.after) (stand_at m node) alone.number_is alone.none_before alone.none_after

    pub other_readers : kind ≢ Readers → without_reader (record_of m r).readers n ≡ (record_of m r).readers
    other_readers o = without_none request_of number_of (λ s. refl) n (line m (queue_at r.id Readers)) (alone.elsewhere Readers (λ e. o (sym e)))

    pub other_writers : kind ≢ Writers → without_writer (record_of m r).writers n ≡ (record_of m r).writers
    other_writers o = without_none writer_of writer_number (λ s. refl) n (line m (queue_at r.id Writers)) (alone.elsewhere Writers (λ e. o (sym e)))

    -- it is queued there
    pub found_waiting : kind ≢ Reservation → is_waiting (record_of m r) n ≡ true
    found_waiting o = elim (which kind) [
      | inl e ↦
          let cut = rw e at alone.cut in
          rw (none_among request_of number_of (λ s. refl) n (line m (queue_at r.id Readers)) (alone.elsewhere Readers (λ f. cc)))
          (ap (λ l. list_any (λ w. nat_eq (writer_number w) n) (map writer_of l)) cut ∙ one_among writer_of writer_number (λ s. refl) n (stands_at m found.before) (stands_at m found.after) (stand_at m node) alone.number_is)
      | inr rest ↦ elim rest [
        | inl e ↦
            let cut = rw e at alone.cut in
            let reads : list_any (λ q. nat_eq (number_of q) n) (record_of m r).readers ≡ true = ap (λ l. list_any (λ q. nat_eq (number_of q) n) (map request_of l)) cut ∙ one_among request_of number_of (λ s. refl) n (stands_at m found.before) (stands_at m found.after) (stand_at m node) alone.number_is in
            rw reads refl
        | inr e ↦ absurd (o e)
      ]
    ]

    -- and leaves
    pub found_leaves : kind ≢ Reservation → leave (record_of m r) n ≡ record { after = settle (record (record_of m r) { writers = without_writer (record_of m r).writers n; readers = without_reader (record_of m r).readers n }); reply = Left; lets = [] }
    found_leaves o = rw (found_unreserved o, found_waiting o) refl

    -- it is removed from its queue
    module _ (new : Maps) (w : WritesQueue m new (queue_at r.id kind) left) where
      pub left_linked : kind ≢ Reservation → HasQueues new r.id
      left_linked o = linked_written m new r.id kind left w linked (few_others kind left o) named_left

      pub left_row : kind ≢ Reservation → record_of new r ≡ record (record_of m r) { writers = without_writer (record_of m r).writers n; readers = without_reader (record_of m r).readers n }
      left_row o = elim (which kind) [
        | inl e ↦
            let here : WritesQueue m new (queue_at r.id Writers) left = subst (λ k. WritesQueue m new (queue_at r.id k) left) e w in
            record_lines new r left (line m (queue_at r.id Readers)) (line m (queue_at r.id Reservation)) here.here (line_written m new r.id Writers left here Readers) (line_written m new r.id Writers left here Reservation)
            ∙ rw (left_writers e, other_readers (λ f. cc)) refl
        | inr rest ↦ elim rest [
          | inl e ↦
              let here : WritesQueue m new (queue_at r.id Readers) left = subst (λ k. WritesQueue m new (queue_at r.id k) left) e w in
              record_lines new r (line m (queue_at r.id Writers)) left (line m (queue_at r.id Reservation)) (line_written m new r.id Readers left here Writers) here.here (line_written m new r.id Readers left here Reservation)
              ∙ rw (left_readers e, other_writers (λ f. cc)) refl
          | inr e ↦ absurd (o e)
        ]
      ]

      -- and no number occurs twice
      pub left_distinct : kind ≢ Reservation → IsLawful (record_of m r) → IsDistinct nat_eq (numbers (record_of new r))
      left_distinct o lawful =
          let kept = step_keeps_lawful (record_of m r) 1 (Leave n) lawful in
          let after : numbers (leave (record_of m r) n).after ≡ numbers (record_of new r) = ap (λ (t : Outcome). numbers t.after) (found_leaves o) ∙ ap (λ (x : Record). numbers x) (sym (left_row o)) in
          subst (IsDistinct nat_eq) after kept.first.numbers_differ

    -- ---- the reply to its look

    pub found_reads : kind ≡ Readers → look (record_of m r) n ≡ look_reader (record_of m r) n r.holder (record_of m r).reservation
    found_reads e =
        let cut = rw e at alone.cut in
        let reads : list_any (λ q. nat_eq (number_of q) n) (record_of m r).readers ≡ true = ap (λ l. list_any (λ q. nat_eq (number_of q) n) (map request_of l)) cut ∙ one_among request_of number_of (λ s. refl) n (stands_at m found.before) (stands_at m found.after) (stand_at m node) alone.number_is in
        rw (found_unreserved (λ f. cc), none_found writer_of writer_number (λ s. refl) n (line m (queue_at r.id Writers)) (alone.elsewhere Writers (λ f. cc)), reads) refl

    pub found_writes : kind ≡ Writers → look (record_of m r) n ≡ look_waiter (record_of m r) n (Some (writer_of (stand_at m node)))
    found_writes e =
        let cut = rw e at alone.cut in
        let finds : find (λ w. nat_eq (writer_number w) n) (record_of m r).writers ≡ Some (writer_of (stand_at m node)) = ap (λ l. find (λ w. nat_eq (writer_number w) n) (map writer_of l)) cut ∙ one_found writer_of writer_number (λ s. refl) n (stands_at m found.before) (stands_at m found.after) (stand_at m node) alone.number_is alone.none_before in
        rw (found_unreserved (λ f. cc), finds) refl
