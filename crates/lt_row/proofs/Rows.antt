-- The record of a row after changes to its queues.
use Rattle.std.proofs.Common.{◌≡◌, ◌≢◌, ◌≤◌, ℕ, Bool, true, false, not, cond, List, [], ◌∷◌, ◌++◌, length, map, filter, Option, Some, None, slice_get, refl, sym, ap, ◌∙◌, subst, arith, nat_eq, ◌&&◌, ◌||◌, append_assoc}
use Rattle.std.specs.Prelude.{option_to_list}
use Rattle.std.specs.List.{AllByRecursion, IsDistinct, list_any, find}
use Rattle.std.specs.Option.{option_map}
use Rattle.std.proofs.lemmas.List.{map-append}
use Rattle.std.proofs.lemmas.Bool.Decides.{nat_tests}
use Rattle.lt_rules.specs.declared.queued.QueuedRequest.{QueuedRequest}
use Rattle.lt_rules.specs.Rules.{Record, number_of, writer_number, is_eligible, eligible}
use Rattle.lt_rules.proofs.Queue.{any_eligible, first_without_readers, first_of_readers}
use Rattle.lt_rules.specs.Lawful.{numbers}
use Rattle.lt_rules.proofs.Cases.{all_front, all_back, all_unmap, all_weaker}
use Rattle.lt_links.specs.declared.stand.Stand.{Stand}
use Rattle.lt_links.specs.declared.ids.Queue.{Queue}
use Rattle.lt_links.specs.declared.ids.QueueKind.{QueueKind}
use Rattle.lt_links.specs.declared.ids.QueueKind.TheVariants.{Writers, Readers, Reservation}
use Rattle.lt_links.specs.Ring.{has}
use Rattle.lt_links.specs.Maps.{Maps, queue, is_kind, HasNode, IsSound}
use Rattle.lt_row.proofs.Places.{has_cut}
use Rattle.lt_row.specs.declared.row.Row.{Row}
use Rattle.lt_row.specs.Row.{stand_at, stands_at, line, queue_at, record_of, request_of, writer_of, IsNamed, HasQueues}
use Rattle.lt_row.specs.Found.{IsFound, IsMissing, WritesQueue}
use Rattle.lt_row.specs.RowStepped.{KeepsOthers}

-- ---- one queue of a row is changed

module _ (old new : Maps) (id : ℕ) (kind : QueueKind) (l : List Stand) (w : WritesQueue old new (queue_at id kind) l) where
  pub others_written : KeepsOthers old new id
  others_written = record {
    lines = λ q apart. w.others q (λ e. apart (ap (λ p. p.id) e));
    records = w.records;
  }

  -- the entries of each of the row's queues
  other_line : (j : QueueKind) → j ≢ kind → line new (queue_at id j) ≡ line old (queue_at id j)
  other_line j apart = w.others (queue_at id j) (λ e. apart (ap (λ p. p.kind) e))

pub line_written : (old new : Maps) (id : ℕ) (kind : QueueKind) (l : List Stand) → WritesQueue old new (queue_at id kind) l → (j : QueueKind) → line new (queue_at id j) ≡ cond (is_kind j kind) l (line old (queue_at id j))
line_written old new id Writers l w Writers = w.here
line_written old new id Writers l w Readers = other_line old new id Writers l w Readers (λ e. cc)
line_written old new id Writers l w Reservation = other_line old new id Writers l w Reservation (λ e. cc)
line_written old new id Readers l w Writers = other_line old new id Readers l w Writers (λ e. cc)
line_written old new id Readers l w Readers = w.here
line_written old new id Readers l w Reservation = other_line old new id Readers l w Reservation (λ e. cc)
line_written old new id Reservation l w Writers = other_line old new id Reservation l w Writers (λ e. cc)
line_written old new id Reservation l w Readers = other_line old new id Reservation l w Readers (λ e. cc)
line_written old new id Reservation l w Reservation = w.here

pub others_twice : (a b c : Maps) (id : ℕ) → KeepsOthers a b id → KeepsOthers b c id → KeepsOthers a c id
others_twice a b c id one two = record {
  lines = λ q apart. two.lines q apart ∙ one.lines q apart;
  records = λ i. two.records i ∙ one.records i;
}

pub others_same : (m : Maps) (id : ℕ) → KeepsOthers m m id
others_same m id = record { lines = λ q apart. refl; records = λ i. refl }

named_at : (b : Bool) (x y : List Stand) → AllByRecursion IsNamed x → AllByRecursion IsNamed y → AllByRecursion IsNamed (cond b x y)
named_at true x y p q = p
named_at false x y p q = q

-- The row still has its queues in the links, if each of its entries has a ticket and at most one holds the
-- reservation.
pub linked_written : (old new : Maps) (id : ℕ) (kind : QueueKind) (l : List Stand) → WritesQueue old new (queue_at id kind) l → HasQueues old id → length (cond (is_kind Reservation kind) l []) ≤ 1 → AllByRecursion IsNamed l → HasQueues new id
linked_written old new id kind l w linked one named = record {
  sound = w.sound;
  there = w.records id ∙ linked.there;
  one_reservation = rw (line_written old new id kind l w Reservation) (few (is_kind Reservation kind) one);
  named = λ j. rw (line_written old new id kind l w j) (named_at (is_kind j kind) l (line old (queue_at id j)) named (linked.named j));
}
  where
    few : (b : Bool) → length (cond b l []) ≤ 1 → length (cond b l (line old (queue_at id Reservation))) ≤ 1
    few true o = o
    few false o = linked.one_reservation

-- ---- the record of a row, from the entries of its queues

abbrev pub record_by : Row → List Stand → List Stand → List Stand → Record
record_by r writers readers reservation = record {
  holder = r.holder;
  reservation = option_map request_of (slice_get reservation 0);
  writers = map writer_of writers;
  readers = map request_of readers;
  distinguished = r.distinguished;
}

pub record_lines : (m : Maps) (r : Row) (writers readers reservation : List Stand) → line m (queue_at r.id Writers) ≡ writers → line m (queue_at r.id Readers) ≡ readers → line m (queue_at r.id Reservation) ≡ reservation → record_of m r ≡ record_by r writers readers reservation
record_lines m r writers readers reservation ws rs s = rw (ws, rs, s) refl

-- ---- the queue that has an entry with a number

-- none of these entries has the number
abbrev pub HasNot : ℕ → List Stand → Type 0
HasNot n l = AllByRecursion (λ s. s.number ≢ n) l

-- the numbers of these entries
abbrev pub numbers_in : List Stand → List ℕ
numbers_in l = map (λ s. s.number) l

distinct_cut : (n : ℕ) (xs ys : List ℕ) → IsDistinct nat_eq (xs ++ n ∷ ys) → AllByRecursion (λ m. m ≢ n) (xs ++ ys)
unfolding IsDistinct
distinct_cut n [] ys d = all_weaker (λ m. nat_eq n m ≡ false) (λ m. m ≢ n) (λ m e. grind (arith, nat_tests)) ys d.0
distinct_cut n (x ∷ xs) ys d =
    let apart = all_back (λ m. nat_eq x m ≡ false) xs (n ∷ ys) d.0 in
    let first : nat_eq x n ≡ false = apart.0 in
    (grind (arith, nat_tests), distinct_cut n xs ys d.1)

request_numbers : (l : List Stand) → map number_of (map request_of l) ≡ numbers_in l
request_numbers [] = refl
request_numbers (s ∷ l) = ap (λ ns. s.number ∷ ns) (request_numbers l)

writer_numbers : (l : List Stand) → map number_of (map (λ w. w.request) (map writer_of l)) ≡ numbers_in l
writer_numbers [] = refl
writer_numbers (s ∷ l) = ap (λ ns. s.number ∷ ns) (writer_numbers l)

reserved_numbers : (l : List Stand) → length l ≤ 1 → map number_of (option_to_list (option_map request_of (slice_get l 0))) ≡ numbers_in l
reserved_numbers [] one = refl
reserved_numbers (s ∷ []) one = refl
reserved_numbers (s ∷ t ∷ l) one = absurd (omega (arith, one))

-- the numbers of a row's record
pub numbers_are : (m : Maps) (r : Row) → HasQueues m r.id → numbers (record_of m r) ≡ numbers_in (line m (queue_at r.id Reservation)) ++ (numbers_in (line m (queue_at r.id Writers)) ++ numbers_in (line m (queue_at r.id Readers)))
numbers_are m r linked =
    let s = line m (queue_at r.id Reservation) in
    let ws = line m (queue_at r.id Writers) in
    let rs = line m (queue_at r.id Readers) in
    rw (map-append, reserved_numbers s linked.one_reservation, writer_numbers ws, request_numbers rs) refl

has_not : (n : ℕ) (l : List Stand) → AllByRecursion (λ m. m ≢ n) (numbers_in l) → HasNot n l
has_not n l a = all_unmap (λ m. m ≢ n) (λ s. s.number) l a

-- The entry with this number is between these entries in one of the row's queues, and no other entry has the
-- number.
pub record StandsAlone (m : Maps) (r : Row) (n : ℕ) (kind : QueueKind) (before : List Stand) (s : Stand) (after : List Stand) : Type 0 where
  pub cut : line m (queue_at r.id kind) ≡ before ++ s ∷ after
  pub number_is : s.number ≡ n
  pub none_before : HasNot n before
  pub none_after : HasNot n after
  pub elsewhere : (j : QueueKind) → j ≢ kind → HasNot n (line m (queue_at r.id j))

module _ (m : Maps) (r : Row) (n : ℕ) (linked : HasQueues m r.id) (distinct : IsDistinct nat_eq (numbers (record_of m r))) where
  abbrev lines_of : QueueKind → List Stand
  lines_of kind = line m (queue_at r.id kind)

  abbrev ids_of : QueueKind → List ℕ
  ids_of kind = numbers_in (line m (queue_at r.id kind))

  all_distinct : IsDistinct nat_eq (ids_of Reservation ++ (ids_of Writers ++ ids_of Readers))
  all_distinct = subst (IsDistinct nat_eq) (numbers_are m r linked) distinct

  module _ (before after : List Stand) (s : Stand) (is : s.number ≡ n) where
    cut_numbers : (l : List Stand) → l ≡ before ++ s ∷ after → numbers_in l ≡ numbers_in before ++ n ∷ numbers_in after
    cut_numbers l cut = ap numbers_in cut ∙ map-append (λ (t : Stand). t.number) before (s ∷ after) ∙ ap (λ k. numbers_in before ++ k ∷ numbers_in after) is

    among_writers : lines_of Writers ≡ before ++ s ∷ after → StandsAlone m r n Writers before s after
    among_writers cut =
        let front = ids_of Reservation ++ numbers_in before in
        let back = numbers_in after ++ ids_of Readers in
        let joined : ids_of Reservation ++ (ids_of Writers ++ ids_of Readers) ≡ front ++ n ∷ back =
        ap (λ ns. ids_of Reservation ++ (ns ++ ids_of Readers)) (cut_numbers (lines_of Writers) cut)
        ∙ ap (λ ns. ids_of Reservation ++ ns) (append_assoc (numbers_in before) (n ∷ numbers_in after) (ids_of Readers))
        ∙ sym (append_assoc (ids_of Reservation) (numbers_in before) (n ∷ back)) in
        let apart = distinct_cut n front back (subst (IsDistinct nat_eq) joined all_distinct) in
        let fronts = all_front (λ k. k ≢ n) front back apart in
        let backs = all_back (λ k. k ≢ n) front back apart in
        record {
          cut = cut;
          number_is = is;
          none_before = has_not n before (all_back (λ k. k ≢ n) (ids_of Reservation) (numbers_in before) fronts);
          none_after = has_not n after (all_front (λ k. k ≢ n) (numbers_in after) (ids_of Readers) backs);
          elsewhere = λ j. elim j as (λ j. j ≢ Writers → HasNot n (lines_of j)) [
            | Writers ↦ λ o. absurd (o refl)
            | Readers ↦ λ o. has_not n (lines_of Readers) (all_back (λ k. k ≢ n) (numbers_in after) (ids_of Readers) backs)
            | Reservation ↦ λ o. has_not n (lines_of Reservation) (all_front (λ k. k ≢ n) (ids_of Reservation) (numbers_in before) fronts)
          ];
        }

    among_readers : lines_of Readers ≡ before ++ s ∷ after → StandsAlone m r n Readers before s after
    among_readers cut =
        let front = ids_of Reservation ++ (ids_of Writers ++ numbers_in before) in
        let back = numbers_in after in
        let joined : ids_of Reservation ++ (ids_of Writers ++ ids_of Readers) ≡ front ++ n ∷ back =
        ap (λ ns. ids_of Reservation ++ (ids_of Writers ++ ns)) (cut_numbers (lines_of Readers) cut)
        ∙ ap (λ ns. ids_of Reservation ++ ns) (sym (append_assoc (ids_of Writers) (numbers_in before) (n ∷ back)))
        ∙ sym (append_assoc (ids_of Reservation) (ids_of Writers ++ numbers_in before) (n ∷ back)) in
        let apart = distinct_cut n front back (subst (IsDistinct nat_eq) joined all_distinct) in
        let fronts = all_front (λ k. k ≢ n) front back apart in
        let inner = all_back (λ k. k ≢ n) (ids_of Reservation) (ids_of Writers ++ numbers_in before) fronts in
        record {
          cut = cut;
          number_is = is;
          none_before = has_not n before (all_back (λ k. k ≢ n) (ids_of Writers) (numbers_in before) inner);
          none_after = has_not n after (all_back (λ k. k ≢ n) front back apart);
          elsewhere = λ j. elim j as (λ j. j ≢ Readers → HasNot n (lines_of j)) [
            | Writers ↦ λ o. has_not n (lines_of Writers) (all_front (λ k. k ≢ n) (ids_of Writers) (numbers_in before) inner)
            | Readers ↦ λ o. absurd (o refl)
            | Reservation ↦ λ o. has_not n (lines_of Reservation) (all_front (λ k. k ≢ n) (ids_of Reservation) (ids_of Writers ++ numbers_in before) fronts)
          ];
        }

    in_reservation : lines_of Reservation ≡ before ++ s ∷ after → StandsAlone m r n Reservation before s after
    in_reservation cut =
        let front = numbers_in before in
        let back = numbers_in after ++ (ids_of Writers ++ ids_of Readers) in
        let joined : ids_of Reservation ++ (ids_of Writers ++ ids_of Readers) ≡ front ++ n ∷ back =
        ap (λ ns. ns ++ (ids_of Writers ++ ids_of Readers)) (cut_numbers (lines_of Reservation) cut)
        ∙ append_assoc (numbers_in before) (n ∷ numbers_in after) (ids_of Writers ++ ids_of Readers) in
        let apart = distinct_cut n front back (subst (IsDistinct nat_eq) joined all_distinct) in
        let backs = all_back (λ k. k ≢ n) front back apart in
        let waiting = all_back (λ k. k ≢ n) (numbers_in after) (ids_of Writers ++ ids_of Readers) backs in
        record {
          cut = cut;
          number_is = is;
          none_before = has_not n before (all_front (λ k. k ≢ n) front back apart);
          none_after = has_not n after (all_front (λ k. k ≢ n) (numbers_in after) (ids_of Writers ++ ids_of Readers) backs);
          elsewhere = λ j. elim j as (λ j. j ≢ Reservation → HasNot n (lines_of j)) [
            | Writers ↦ λ o. has_not n (lines_of Writers) (all_front (λ k. k ≢ n) (ids_of Writers) (ids_of Readers) waiting)
            | Readers ↦ λ o. has_not n (lines_of Readers) (all_back (λ k. k ≢ n) (ids_of Writers) (ids_of Readers) waiting)
            | Reservation ↦ λ o. absurd (o refl)
          ];
        }

  line_cut : (kind : QueueKind) (node : ℕ) (f : IsFound m r.id n node kind) → lines_of kind ≡ stands_at m f.before ++ stand_at m node ∷ stands_at m f.after
  line_cut kind node f = ap (stands_at m) f.cut ∙ map-append (stand_at m) f.before (node ∷ f.after)

  -- the entry that is found is the only one of its request at the key
  pub found_alone : (kind : QueueKind) (node : ℕ) (f : IsFound m r.id n node kind) → StandsAlone m r n kind (stands_at m f.before) (stand_at m node) (stands_at m f.after)
  found_alone Writers node f = among_writers (stands_at m f.before) (stands_at m f.after) (stand_at m node) f.number_is (line_cut Writers node f)
  found_alone Readers node f = among_readers (stands_at m f.before) (stands_at m f.after) (stand_at m node) f.number_is (line_cut Readers node f)
  found_alone Reservation node f = in_reservation (stands_at m f.before) (stands_at m f.after) (stand_at m node) f.number_is (line_cut Reservation node f)

-- ---- a queue searched by number: the images of its entries keep the numbers

module _ {X : Type 0} (f : Stand → X) (number : X → ℕ) (same : (s : Stand) → number (f s) ≡ s.number) (n : ℕ) where
  pub none_among : (l : List Stand) → HasNot n l → list_any (λ x. nat_eq (number x) n) (map f l) ≡ false
  none_among [] a = refl
  none_among (s ∷ l) a = let no : s.number ≢ n = a.0 in let is = same s in let rest = none_among l a.1 in grind (arith, nat_tests)

  pub one_among : (before after : List Stand) (s : Stand) → s.number ≡ n → list_any (λ x. nat_eq (number x) n) (map f (before ++ s ∷ after)) ≡ true
  one_among [] after s e = let is = same s in grind (arith, nat_tests)
  one_among (t ∷ before) after s e = let rest = one_among before after s e in grind (arith, nat_tests)

  pub none_found : (l : List Stand) → HasNot n l → find (λ x. nat_eq (number x) n) (map f l) ≡ None
  none_found [] a = refl
  none_found (s ∷ l) a = let no : s.number ≢ n = a.0 in let is = same s in let rest = none_found l a.1 in grind (arith, nat_tests)

  pub one_found : (before after : List Stand) (s : Stand) → s.number ≡ n → HasNot n before → find (λ x. nat_eq (number x) n) (map f (before ++ s ∷ after)) ≡ Some (f s)
  one_found [] after s e a = let is = same s in grind (arith, nat_tests)
  one_found (t ∷ before) after s e a = let no : t.number ≢ n = a.0 in let is = same t in let rest = one_found before after s e a.1 in grind (arith, nat_tests)

  pub without_none : (l : List Stand) → HasNot n l → filter (λ x. not (nat_eq (number x) n)) (map f l) ≡ map f l
  without_none [] a = refl
  without_none (s ∷ l) a = let no : s.number ≢ n = a.0 in let is = same s in let rest = without_none l a.1 in grind (arith, nat_tests)

  pub without_one : (before after : List Stand) (s : Stand) → s.number ≡ n → HasNot n before → HasNot n after → filter (λ x. not (nat_eq (number x) n)) (map f (before ++ s ∷ after)) ≡ map f (before ++ after)
  without_one [] after s e b a = let is = same s in let rest = without_none after a in grind (arith, nat_tests)
  without_one (t ∷ before) after s e b a = let no : t.number ≢ n = b.0 in let is = same t in let rest = without_one before after s e b.1 a in grind (arith, nat_tests)

-- the eligible ones among writers that lack the number
pub none_eligible : (reservation : Option QueuedRequest) (n : ℕ) (l : List Stand) → HasNot n l → list_any (λ w. is_eligible reservation w && nat_eq (writer_number w) n) (map writer_of l) ≡ false
none_eligible reservation n [] a = refl
none_eligible reservation n (s ∷ l) a = let no : s.number ≢ n = a.0 in let rest = none_eligible reservation n l a.1 in grind (arith, nat_tests)

pub one_eligible : (reservation : Option QueuedRequest) (n : ℕ) (before after : List Stand) (s : Stand) → s.number ≡ n → HasNot n before → HasNot n after → list_any (λ w. is_eligible reservation w && nat_eq (writer_number w) n) (map writer_of (before ++ s ∷ after)) ≡ is_eligible reservation (writer_of s)
one_eligible reservation n [] after s e b a = let rest = none_eligible reservation n after a in elim (is_eligible reservation (writer_of s)) as (λ x. ((x && nat_eq s.number n) || list_any (λ w. is_eligible reservation w && nat_eq (writer_number w) n) (map writer_of after)) ≡ x) [
  | true ↦ grind (arith, nat_tests)
  | false ↦ rest
]
one_eligible reservation n (t ∷ before) after s e b a = let no : t.number ≢ n = b.0 in let rest = one_eligible reservation n before after s e b.1 a in grind (arith, nat_tests)

-- ---- the node that is found

module _ (m : Maps) (sound : IsSound m) where
  pub cut_there : (q : Queue) (node : ℕ) (xs ys : List ℕ) → queue m q ≡ xs ++ node ∷ ys → HasNode m node
  cut_there q node xs ys cut = sound.queued_there q node (ap (has node) cut ∙ has_cut node xs ys)

  pub first_cut : (q : Queue) (node : ℕ) → Some node ≡ slice_get (queue m q) 0 → (ys : List ℕ) × (queue m q ≡ node ∷ ys)
  first_cut q node first = elim (queue m q) as (λ l. Some node ≡ slice_get l 0 → (ys : List ℕ) × (l ≡ node ∷ ys)) [
    | [] ↦ λ e. absurd (cc)
    | x ∷ xs ↦ λ e. (xs, let same : node ≡ x = cc in ap (λ y. y ∷ xs) (sym same))
  ] first

-- ---- the eligible waiters

-- whether this number is eligible, from the readers and the writers
pub among_eligible : (m : Maps) (r : Row) (n : ℕ) (reads writes : Bool) → list_any (λ q. nat_eq (number_of q) n) (map request_of (line m (queue_at r.id Readers))) ≡ reads →
    list_any (λ w. is_eligible (record_of m r).reservation w && nat_eq (writer_number w) n) (map writer_of (line m (queue_at r.id Writers))) ≡ writes → list_any (λ k. nat_eq k n) (eligible (record_of m r).reservation (record_of m r).readers (record_of m r).writers) ≡ (reads || writes)
among_eligible m r n reads writes rs ws = any_eligible (record_of m r).reservation (record_of m r).readers (record_of m r).writers n ∙ rw (rs, ws) refl

-- the first eligible writer
pub first_writer : (reservation : Option QueuedRequest) (l : List Stand) → option_map (λ s. s.number) (find (λ s. is_eligible reservation (writer_of s)) l) ≡ option_map writer_number (find (is_eligible reservation) (map writer_of l))
first_writer reservation [] = refl
first_writer reservation (s ∷ l) = elim (is_eligible reservation (writer_of s)) as (λ b. option_map (λ s. s.number) (cond b (Some s) (find (λ s. is_eligible reservation (writer_of s)) l)) ≡ option_map writer_number (cond b (Some (writer_of s)) (find (is_eligible reservation) (map writer_of l)))) [
  | true ↦ refl
  | false ↦ first_writer reservation l
]

-- ---- the distinguished waiter, from the queue in which its number is found

module _ (m : Maps) (r : Row) (n : ℕ) where
  abbrev may_be : Bool
  may_be = list_any (λ k. nat_eq k n) (eligible (record_of m r).reservation (record_of m r).readers (record_of m r).writers)

  pub missing_may_not : IsMissing m r.id n → may_be ≡ false
  missing_may_not none = among_eligible m r n false false (none_among request_of number_of (λ s. refl) n _ (none Readers)) (none_eligible _ n _ (none Writers))

  module _ (linked : HasQueues m r.id) (distinct : IsDistinct nat_eq (numbers (record_of m r))) (kind : QueueKind) (node : ℕ) (found : IsFound m r.id n node kind) where
    abbrev pub alone : StandsAlone m r n kind (stands_at m found.before) (stand_at m node) (stands_at m found.after)
    alone = found_alone m r n linked distinct kind node found

    pub reserved_may_not : kind ≡ Reservation → may_be ≡ false
    reserved_may_not e = among_eligible m r n false false (none_among request_of number_of (λ s. refl) n _ (alone.elsewhere Readers (λ f. cc))) (none_eligible _ n _ (alone.elsewhere Writers (λ f. cc)))

    pub writer_may : kind ≡ Writers → may_be ≡ is_eligible (record_of m r).reservation (writer_of (stand_at m node))
    writer_may e =
        let cut = rw e at alone.cut in
        among_eligible m r n false (is_eligible (record_of m r).reservation (writer_of (stand_at m node))) (none_among request_of number_of (λ s. refl) n _ (alone.elsewhere Readers (λ f. cc)))
        (ap (λ l. list_any (λ w. is_eligible (record_of m r).reservation w && nat_eq (writer_number w) n) (map writer_of l)) cut
        ∙ one_eligible (record_of m r).reservation n (stands_at m found.before) (stands_at m found.after) (stand_at m node) alone.number_is alone.none_before alone.none_after)

-- the first eligible waiter, with and without readers
module _ (m : Maps) (r : Row) where
  abbrev first_may_be : Option ℕ
  first_may_be = slice_get (eligible (record_of m r).reservation (record_of m r).readers (record_of m r).writers) 0

  pub first_reader : (node : ℕ) (ys : List ℕ) → queue m (queue_at r.id Readers) ≡ node ∷ ys → Some (stand_at m node).number ≡ first_may_be
  first_reader node ys cut = sym (first_of_readers (record_of m r).reservation (record_of m r).readers (record_of m r).writers (request_of (stand_at m node)) (ap (λ l. slice_get (map request_of (stands_at m l)) 0) cut))

  pub first_after_readers : None ≡ slice_get (queue m (queue_at r.id Readers)) 0 → option_map (λ s. s.number) (find (λ s. is_eligible (record_of m r).reservation (writer_of s)) (line m (queue_at r.id Writers))) ≡ first_may_be
  first_after_readers none = first_writer (record_of m r).reservation (line m (queue_at r.id Writers)) ∙ sym (first_without_readers (record_of m r).reservation (record_of m r).readers (record_of m r).writers (no_first (queue m (queue_at r.id Readers)) none))
    where
      no_first : (l : List ℕ) → None ≡ slice_get l 0 → slice_get (map request_of (stands_at m l)) 0 ≡ None
      no_first [] e = refl
      no_first (x ∷ l) e = cc
