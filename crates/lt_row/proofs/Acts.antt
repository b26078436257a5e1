-- The record of a row after its lock is released, raised or taken.
use Rattle.std.proofs.Common.{◌≡◌, ◌≢◌, ◌≤◌, ℕ, suc, Bool, true, false, not, cond, List, [], ◌∷◌, ◌++◌, length, map, filter, Some, None, slice_get, refl, sym, ap, ◌∙◌, subst, arith, ◌&&◌}
use Rattle.std.specs.Prelude.{drop, take}
use Rattle.lt_ids.specs.declared.ticket.Through.{Through}
use Rattle.lt_ids.specs.declared.timestamp.Timestamp.{Timestamp}
use Rattle.lt_ids.specs.Ids.{is_below}
use Rattle.std.specs.List.{AllByRecursion, find}
use Rattle.std.specs.Option.{option_map}
use Rattle.std.proofs.lemmas.List.{map-append}
use Rattle.std.proofs.lemmas.List.Elements.{filter-append}
use Rattle.lt_links.specs.declared.ids.Queue.{Queue}
use Rattle.lt_rules.specs.Rules.{Record, through_of, is_txn, has_txn, active_requests, is_of, leading, set_back}
use Rattle.lt_rules.proofs.Orderly.{all_filter}
use Rattle.lt_links.specs.declared.stand.Stand.{Stand}
use Rattle.lt_links.specs.declared.ids.QueueKind.{QueueKind}
use Rattle.lt_links.specs.declared.ids.QueueKind.TheVariants.{Writers, Readers, Reservation}
use Rattle.lt_links.specs.Maps.{Maps, queue, stand, is_kind, IsSound}
use Rattle.lt_row.specs.declared.row.Row.{Row}
use Rattle.lt_row.specs.declared.queue_walk.Selection.TheVariants.{All, Below, Of}
use Rattle.lt_row.specs.Row.{stand_at, stands_at, line, queue_at, record_of, request_of, writer_of, IsNamed, HasQueues}
use Rattle.lt_row.specs.Found.{leaves, goes_on, waiting_lets, leading_writers, from_txn, WritesQueue, MovesToFront}
use Rattle.lt_row.specs.RowStepped.{KeepsOthers, IsRewritten}
use Rattle.lt_row.proofs.Rows.{record_by, record_lines, line_written, linked_written, others_written, others_twice, others_same}
use Rattle.lt_row.proofs.Written.{stand_is}
use Rattle.lt_row.proofs.Fronts.{front_lets_of, next_of, behind_front, all_from_txn}

-- ---- the requests that are let through when a lock comes free

pub through_all : (l : List Stand) → map (λ s. through_of (request_of s)) (filter (goes_on All) l) ≡ map through_of (map request_of l)
through_all [] = refl
through_all (s ∷ l) = ap (λ ts. through_of (request_of s) ∷ ts) (through_all l)

-- the lets of a lock that comes free, from its readers and its writers
abbrev pub freed_lets : List Stand → List Stand → List Through
freed_lets rs ws = map through_of (map request_of rs ++ active_requests (take (suc (leading (map writer_of ws))) (map writer_of ws)))

pub lets_in_front : (rs ws : List Stand) → freed_lets rs ws ≡ map through_of (map request_of rs) ++ waiting_lets (leading_writers ws)
lets_in_front rs ws = map-append through_of (map request_of rs) _ ∙ ap (λ l. map through_of (map request_of rs) ++ l) (sym (front_lets_of ws))

-- the lets that the walk of a row's readers appends to an empty list
pub filled : (m : Maps) (q : Queue) (id : ℕ) (old new : List Through) → old ≡ [] → q ≡ queue_at id Readers → new ≡ old ++ map (λ s. through_of (request_of s)) (filter (goes_on All) (line m q)) → new ≡ map through_of (map request_of (line m (queue_at id Readers)))
filled m q id old new none is e =
    e ∙ ap (λ l. l ++ map (λ s. through_of (request_of s)) (filter (goes_on All) (line m q))) none
    ∙ ap (λ p. map (λ s. through_of (request_of s)) (filter (goes_on All) (line m p))) is ∙ through_all (line m (queue_at id Readers))

pub no_line : (m : Maps) (q p : Queue) → q ≡ p → None ≡ slice_get (queue m q) 0 → None ≡ slice_get (line m p) 0
no_line m q p is none = empty_first (queue m p) (none ∙ ap (λ x. slice_get (queue m x) 0) is)
  where
    empty_first : (l : List ℕ) → None ≡ slice_get l 0 → None ≡ slice_get (stands_at m l) 0
    empty_first [] e = refl
    empty_first (x ∷ l) e = cc

-- the first entry of a queue is that of its first node
pub first_line : (m : Maps) (q p : Queue) (node : ℕ) (ys : List ℕ) (s : Stand) → q ≡ p → queue m q ≡ node ∷ ys → stand m node ≡ Some s → line m p ≡ s ∷ stands_at m ys
first_line m q p node ys s is cut at = ap (λ x. line m x) (sym is) ∙ ap (stands_at m) cut ∙ ap (λ t. t ∷ stands_at m ys) (stand_is m node s at)

-- ---- the entries of a row's queues, and the record that they give

pub rewritten_by : (old new : Maps) (r : Row) (is : Record) (ws rs res : List Stand) → line new (queue_at r.id Writers) ≡ ws → line new (queue_at r.id Readers) ≡ rs → line new (queue_at r.id Reservation) ≡ res →
    IsSound new → KeepsOthers old new r.id → HasQueues old r.id → length res ≤ 1 → AllByRecursion IsNamed ws → AllByRecursion IsNamed rs → AllByRecursion IsNamed res → record_by r ws rs res ≡ is → IsRewritten old new r is
rewritten_by old new r is ws rs res lw lr ls sound others linked one nw nr ns e = record {
  is = record_lines new r ws rs res lw lr ls ∙ e;
  linked = record {
    sound = sound;
    there = others.records r.id ∙ linked.there;
    one_reservation = rw ls one;
    named = λ kind. elim kind as (λ k. AllByRecursion IsNamed (line new (queue_at r.id k))) [
      | Writers ↦ rw lw nw
      | Readers ↦ rw lr nr
      | Reservation ↦ rw ls ns
    ];
  };
  others = others;
}

-- ---- the first writer gets the reservation

no_stands : (l : List Stand) → option_map request_of (slice_get l 0) ≡ None → l ≡ []
no_stands [] e = refl
no_stands (s ∷ l) e = cc

-- the record whose first writer has become the reservation
abbrev pub with_first : Record → Record
with_first r = record r { reservation = option_map (λ w. w.request) (slice_get r.writers 0); writers = drop 1 r.writers }

module _ (old new : Maps) (r : Row) (linked : HasQueues old r.id) (none : (record_of old r).reservation ≡ None) where
  pub first_reserved : (q to : Queue) (node : ℕ) (ys : List ℕ) → q ≡ queue_at r.id Writers → to ≡ queue_at r.id Reservation → queue old q ≡ node ∷ ys → MovesToFront old new q to (stand_at old node) (stands_at old ys) → IsRewritten old new r (with_first (record_of old r))
  first_reserved q to node ys is is_to cut brings =
      let over = brings.over (λ e. let k : Writers ≡ Reservation = ap (λ (p : Queue). p.kind) (sym is ∙ e ∙ is_to) in cc) in
      let ws : line old (queue_at r.id Writers) ≡ stand_at old node ∷ stands_at old ys = ap (λ p. line old p) (sym is) ∙ ap (stands_at old) cut in
      let named = subst (AllByRecursion IsNamed) ws (linked.named Writers) in
      rewritten_by old new r (with_first (record_of old r)) (stands_at old ys) (line old (queue_at r.id Readers)) (stand_at old node ∷ [])
      (ap (λ p. line new p) (sym is) ∙ over.left_is)
      (over.others (queue_at r.id Readers) (λ e. let k : Readers ≡ Writers = ap (λ (p : Queue). p.kind) (e ∙ is) in cc) (λ e. let k : Readers ≡ Reservation = ap (λ (p : Queue). p.kind) (e ∙ is_to) in cc))
      (ap (λ p. line new p) (sym is_to) ∙ over.here ∙ ap (λ l. stand_at old node ∷ l) (ap (λ p. line old p) is_to ∙ no_stands (line old (queue_at r.id Reservation)) none))
      over.sound
      (record { lines = λ p apart. over.others p (λ e. apart (ap (λ (x : Queue). x.id) (e ∙ is))) (λ e. apart (ap (λ (x : Queue). x.id) (e ∙ is_to))); records = over.records })
      linked (omega arith) named.1 (linked.named Readers) (named.0, tt)
      (rw ws refl)

  pub none_to_reserve : None ≡ slice_get (line old (queue_at r.id Writers)) 0 → IsRewritten old old r (with_first (record_of old r))
  none_to_reserve none_first =
      let ws = no_stands (line old (queue_at r.id Writers)) (ap (option_map request_of) (sym none_first)) in
      rewritten_by old old r (with_first (record_of old r)) [] (line old (queue_at r.id Readers)) [] ws refl (no_stands (line old (queue_at r.id Reservation)) none) linked.sound (others_same old r.id) linked (omega arith) tt (linked.named Readers) tt (rw ws refl)

-- ---- the readers leave, a reservation is dropped, and the writers without a transaction before the first with
-- one leave

pub few_others : (kind : QueueKind) (l : List Stand) → kind ≢ Reservation → length (cond (is_kind Reservation kind) l []) ≤ 1
few_others Writers l o = omega arith
few_others Readers l o = omega arith
few_others Reservation l o = absurd (o refl)

none_left : (l : List Stand) → filter (λ s. not (leaves All s)) l ≡ []
none_left [] = refl
none_left (s ∷ l) = none_left l

-- all entries leave one of the row's queues
module _ (old new : Maps) (id : ℕ) (kind : QueueKind) (q : Queue) (is : q ≡ queue_at id kind) (w : WritesQueue old new q (filter (λ s. not (leaves All s)) (line old q))) where
  pub emptied : WritesQueue old new (queue_at id kind) []
  emptied = subst (λ p. WritesQueue old new p []) is (subst (λ l. WritesQueue old new q l) (none_left (line old q)) w)

  pub emptied_linked : HasQueues old id → HasQueues new id
  emptied_linked linked = linked_written old new id kind [] emptied linked (empty_few (is_kind Reservation kind)) tt
    where
      empty_few : (b : Bool) → length {A = Stand} (cond b [] []) ≤ 1
      empty_few true = omega arith
      empty_few false = omega arith

module _ (old mid new last : Maps) (r : Row) (readers : WritesQueue old mid (queue_at r.id Readers) []) (reservation : WritesQueue mid new (queue_at r.id Reservation) []) where
  no_readers : line new (queue_at r.id Readers) ≡ []
  no_readers = line_written mid new r.id Reservation [] reservation Readers ∙ line_written old mid r.id Readers [] readers Readers

  same_writers : line new (queue_at r.id Writers) ≡ line old (queue_at r.id Writers)
  same_writers = line_written mid new r.id Reservation [] reservation Writers ∙ line_written old mid r.id Readers [] readers Writers

  no_reservation : line new (queue_at r.id Reservation) ≡ []
  no_reservation = line_written mid new r.id Reservation [] reservation Reservation

  emptied_others : KeepsOthers old new r.id
  emptied_others = others_twice old mid new r.id (others_written old mid r.id Readers [] readers) (others_written mid new r.id Reservation [] reservation)

  -- the writers without a transaction before the first with one leave too
  module _ (led : Maps) (q : Queue) (is : q ≡ queue_at r.id Writers) (leads : WritesQueue new led q (from_txn (line new q))) where
    led_here : WritesQueue new led (queue_at r.id Writers) (from_txn (line new (queue_at r.id Writers)))
    led_here = subst (λ p. WritesQueue new led p (from_txn (line new p))) is leads

    pub led_linked : HasQueues new r.id → HasQueues led r.id
    led_linked linked = linked_written new led r.id Writers (from_txn (line new (queue_at r.id Writers))) led_here linked (few_others Writers (from_txn (line new (queue_at r.id Writers))) (λ e. cc)) (all_from_txn IsNamed (line new (queue_at r.id Writers)) (linked.named Writers))

    led_record : record_of led r ≡ record (record_of old r) { reservation = None; writers = map writer_of (from_txn (line old (queue_at r.id Writers))); readers = [] }
    led_record =
        record_lines led r (from_txn (line old (queue_at r.id Writers))) [] []
        (led_here.here ∙ ap from_txn same_writers)
        (line_written new led r.id Writers _ led_here Readers ∙ no_readers)
        (line_written new led r.id Writers _ led_here Reservation ∙ no_reservation)

    pub none_reserved : (record_of led r).reservation ≡ None
    none_reserved = ap (λ (x : Record). x.reservation) led_record

    pub handed_on : IsRewritten led last r (with_first (record_of led r)) → IsRewritten old last r (record (record_of old r) { reservation = option_map (λ w. w.request) (find has_txn (record_of old r).writers); writers = drop (suc (leading (record_of old r).writers)) (record_of old r).writers; readers = [] })
    handed_on first = record {
      is =
          first.is ∙ ap with_first led_record
          ∙ ap (λ w. record (record_of old r) { reservation = option_map (λ w. w.request) w; writers = drop 1 (map writer_of (from_txn (line old (queue_at r.id Writers)))); readers = [] }) (sym (next_of (line old (queue_at r.id Writers))))
          ∙ ap (λ ws. record (record_of old r) { reservation = option_map (λ w. w.request) (find has_txn (record_of old r).writers); writers = ws; readers = [] }) (sym (behind_front (line old (queue_at r.id Writers))));
      linked = first.linked;
      others = others_twice old led last r.id (others_twice old new led r.id emptied_others (others_written new led r.id Writers _ led_here)) first.others;
    }

-- ---- some entries of a queue leave

-- a filter by the image of an element
pub map_filter : {X Y : Type 0} (f : X → Y) (p : Y → Bool) (xs : List X) → map f (filter (λ x. p (f x)) xs) ≡ filter p (map f xs)
map_filter f p [] = refl
map_filter f p (x ∷ xs) = elim (p (f x)) as (λ b. map f (cond b (x ∷ filter (λ y. p (f y)) xs) (filter (λ y. p (f y)) xs)) ≡ cond b (f x ∷ filter p (map f xs)) (filter p (map f xs))) [
  | true ↦ ap (λ ys. f x ∷ ys) (map_filter f p xs)
  | false ↦ map_filter f p xs
]

map_twice : {X Y Z : Type 0} (f : X → Y) (g : Y → Z) (xs : List X) → map (λ x. g (f x)) xs ≡ map g (map f xs)
map_twice f g [] = refl
map_twice f g (x ∷ xs) = ap (λ ys. g (f x) ∷ ys) (map_twice f g xs)

-- what is appended to an empty list, for a queue with a second name
pub put_behind_none : (f : List Stand → List Through) (m : Maps) (q p : Queue) (old new : List Through) → old ≡ [] → q ≡ p → new ≡ old ++ f (line m q) → new ≡ f (line m p)
put_behind_none f m q p old new none is e = e ∙ ap (λ l. l ++ f (line m q)) none ∙ ap (λ x. f (line m x)) is

-- for a queue other than the reservation
module _ (old new : Maps) (r : Row) (kind : QueueKind) (waits : kind ≢ Reservation) (p : Stand → Bool) (q : Queue) (is : q ≡ queue_at r.id kind) (w : WritesQueue old new q (filter p (line old q))) where
  pub left_here : WritesQueue old new (queue_at r.id kind) (filter p (line old (queue_at r.id kind)))
  left_here = subst (λ x. WritesQueue old new x (filter p (line old x))) is w

  pub left_linked : HasQueues old r.id → HasQueues new r.id
  left_linked linked = linked_written old new r.id kind _ left_here linked (few_others kind _ waits) (all_filter IsNamed p (line old (queue_at r.id kind)) (linked.named kind))

  pub left_others : KeepsOthers old new r.id
  left_others = others_written old new r.id kind _ left_here

-- the readers below a timestamp leave
module _ (old new : Maps) (r : Row) (ts : Timestamp) (q : Queue) (is : q ≡ queue_at r.id Readers) (w : WritesQueue old new q (filter (λ s. not (leaves (Below ts) s)) (line old q))) where
  pub below_left : record_of new r ≡ record (record_of old r) { readers = filter (λ q. not (is_below q.ts ts)) (record_of old r).readers }
  below_left =
      let here = left_here old new r Readers (λ e. cc) (λ s. not (leaves (Below ts) s)) q is w in
      record_lines new r (line old (queue_at r.id Writers)) (filter (λ s. not (leaves (Below ts) s)) (line old (queue_at r.id Readers))) (line old (queue_at r.id Reservation))
      (line_written old new r.id Readers _ here Writers) (line_written old new r.id Readers _ here Readers) (line_written old new r.id Readers _ here Reservation)
      ∙ ap (λ rs. record (record_of old r) { readers = rs }) (map_filter request_of (λ q. not (is_below q.ts ts)) (line old (queue_at r.id Readers)))

pub lets_below : (ts : Timestamp) (l : List Stand) → map (λ s. through_of (request_of s)) (filter (goes_on (Below ts)) l) ≡ map through_of (filter (λ q. is_below q.ts ts) (map request_of l))
lets_below ts l = map_twice request_of through_of (filter (goes_on (Below ts)) l) ∙ ap (map through_of) (map_filter request_of (λ q. is_below q.ts ts) l)

-- the writers of a transaction leave
module _ (old new : Maps) (r : Row) (txn : ℕ) (q : Queue) (is : q ≡ queue_at r.id Writers) (w : WritesQueue old new q (filter (λ s. not (leaves (Of txn) s)) (line old q))) where
  pub own_left : record_of new r ≡ record (record_of old r) { writers = filter (λ w. not (is_of txn w)) (record_of old r).writers }
  own_left =
      let here = left_here old new r Writers (λ e. cc) (λ s. not (leaves (Of txn) s)) q is w in
      record_lines new r (filter (λ s. not (leaves (Of txn) s)) (line old (queue_at r.id Writers))) (line old (queue_at r.id Readers)) (line old (queue_at r.id Reservation))
      (line_written old new r.id Writers _ here Writers) (line_written old new r.id Writers _ here Readers) (line_written old new r.id Writers _ here Reservation)
      ∙ ap (λ ws. record (record_of old r) { writers = ws }) (map_filter writer_of (λ w. not (is_of txn w)) (line old (queue_at r.id Writers)))

pub lets_own : (txn : ℕ) (l : List Stand) → map (λ s. through_of (request_of s)) (filter (goes_on (Of txn)) l) ≡ map through_of (active_requests (filter (is_of txn) (map writer_of l)))
lets_own txn [] = refl
lets_own txn (s ∷ l) = elim (is_txn s.txn txn) as (λ b. map (λ s. through_of (request_of s)) (cond (b && s.active) (s ∷ filter (goes_on (Of txn)) l) (filter (goes_on (Of txn)) l)) ≡ map through_of (active_requests (cond b (writer_of s ∷ filter (is_of txn) (map writer_of l)) (filter (is_of txn) (map writer_of l))))) [
  | true ↦ elim s.active as (λ b. map (λ s. through_of (request_of s)) (cond b (s ∷ filter (goes_on (Of txn)) l) (filter (goes_on (Of txn)) l)) ≡ map through_of (map (λ w. w.request) (cond b (writer_of s ∷ filter (λ w. w.active) (filter (is_of txn) (map writer_of l))) (filter (λ w. w.active) (filter (is_of txn) (map writer_of l)))))) [
    | true ↦ ap (λ ts. through_of (request_of s) ∷ ts) (lets_own txn l)
    | false ↦ lets_own txn l
  ]
  | false ↦ lets_own txn l
]

-- ---- a reservation is set back or dropped

-- the record without its reservation, which comes before the writers unless it is of this transaction
abbrev pub without_reservation : ℕ → Record → Record
without_reservation txn r = record r { reservation = None; writers = filter (λ w. not (is_of txn w)) (set_back r.reservation) ++ r.writers }

only_one : (m : Maps) (id node : ℕ) (ys : List ℕ) → HasQueues m id → queue m (queue_at id Reservation) ≡ node ∷ ys → ys ≡ []
only_one m id node [] linked cut = refl
only_one m id node (y ∷ ys) linked cut =
    let few : length (stands_at m (node ∷ y ∷ ys)) ≤ 1 = subst (λ l. length (stands_at m l) ≤ 1) cut linked.one_reservation in
    absurd (omega (arith, few))

module _ (old : Maps) (r : Row) (txn : ℕ) (linked : HasQueues old r.id) where
  module _ (new : Maps) (q : Queue) (is : q ≡ queue_at r.id Reservation) (node : ℕ) (ys : List ℕ) (cut : queue old q ≡ node ∷ ys) (s : Stand) (at : stand old node ≡ Some s) where
    one : ys ≡ []
    one = only_one old r.id node ys linked (ap (queue old) (sym is) ∙ cut)

    reserved_line : line old (queue_at r.id Reservation) ≡ s ∷ []
    reserved_line = first_line old q (queue_at r.id Reservation) node ys s is cut at ∙ ap (λ l. s ∷ stands_at old l) one

    pub own_dropped : is_txn s.txn txn ≡ true → WritesQueue old new q (stands_at old ys) → IsRewritten old new r (without_reservation txn (record_of old r))
    own_dropped own w =
        let here : WritesQueue old new (queue_at r.id Reservation) [] = subst (λ x. WritesQueue old new x []) is (subst (λ l. WritesQueue old new q (stands_at old l)) one w) in
        rewritten_by old new r (without_reservation txn (record_of old r)) (line old (queue_at r.id Writers)) (line old (queue_at r.id Readers)) []
        (line_written old new r.id Reservation [] here Writers) (line_written old new r.id Reservation [] here Readers) (line_written old new r.id Reservation [] here Reservation)
        w.sound (others_written old new r.id Reservation [] here) linked (omega arith) (linked.named Writers) (linked.named Readers) tt
        (rw (reserved_line, own) refl)

    -- a reservation of another transaction is made inactive at its node, and moves to the front of the writers
    pub other_set_back : (mid : Maps) (to : Queue) (back : Stand) → to ≡ queue_at r.id Writers → is_txn s.txn txn ≡ false → writer_of back ≡ record { request = request_of s; active = false } →
        ((p : Queue) → queue mid p ≡ queue old p) → WritesQueue old mid q (back ∷ stands_at old ys) → MovesToFront mid new q to (stand_at mid node) (stands_at mid ys) → IsRewritten old new r (without_reservation txn (record_of old r))
    other_set_back mid to back is_to other is_back queues w brings =
        let over = brings.over (λ e. let k : Reservation ≡ Writers = ap (λ (p : Queue). p.kind) (sym is ∙ e ∙ is_to) in cc) in
        let written : stand_at mid node ∷ stands_at mid ys ≡ back ∷ stands_at old ys = ap (stands_at mid) (sym (queues q ∙ cut)) ∙ w.here in
        let first : stand_at mid node ≡ back = cc in
        let apart : queue_at r.id Writers ≢ q = λ e. let k : Writers ≡ Reservation = ap (λ (p : Queue). p.kind) (e ∙ is) in cc in
        let readers_apart : queue_at r.id Readers ≢ q = λ e. let k : Readers ≡ Reservation = ap (λ (p : Queue). p.kind) (e ∙ is) in cc in
        let readers_to : queue_at r.id Readers ≢ to = λ e. let k : Readers ≡ Writers = ap (λ (p : Queue). p.kind) (e ∙ is_to) in cc in
        let named : AllByRecursion IsNamed (s ∷ []) = subst (AllByRecursion IsNamed) reserved_line (linked.named Reservation) in
        let same_number : back.number ≡ s.number = ap (λ w. w.request.ticket.number) is_back in
        let same_wait : back.wait ≡ s.wait = ap (λ w. w.request.ticket.wait) is_back in
        rewritten_by old new r (without_reservation txn (record_of old r)) (back ∷ line old (queue_at r.id Writers)) (line old (queue_at r.id Readers)) []
        (ap (λ p. line new p) (sym is_to) ∙ over.here ∙ ap (λ l. stand_at mid node ∷ l) (ap (λ p. line mid p) is_to ∙ w.others (queue_at r.id Writers) apart) ∙ ap (λ t. t ∷ line old (queue_at r.id Writers)) first)
        (over.others (queue_at r.id Readers) readers_apart readers_to ∙ w.others (queue_at r.id Readers) readers_apart)
        (ap (λ p. line new p) (sym is) ∙ over.left_is ∙ ap (stands_at mid) one)
        over.sound
        (record {
          lines = λ p elsewhere.
              let from : p ≢ q = λ e. elsewhere (ap (λ (x : Queue). x.id) (e ∙ is)) in
              over.others p from (λ e. elsewhere (ap (λ (x : Queue). x.id) (e ∙ is_to))) ∙ w.others p from;
          records = λ i. over.records i ∙ w.records i;
        })
        linked (omega arith) ((rw (same_number, same_wait) named.0), linked.named Writers) (linked.named Readers) tt
        (rw (reserved_line, other, is_back) refl)

-- ---- a lock that has no holder is taken

module _ (old mid new : Maps) (r : Row) (txn : ℕ) (q : Queue) (is : q ≡ queue_at r.id Writers) (w : WritesQueue old mid q (filter (λ s. not (leaves (Of txn) s)) (line old q))) where
  pub taken_record : IsRewritten mid new r (without_reservation txn (record_of mid r)) → record_of new r ≡ record (record_of old r) { reservation = None; writers = filter (λ w. not (is_of txn w)) (set_back (record_of old r).reservation ++ (record_of old r).writers) }
  taken_record back =
      back.is ∙ ap (without_reservation txn) (own_left old mid r txn q is w)
      ∙ ap (λ ws. record (record_of old r) { reservation = None; writers = ws }) (sym (filter-append (λ w. not (is_of txn w)) (set_back (record_of old r).reservation) (record_of old r).writers))
