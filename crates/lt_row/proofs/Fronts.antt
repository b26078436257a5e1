-- The writers that leave when the lock comes free: those without a transaction before the first with one, and that
-- one.
use Rattle.std.proofs.Common.{◌≡◌, ◌≢◌, ◌<◌, ℕ, suc, Bool, true, false, cond, Option, Some, None, List, [], ◌∷◌, ◌++◌, length, map, filter, slice_get, is_some, refl, sym, ap, ◌∙◌, arith, append_assoc}
use Rattle.std.specs.Prelude.{take, drop, nat_le}
use Rattle.std.specs.List.{AllByRecursion, find}
use Rattle.std.proofs.lemmas.List.{append-nil}
use Rattle.std.proofs.lemmas.Bool.Decides.{nat_tests}
use Rattle.lt_ids.specs.declared.ticket.Through.{Through}
use Rattle.lt_rules.specs.Rules.{has_txn, through_of, active_requests, leading}
use Rattle.lt_links.specs.declared.stand.Stand.{Stand}
use Rattle.lt_links.specs.declared.ids.Queue.{Queue}
use Rattle.lt_links.specs.Maps.{Maps, queue, stand, has_record, IsSound, Removes}
use Rattle.lt_row.specs.Row.{line, stands_at, request_of, writer_of}
use Rattle.lt_row.specs.Found.{waiting_lets, leading_writers, from_txn, WritesQueue}
use Rattle.lt_row.proofs.Places.{rest_here}
use Rattle.lt_row.proofs.Walks.{IsWalk}
use Rattle.lt_row.proofs.Written.{stand_is, WritesQueue-removed, removed_queue}

-- ---- these writers, as the rules name them

pub front_of : (l : List Stand) → map writer_of (leading_writers l) ≡ take (suc (leading (map writer_of l))) (map writer_of l)
front_of [] = refl
front_of (s ∷ l) = elim (is_some s.txn) as (λ b. map writer_of (cond b (s ∷ []) (s ∷ leading_writers l)) ≡ take (suc (cond b 0 (suc (leading (map writer_of l))))) (writer_of s ∷ map writer_of l)) [
  | true ↦ refl
  | false ↦ ap (λ ws. writer_of s ∷ ws) (front_of l)
]

-- the writer that is next
pub next_of : (l : List Stand) → find has_txn (map writer_of l) ≡ slice_get (map writer_of (from_txn l)) 0
next_of [] = refl
next_of (s ∷ l) = elim (is_some s.txn) as (λ b. cond b (Some (writer_of s)) (find has_txn (map writer_of l)) ≡ slice_get (map writer_of (cond b (s ∷ l) (from_txn l))) 0) [
  | true ↦ refl
  | false ↦ next_of l
]

-- the writers after these
pub behind_front : (l : List Stand) → drop (suc (leading (map writer_of l))) (map writer_of l) ≡ drop 1 (map writer_of (from_txn l))
behind_front [] = refl
behind_front (s ∷ l) = elim (is_some s.txn) as (λ b. drop (suc (cond b 0 (suc (leading (map writer_of l))))) (writer_of s ∷ map writer_of l) ≡ drop 1 (map writer_of (cond b (s ∷ l) (from_txn l)))) [
  | true ↦ refl
  | false ↦ behind_front l
]

pub all_from_txn : (P : Stand → Type 0) (l : List Stand) → AllByRecursion P l → AllByRecursion P (from_txn l)
all_from_txn P [] all = tt
all_from_txn P (s ∷ l) all = elim (is_some s.txn) as (λ b. AllByRecursion P (cond b (s ∷ l) (from_txn l))) [
  | true ↦ all
  | false ↦ all_from_txn P l all.1
]

-- ---- their lets

pub waiting_of : (l : List Stand) → waiting_lets l ≡ map through_of (active_requests (map writer_of l))
waiting_of [] = refl
waiting_of (s ∷ l) = elim s.active as (λ b. map (λ t. through_of (request_of t)) (cond b (s ∷ filter (λ t. t.active) l) (filter (λ t. t.active) l)) ≡ map through_of (map (λ w. w.request) (cond b (writer_of s ∷ filter (λ w. w.active) (map writer_of l)) (filter (λ w. w.active) (map writer_of l))))) [
  | true ↦ ap (λ ts. through_of (request_of s) ∷ ts) (waiting_of l)
  | false ↦ waiting_of l
]

pub front_lets_of : (l : List Stand) → waiting_lets (leading_writers l) ≡ map through_of (active_requests (take (suc (leading (map writer_of l))) (map writer_of l)))
front_lets_of l = waiting_of (leading_writers l) ∙ ap (λ ws. map through_of (active_requests ws)) (front_of l)

-- a waiting entry has one let, and an inactive one has none
pub one_let : (s : Stand) → s.active ≡ true → waiting_lets (s ∷ []) ≡ through_of (request_of s) ∷ []
one_let s e = ap (λ b. map (λ t. through_of (request_of t)) (cond b (s ∷ []) [])) e

pub no_let : (s : Stand) → s.active ≡ false → waiting_lets (s ∷ []) ≡ []
no_let s e = ap (λ b. map (λ t. through_of (request_of t)) (cond b (s ∷ []) [])) e

waiting_cons : (s : Stand) (l : List Stand) → waiting_lets (s ∷ l) ≡ waiting_lets (s ∷ []) ++ waiting_lets l
waiting_cons s l = elim s.active as (λ b. map (λ t. through_of (request_of t)) (cond b (s ∷ filter (λ t. t.active) l) (filter (λ t. t.active) l)) ≡ map (λ t. through_of (request_of t)) (cond b (s ∷ []) []) ++ waiting_lets l) [
  | true ↦ refl
  | false ↦ refl
]

-- the lets appended so far, followed by those of the rest
abbrev pub front_and : Maps → List Through → List ℕ → List Through
front_and m done rest = done ++ waiting_lets (leading_writers (stands_at m rest))

-- after a writer without a transaction, the walk proceeds
pub front_more : (m : Maps) (done : List Through) (n : ℕ) (s : Stand) (rest : List ℕ) → stand m n ≡ Some s → is_some s.txn ≡ false → front_and m (done ++ waiting_lets (s ∷ [])) rest ≡ front_and m done (n ∷ rest)
front_more m done n s rest is none =
    append_assoc done (waiting_lets (s ∷ [])) (waiting_lets (leading_writers (stands_at m rest)))
    ∙ ap (λ l. done ++ l) (sym (waiting_cons s (leading_writers (stands_at m rest))))
    ∙ ap (λ l. done ++ waiting_lets l) (sym (ap (λ t. leading_writers (t ∷ stands_at m rest)) (stand_is m n s is) ∙ ap (λ b. cond b (s ∷ []) (s ∷ leading_writers (stands_at m rest))) none))

-- the lets of the rest begin with that of the next writer
pub front_part : (m : Maps) (done : List Through) (n : ℕ) (s : Stand) (rest : List ℕ) → stand m n ≡ Some s → (extra : List Through) × ((done ++ waiting_lets (s ∷ [])) ++ extra ≡ front_and m done (n ∷ rest))
front_part m done n s rest is = elim (is_some s.txn) as (λ b. is_some s.txn ≡ b → (extra : List Through) × ((done ++ waiting_lets (s ∷ [])) ++ extra ≡ front_and m done (n ∷ rest))) [
  | true ↦ λ e. ([], append-nil (done ++ waiting_lets (s ∷ [])) ∙ ap (λ k. done ++ waiting_lets k) (sym (ap (λ t. leading_writers (t ∷ stands_at m rest)) (stand_is m n s is) ∙ ap (λ b. cond b (s ∷ []) (s ∷ leading_writers (stands_at m rest))) e)))
  | false ↦ λ e. (waiting_lets (leading_writers (stands_at m rest)), front_more m done n s rest is e)
] refl

-- and it ends at a writer with a transaction
pub front_end : (m : Maps) (l : List ℕ) (done : List Through) (n : ℕ) (s : Stand) (x : List Through) → IsWalk l (Some n) (front_and m done) x → stand m n ≡ Some s → is_some s.txn ≡ true → done ++ waiting_lets (s ∷ []) ≡ x
front_end m l done n s x walk is some =
    let r = rest_here n l walk.position in
    ap (λ k. done ++ waiting_lets k) (sym (ap (λ t. leading_writers (t ∷ stands_at m r.0)) (stand_is m n s is) ∙ ap (λ b. cond b (s ∷ []) (s ∷ leading_writers (stands_at m r.0))) some))
    ∙ ap (front_and m done) (sym r.1) ∙ walk.comes_to

pub front_all : (m : Maps) (l : List ℕ) (done : List Through) (x : List Through) → IsWalk l None (front_and m done) x → done ≡ x
front_all m l done x walk = sym (append-nil done) ∙ walk.comes_to

-- ---- the writers without a transaction are removed

-- Some of them have been removed, and nothing else has changed. The walk is at the first remaining writer.
pub record IsLeading (old now : Maps) (q : Queue) (at : Option ℕ) : Type 0 where
  pub first : at ≡ slice_get (queue now q) 0
  pub left : from_txn (line now q) ≡ from_txn (line old q)
  pub others : (p : Queue) → p ≢ q → line now p ≡ line old p
  pub records : (id : ℕ) → has_record now id ≡ has_record old id
  pub sound : IsSound now

pub IsLeading-first : (m : Maps) (q : Queue) (at : Option ℕ) → at ≡ slice_get (queue m q) 0 → IsSound m → IsLeading m m q at
IsLeading-first m q at e sound = record {
  first = e;
  left = refl;
  others = λ p apart. refl;
  records = λ id. refl;
  sound = sound;
}

none_first : (l : List ℕ) → None ≡ slice_get l 0 → l ≡ []
none_first [] e = refl
none_first (x ∷ l) e = cc

some_first : (l : List ℕ) (n : ℕ) → Some n ≡ slice_get l 0 → (ys : List ℕ) × (l ≡ n ∷ ys)
some_first [] n e = absurd (cc)
some_first (x ∷ l) n e = (l, let same : n ≡ x = cc in ap (λ y. y ∷ l) (sym same))

pub IsLeading-end : (old now : Maps) (q : Queue) → IsLeading old now q None → WritesQueue old now q (from_txn (line old q))
IsLeading-end old now q leading = record {
  here =
      let none : line now q ≡ [] = ap (stands_at now) (none_first (queue now q) leading.first) in
      none ∙ ap from_txn (sym none) ∙ leading.left;
  others = leading.others;
  records = leading.records;
  sound = leading.sound;
}

module _ (old now : Maps) (q : Queue) (n : ℕ) (s : Stand) (leading : IsLeading old now q (Some n)) (is : stand now n ≡ Some s) where
  abbrev ys : List ℕ
  ys = (some_first (queue now q) n leading.first).0

  cut : queue now q ≡ n ∷ ys
  cut = (some_first (queue now q) n leading.first).1

  line_is : line now q ≡ s ∷ stands_at now ys
  line_is = ap (stands_at now) cut ∙ ap (λ t. t ∷ stands_at now ys) (stand_is now n s is)

  -- the first remaining writer has a transaction
  pub IsLeading-stops : is_some s.txn ≡ true → WritesQueue old now q (from_txn (line old q))
  IsLeading-stops some = record {
    here = line_is ∙ sym (ap from_txn line_is ∙ ap (λ b. cond b (s ∷ stands_at now ys) (from_txn (stands_at now ys))) some) ∙ leading.left;
    others = leading.others;
    records = leading.records;
    sound = leading.sound;
  }

  -- it has none, and is removed
  module _ (next : Maps) (at : Option ℕ) (removes : Removes now next n) (sound : IsSound next) where
    writes : WritesQueue now next q (stands_at now ys)
    writes = WritesQueue-removed now next q n [] ys leading.sound cut removes sound

    pub leading_falls : length (queue next q) < length (queue now q)
    leading_falls = omega (arith, ap length (removed_queue now next q n [] ys leading.sound cut removes), ap length cut)

    pub IsLeading-next : is_some s.txn ≡ false → at ≡ slice_get (queue next q) 0 → IsLeading old next q at
    IsLeading-next none e = record {
      first = e;
      left = ap from_txn writes.here ∙ sym (ap from_txn line_is ∙ ap (λ b. cond b (s ∷ stands_at now ys) (from_txn (stands_at now ys))) none) ∙ leading.left;
      others = λ p apart. writes.others p apart ∙ leading.others p apart;
      records = λ id. writes.records id ∙ leading.records id;
      sound = sound;
    }

-- ---- the length of a queue

-- whether at least this many entries remain
abbrev pub are_left : ℕ → List ℕ → Bool
are_left left rest = nat_le left (length rest)

pub one_less : (left next : ℕ) (n : ℕ) (rest : List ℕ) → left ≡ suc next → are_left next rest ≡ are_left left (n ∷ rest)
one_less left next n rest e = rw e (grind (arith, nat_tests))

pub stands_length : (m : Maps) (l : List ℕ) → length (stands_at m l) ≡ length l
stands_length m [] = refl
stands_length m (x ∷ l) = ap suc (stands_length m l)
