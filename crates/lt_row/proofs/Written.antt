-- The effect of a change of the links on the entries of the queues.
use Rattle.std.proofs.Common.{◌≡◌, ◌≢◌, ℕ, true, false, cond, Option, Some, None, List, [], ◌∷◌, ◌++◌, refl, sym, ap, ◌∙◌, inl, inr, subst}
use Rattle.std.specs.Prelude.{nat_eq, is_some, unwrap_or}
use Rattle.std.specs.Option.{option_map}
use Rattle.std.proofs.lemmas.List.{map-append}
use mathlib.Core.Bool.{true≢false}
use Rattle.lt_links.specs.declared.stand.Stand.{Stand}
use Rattle.lt_links.specs.declared.ids.Queue.{Queue}
use Rattle.lt_links.specs.Ring.{has, Distinct, without, put_after}
use Rattle.lt_links.specs.Maps.{Maps, queue, stand, txn_at, HasNode, IsSound, PushesFront, InsertsAfter, Removes, MovesFront, SetsStand}
use Rattle.lt_links.proofs.Rings.{same_or_apart, is_itself, without_absent, put_after_absent}
use Rattle.lt_links.proofs.Steps.{is_same, is_other}
use Rattle.lt_row.specs.Row.{line, stand_at, stands_at, no_stand}
use Rattle.lt_row.specs.Found.{WritesQueue, MovesToFront, KeepsNodes}
use Rattle.lt_row.proofs.Places.{is_false, has_cut, off_front, off_back, without_cut, put_after_cut}

-- nodes with the same entries give the same list
pub stands_same : (a b : Maps) (l : List ℕ) → ((n : ℕ) → has n l ≡ true → stand b n ≡ stand a n) → stands_at b l ≡ stands_at a l
stands_same a b [] same = refl
stands_same a b (x ∷ xs) same =
    ap (λ o. unwrap_or o no_stand ∷ stands_at b xs) (same x (rw (is_itself x) refl))
    ∙ ap (λ l. stand_at a x ∷ l) (stands_same a b xs (λ n h. same n (rw h (elim (nat_eq n x) as (λ b. cond b true true ≡ true) [ true ↦ refl | false ↦ refl ]))))

-- if all nodes but one have the same entries, a list without that node is the same
pub stands_off : (a b : Maps) (n : ℕ) (l : List ℕ) → ((i : ℕ) → i ≢ n → stand b i ≡ stand a i) → has n l ≡ false → stands_at b l ≡ stands_at a l
stands_off a b n l else off = stands_same a b l (λ i h. else i (λ e. true≢false (sym h ∙ ap (λ k. has k l) e ∙ off)))

-- an entry that is written at one node is there, and no other node changes
written_here : (f g : ℕ → Option Stand) (n : ℕ) (o : Option Stand) → ((i : ℕ) → f i ≡ cond (nat_eq i n) o (g i)) → f n ≡ o
written_here f g n o is = is n ∙ ap (λ b. cond b o (g n)) (is_itself n)

pub written_else : (f g : ℕ → Option Stand) (n : ℕ) (o : Option Stand) → ((i : ℕ) → f i ≡ cond (nat_eq i n) o (g i)) → (i : ℕ) → i ≢ n → f i ≡ g i
written_else f g n o is i apart = elim (same_or_apart i n) [
  | inl s ↦ absurd (apart s.0)
  | inr d ↦ is i ∙ ap (λ b. cond b o (g i)) d.1
]

pub stand_is : (m : Maps) (n : ℕ) (s : Stand) → stand m n ≡ Some s → stand_at m n ≡ s
stand_is m n s e = ap (λ o. unwrap_or o no_stand) e

pub txn_there : (m : Maps) (n : ℕ) (t : Option ℕ) → HasNode m n → (stand_at m n).txn ≡ t → txn_at m n ≡ Some t
txn_there m n t there same = by_case (stand m n) there same
  where
    by_case : (o : Option Stand) → is_some o ≡ true → (unwrap_or o no_stand).txn ≡ t → option_map (λ (s : Stand). s.txn) o ≡ Some t
    by_case None h e = absurd (true≢false (sym h))
    by_case (Some s) h e = ap Some e

-- a list of entries is cut where its nodes are
pub line_cut : (m : Maps) (n : ℕ) (xs ys : List ℕ) → stands_at m (xs ++ n ∷ ys) ≡ stands_at m xs ++ stand_at m n ∷ stands_at m ys
line_cut m n xs ys = map-append (stand_at m) xs (n ∷ ys)

-- a node without an entry is in no queue
pub not_queued : (m : Maps) (n : ℕ) → IsSound m → stand m n ≡ None → (q : Queue) → has n (queue m q) ≡ false
not_queued m n sound none q = is_false (has n (queue m q)) (λ h. true≢false (sym (sound.queued_there q n h) ∙ ap is_some none))

-- a node in one queue is in no other
pub elsewhere : (m : Maps) (n : ℕ) → IsSound m → (p : Queue) → has n (queue m p) ≡ true → (q : Queue) → q ≢ p → has n (queue m q) ≡ false
elsewhere m n sound p there q apart = is_false (has n (queue m q)) (λ h. apart (sound.one_queue q p n h there))

same_line : (old new : Maps) (n : ℕ) (q : Queue) → ((i : ℕ) → i ≢ n → stand new i ≡ stand old i) → queue new q ≡ queue old q → has n (queue old q) ≡ false → line new q ≡ line old q
same_line old new n q else e off = ap (stands_at new) e ∙ stands_off old new n (queue old q) else off

new_node : (old new : Maps) (n : ℕ) → ((i : ℕ) → i ≢ n → stand new i ≡ stand old i) → stand old n ≡ None → (i : ℕ) → HasNode old i → stand new i ≡ stand old i
new_node old new n else none i there = else i (λ e. true≢false (sym there ∙ ap (λ k. is_some (stand old k)) e ∙ ap is_some none))

module _ (old new : Maps) (n : ℕ) (to : Queue) (s : Stand) (sound : IsSound old) (none : stand old n ≡ None) (pushes : PushesFront old new n to s) where
  pushed_else : (i : ℕ) → i ≢ n → stand new i ≡ stand old i
  pushed_else = written_else (stand new) (stand old) n (Some s) pushes.stands_are

  pushed_others : (q : Queue) → q ≢ to → queue new q ≡ queue old q
  pushed_others q apart = pushes.queues_are q ∙ ap (λ b. cond b (n ∷ queue old q) (queue old q)) (is_other q to apart)

  pub WritesQueue-pushed : IsSound new → WritesQueue old new to (s ∷ line old to)
  WritesQueue-pushed sound' = record {
    here =
        ap (stands_at new) (pushes.queues_are to ∙ ap (λ b. cond b (n ∷ queue old to) (queue old to)) (is_same to))
        ∙ ap (λ t. t ∷ stands_at new (queue old to)) (stand_is new n s (written_here (stand new) (stand old) n (Some s) pushes.stands_are))
        ∙ ap (λ l. s ∷ l) (stands_off old new n (queue old to) pushed_else (not_queued old n sound none to));
    others = λ q apart. same_line old new n q pushed_else (pushed_others q apart) (not_queued old n sound none q);
    records = pushes.records_are;
    sound = sound';
  }

  pub KeepsNodes-pushed : KeepsNodes old new to
  KeepsNodes-pushed = record {
    queues = pushed_others;
    stands = new_node old new n pushed_else none;
  }

module _ (old new : Maps) (q : Queue) (m : ℕ) (xs ys : List ℕ) (sound : IsSound old) (cut : queue old q ≡ xs ++ m ∷ ys) where
  here : has m (queue old q) ≡ true
  here = ap (has m) cut ∙ has_cut m xs ys

  distinct : Distinct (xs ++ m ∷ ys)
  distinct = subst Distinct cut (sound.queues_distinct q)

  m_front : has m xs ≡ false
  m_front = off_front m xs ys distinct

  m_back : has m ys ≡ false
  m_back = off_back m xs ys distinct

  off_part : (k : ℕ) → has k (queue old q) ≡ false → (has k xs ≡ false) × (has k (m ∷ ys) ≡ false)
  off_part k h = parts xs (sym (ap (has k) cut) ∙ h)
    where
      parts : (l : List ℕ) → has k (l ++ m ∷ ys) ≡ false → (has k l ≡ false) × (has k (m ∷ ys) ≡ false)
      parts [] h = (refl, h)
      parts (x ∷ l) h = elim (same_or_apart k x) [
        | inl t ↦ absurd (true≢false (rw t.1 at h))
        | inr d ↦ let r = parts l (rw d.1 at h) in (rw d.1 r.0, r.1)
      ]

  module _ (n : ℕ) (s : Stand) (none : stand old n ≡ None) (inserts : InsertsAfter old new m n s) where
    inserted_else : (i : ℕ) → i ≢ n → stand new i ≡ stand old i
    inserted_else = written_else (stand new) (stand old) n (Some s) inserts.stands_are

    inserted_others : (p : Queue) → p ≢ q → queue new p ≡ queue old p
    inserted_others p apart = inserts.queues_are p ∙ put_after_absent m n (queue old p) (elsewhere old m sound q here p apart)

    pub WritesQueue-inserted : IsSound new → WritesQueue old new q (stands_at old xs ++ stand_at old m ∷ s ∷ stands_at old ys)
    WritesQueue-inserted sound' =
        let off = off_part n (not_queued old n sound none q) in
        let n_is : stand_at new n ≡ s = stand_is new n s (written_here (stand new) (stand old) n (Some s) inserts.stands_are) in
        let apart : m ≢ n = λ e. true≢false (sym here ∙ ap (λ k. has k (queue old q)) e ∙ not_queued old n sound none q) in
        let m_is : stand_at new m ≡ stand_at old m = ap (λ o. unwrap_or o no_stand) (inserted_else m apart) in
        let later : has n ys ≡ false = is_false (has n ys) (λ h. true≢false (sym (later_in h) ∙ off.1)) in
        let xs_are : stands_at new xs ≡ stands_at old xs = stands_off old new n xs inserted_else off.0 in
        let ys_are : stands_at new ys ≡ stands_at old ys = stands_off old new n ys inserted_else later in
        record {
          here =
              ap (stands_at new) (inserts.queues_are q ∙ ap (put_after (Some m) n) cut ∙ put_after_cut m n xs ys m_front)
              ∙ line_cut new m xs (n ∷ ys)
              ∙ ap (λ l. l ++ stand_at new m ∷ stand_at new n ∷ stands_at new ys) xs_are
              ∙ ap (λ t. stands_at old xs ++ t ∷ stand_at new n ∷ stands_at new ys) m_is
              ∙ ap (λ t. stands_at old xs ++ stand_at old m ∷ t ∷ stands_at new ys) n_is
              ∙ ap (λ l. stands_at old xs ++ stand_at old m ∷ s ∷ l) ys_are;
          others = λ p other. same_line old new n p inserted_else (inserted_others p other) (not_queued old n sound none p);
          records = inserts.records_are;
          sound = sound';
        }
      where
        later_in : has n ys ≡ true → has n (m ∷ ys) ≡ true
        later_in h = rw h (elim (nat_eq n m) as (λ b. cond b true true ≡ true) [ true ↦ refl | false ↦ refl ])

    pub KeepsNodes-inserted : KeepsNodes old new q
    KeepsNodes-inserted = record {
      queues = inserted_others;
      stands = new_node old new n inserted_else none;
    }

  module _ (removes : Removes old new m) where
    removed_else : (i : ℕ) → i ≢ m → stand new i ≡ stand old i
    removed_else = written_else (stand new) (stand old) m None removes.stands_are

    pub removed_queue : queue new q ≡ xs ++ ys
    removed_queue = removes.queues_are q ∙ ap (without m) cut ∙ without_cut m xs ys distinct

    pub WritesQueue-removed : IsSound new → WritesQueue old new q (stands_at old xs ++ stands_at old ys)
    WritesQueue-removed sound' = record {
      here =
          ap (stands_at new) removed_queue ∙ map-append (stand_at new) xs ys
          ∙ ap (λ l. l ++ stands_at new ys) (stands_off old new m xs removed_else m_front)
          ∙ ap (λ l. stands_at old xs ++ l) (stands_off old new m ys removed_else m_back);
      others = λ p other.
          let off : has m (queue old p) ≡ false = elsewhere old m sound q here p other in
          same_line old new m p removed_else (removes.queues_are p ∙ without_absent m (queue old p) off) off;
      records = removes.records_are;
      sound = sound';
    }

  module _ (s : Stand) (sets : SetsStand old new m s) where
    set_else : (i : ℕ) → i ≢ m → stand new i ≡ stand old i
    set_else = written_else (stand new) (stand old) m (Some s) sets.stands_are

    pub WritesQueue-set : IsSound new → WritesQueue old new q (stands_at old xs ++ s ∷ stands_at old ys)
    WritesQueue-set sound' = record {
      here =
          ap (stands_at new) (sets.queues_are q ∙ cut) ∙ line_cut new m xs ys
          ∙ ap (λ l. l ++ stand_at new m ∷ stands_at new ys) (stands_off old new m xs set_else m_front)
          ∙ ap (λ t. stands_at old xs ++ t ∷ stands_at new ys) (stand_is new m s (written_here (stand new) (stand old) m (Some s) sets.stands_are))
          ∙ ap (λ l. stands_at old xs ++ s ∷ l) (stands_off old new m ys set_else m_back);
      others = λ p other. same_line old new m p set_else (sets.queues_are p) (elsewhere old m sound q here p other);
      records = sets.records_are;
      sound = sound';
    }

  module _ (to : Queue) (moves : MovesFront old new m to) where
    same_stands : (l : List ℕ) → stands_at new l ≡ stands_at old l
    same_stands l = stands_same old new l (λ n h. moves.stands_are n)

    moved_else : (p : Queue) → p ≢ to → line new p ≡ stands_at old (without m (queue old p))
    moved_else p apart =
        ap (stands_at new) (moves.queues_are p ∙ ap (λ b. cond b (m ∷ without m (queue old p)) (without m (queue old p))) (is_other p to apart))
        ∙ same_stands (without m (queue old p))

    moved_here : line new to ≡ stand_at old m ∷ stands_at old (without m (queue old to))
    moved_here =
        ap (stands_at new) (moves.queues_are to ∙ ap (λ b. cond b (m ∷ without m (queue old to)) (without m (queue old to))) (is_same to))
        ∙ same_stands (m ∷ without m (queue old to))

    left : stands_at old (without m (queue old q)) ≡ stands_at old xs ++ stands_at old ys
    left = ap (λ l. stands_at old (without m l)) cut ∙ ap (stands_at old) (without_cut m xs ys distinct) ∙ map-append (stand_at old) xs ys

    absent : (p : Queue) → p ≢ q → stands_at old (without m (queue old p)) ≡ line old p
    absent p other = ap (stands_at old) (without_absent m (queue old p) (elsewhere old m sound q here p other))

    pub MovesToFront-moved : IsSound new → MovesToFront old new q to (stand_at old m) (stands_at old xs ++ stands_at old ys)
    MovesToFront-moved sound' = record {
      within = λ same. record {
        here = moved_here ∙ ap (λ p. stand_at old m ∷ stands_at old (without m (queue old p))) (sym same) ∙ ap (λ l. stand_at old m ∷ l) left;
        others = λ p other. moved_else p other ∙ absent p (λ e. other (e ∙ same));
        records = moves.records_are;
        sound = sound';
      };
      over = λ apart. record {
        left_is = moved_else q apart ∙ left;
        here = moved_here ∙ ap (λ l. stand_at old m ∷ l) (absent to (λ e. apart (sym e)));
        others = λ p from to. moved_else p to ∙ absent p from;
        records = moves.records_are;
        sound = sound';
      };
    }
