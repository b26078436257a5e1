-- Walks through a list of distinct numbers: what is done so far, followed by what remains, is the whole.
use Rattle.std.proofs.Common.{◌≡◌, ◌≢◌, ℕ, ◌-◌, ◌<◌, ◌≤◌, length, Bool, true, false, cond, Option, Some, None, List, [], ◌∷◌, ◌++◌, refl, sym, ap, ◌∙◌, inl, inr, arith, subst, append_assoc}
use Rattle.std.specs.Prelude.{slice_get, not, map, filter}
use Rattle.std.specs.List.{AllByRecursion, last_or, find}
use Rattle.std.proofs.lemmas.List.{append_cancel_right, append-nil, length-append}
use Rattle.std.proofs.lemmas.List.Elements.{filter-append}
use mathlib.Core.Bool.{true≢false}
use Rattle.lt_ids.specs.declared.ticket.Through.{Through}
use Rattle.lt_links.specs.declared.stand.Stand.{Stand}
use Rattle.lt_links.specs.declared.ids.Queue.{Queue}
use Rattle.lt_links.specs.Ring.{has, is_in, Distinct}
use Rattle.lt_links.specs.Maps.{Maps, queue, stand, has_record, IsSound, Removes}
use Rattle.lt_links.proofs.Rings.{same_or_apart}
use Rattle.lt_rules.specs.Rules.{through_of}
use Rattle.lt_row.specs.declared.queue_walk.Selection.{Selection}
use Rattle.lt_row.specs.Row.{line, stand_at, stands_at, request_of}
use Rattle.lt_row.specs.Found.{WritesQueue, IsPosition, leaves, goes_on}
use Rattle.lt_row.proofs.Places.{rest_from, behind, Follows, has_later, has_first, cut_at, rest_first, in_first, rest_next, in_next, rest_here, first_in, rest_part, rest_cut, behind_cut, behind_part, off_front, off_back, last_end, last_in}
use Rattle.lt_row.proofs.Written.{stand_is, line_cut, stands_off, written_else, WritesQueue-removed, removed_queue}

-- A walk through the list has come to a position in it, and the value of f for the rest is x.
pub record IsWalk {X : Type 0} (l : List ℕ) (at : Option ℕ) (f : List ℕ → X) (x : X) : Type 0 where
  pub position : is_in l at ≡ true
  pub comes_to : f (rest_from at l) ≡ x

pub IsWalk-first : {X : Type 0} (l : List ℕ) (at : Option ℕ) (f : List ℕ → X) (x : X) → at ≡ slice_get l 0 → Distinct l → f l ≡ x → IsWalk l at f x
IsWalk-first l at f x e d all = record {
  position = in_first at l e;
  comes_to = ap f (rest_first at l e d) ∙ all;
}

pub IsWalk-next : {X : Type 0} (l : List ℕ) (n : ℕ) (at : Option ℕ) (f g : List ℕ → X) (x : X) → Distinct l → IsWalk l (Some n) f x → Follows l n at → ((rest : List ℕ) → g rest ≡ f (n ∷ rest)) → IsWalk l at g x
IsWalk-next l n at f g x d walk follows step = record {
  position = in_next n at l walk.position follows;
  comes_to = step (rest_from at l) ∙ ap f (sym (rest_next n at l walk.position d follows)) ∙ walk.comes_to;
}

-- a property of all entries of a list holds at each of its nodes
pub all_at : (P : Stand → Type 0) (m : Maps) (n : ℕ) (l : List ℕ) → has n l ≡ true → AllByRecursion P (stands_at m l) → P (stand_at m n)
all_at P m n [] there all = absurd (true≢false (sym there))
all_at P m n (x ∷ xs) there all = elim (same_or_apart n x) [
  | inl s ↦ subst (λ k. P (stand_at m k)) (sym s.0) all.0
  | inr o ↦ all_at P m n xs (rw o.1 at there) all.1
]

-- and a property at each of its nodes holds of all entries
pub all_nodes : (P : Stand → Type 0) (m : Maps) (l : List ℕ) → ((n : ℕ) → has n l ≡ true → P (stand_at m n)) → AllByRecursion P (stands_at m l)
all_nodes P m [] each = tt
all_nodes P m (x ∷ xs) each = (each x (has_first x xs), all_nodes P m xs (λ n h. each n (has_later n x xs h)))

pub filter_yes : {X : Type 0} (p : X → Bool) (x : X) (xs : List X) → p x ≡ true → filter p (x ∷ xs) ≡ x ∷ filter p xs
filter_yes p x xs h = ap (λ b. cond b (x ∷ filter p xs) (filter p xs)) h

pub filter_no : {X : Type 0} (p : X → Bool) (x : X) (xs : List X) → p x ≡ false → filter p (x ∷ xs) ≡ filter p xs
filter_no p x xs h = ap (λ b. cond b (x ∷ filter p xs) (filter p xs)) h

-- the lets of these entries
abbrev pub lets_of : Selection → List Stand → List Through
lets_of who stands = map (λ s. through_of (request_of s)) (filter (goes_on who) stands)

-- the lets appended so far, followed by those of the rest
abbrev pub lets_and : Selection → Maps → List Through → List ℕ → List Through
lets_and who m done rest = done ++ lets_of who (stands_at m rest)

abbrev let_of : Stand → Through
let_of s = through_of (request_of s)

-- the let of an entry that is let through is appended to the others
pub lets_more : (who : Selection) (m : Maps) (done : List Through) (n : ℕ) (s : Stand) (rest : List ℕ) → stand m n ≡ Some s → goes_on who s ≡ true → lets_and who m (done ++ through_of (request_of s) ∷ []) rest ≡ lets_and who m done (n ∷ rest)
lets_more who m done n s rest is goes =
    append_assoc done (let_of s ∷ []) (lets_of who (stands_at m rest))
    ∙ ap (λ l. done ++ map let_of l) (sym (ap (λ t. filter (goes_on who) (t ∷ stands_at m rest)) (stand_is m n s is) ∙ filter_yes (goes_on who) s (stands_at m rest) goes))

-- any other entry is passed over
pub lets_same : (who : Selection) (m : Maps) (done : List Through) (n : ℕ) (s : Stand) (rest : List ℕ) → stand m n ≡ Some s → goes_on who s ≡ false → lets_and who m done rest ≡ lets_and who m done (n ∷ rest)
lets_same who m done n s rest is stays =
    ap (λ l. done ++ map let_of l) (sym (ap (λ t. filter (goes_on who) (t ∷ stands_at m rest)) (stand_is m n s is) ∙ filter_no (goes_on who) s (stands_at m rest) stays))

-- what a search finds at the nodes
abbrev pub found_in : (Stand → Bool) → Maps → List ℕ → Option Stand
found_in p m rest = find p (stands_at m rest)

pub found_later : (p : Stand → Bool) (m : Maps) (n : ℕ) (s : Stand) (rest : List ℕ) → stand m n ≡ Some s → p s ≡ false → found_in p m rest ≡ found_in p m (n ∷ rest)
found_later p m n s rest is h = sym (ap (λ t. find p (t ∷ stands_at m rest)) (stand_is m n s is) ∙ ap (λ b. cond b (Some s) (found_in p m rest)) h)

-- the search is over when it has come to what it looks for
pub found_here : (p : Stand → Bool) (m : Maps) (l : List ℕ) (n : ℕ) (s : Stand) (x : Option Stand) → IsWalk l (Some n) (found_in p m) x → stand m n ≡ Some s → p s ≡ true → x ≡ Some s
found_here p m l n s x walk is h =
    let r = rest_here n l walk.position in
    sym walk.comes_to ∙ ap (found_in p m) r.1 ∙ ap (λ t. find p (t ∷ stands_at m r.0)) (stand_is m n s is) ∙ ap (λ b. cond b (Some s) (found_in p m r.0)) h

-- whether the entry stays in the queue
abbrev pub stays : Selection → Stand → Bool
stays who s = not (leaves who s)

-- The entries that leave have been dropped up to a position in the queue, and nothing else has changed.
pub record IsDropping (who : Selection) (old now : Maps) (q : Queue) (at : Option ℕ) : Type 0 where
  pub position : is_in (queue now q) at ≡ true
  pub kept : filter (stays who) (line now q) ≡ filter (stays who) (line old q)
  pub passed : filter (leaves who) (line now q) ≡ filter (leaves who) (stands_at now (rest_from at (queue now q)))
  pub others : (p : Queue) → p ≢ q → line now p ≡ line old p
  pub records : (id : ℕ) → has_record now id ≡ has_record old id
  pub sound : IsSound now

pub IsDropping-first : (who : Selection) (m : Maps) (q : Queue) (at : Option ℕ) → at ≡ slice_get (queue m q) 0 → IsSound m → IsDropping who m m q at
IsDropping-first who m q at e sound = record {
  position = in_first at (queue m q) e;
  kept = refl;
  passed = ap (λ l. filter (leaves who) (stands_at m l)) (sym (rest_first at (queue m q) e (sound.queues_distinct q)));
  others = λ p apart. refl;
  records = λ id. refl;
  sound = sound;
}

-- if no entry leaves, all stay
all_stay : (who : Selection) (l : List Stand) → filter (leaves who) l ≡ [] → filter (stays who) l ≡ l
all_stay who [] none = refl
all_stay who (s ∷ l) none =
    elim (leaves who s) as (λ b. leaves who s ≡ b → filter (stays who) (s ∷ l) ≡ s ∷ l) [
      | true ↦ λ e. let one : s ∷ filter (leaves who) l ≡ [] = sym (filter_yes (leaves who) s l e) ∙ none in cc
      | false ↦ λ e. filter_yes (stays who) s l (ap not e) ∙ ap (λ k. s ∷ k) (all_stay who l (sym (filter_no (leaves who) s l e) ∙ none))
    ] refl

pub IsDropping-end : (who : Selection) (old now : Maps) (q : Queue) → IsDropping who old now q None → WritesQueue old now q (filter (stays who) (line old q))
IsDropping-end who old now q d = record {
  here = sym (all_stay who (line now q) d.passed) ∙ d.kept;
  others = d.others;
  records = d.records;
  sound = d.sound;
}

module _ (who : Selection) (old now : Maps) (q : Queue) (n : ℕ) (s : Stand) (at : Option ℕ) (dropping : IsDropping who old now q (Some n)) (is : stand now n ≡ Some s) (follows : Follows (queue now q) n at) where
  distinct : Distinct (queue now q)
  distinct = dropping.sound.queues_distinct q

  rest_is : rest_from (Some n) (queue now q) ≡ n ∷ rest_from at (queue now q)
  rest_is = rest_next n at (queue now q) dropping.position distinct follows

  -- the walk passes over a node whose entry stays
  pub IsDropping-stays : leaves who s ≡ false → IsDropping who old now q at
  IsDropping-stays h = record {
    position = in_next n at (queue now q) dropping.position follows;
    kept = dropping.kept;
    passed =
        dropping.passed ∙ ap (λ l. filter (leaves who) (stands_at now l)) rest_is
        ∙ ap (λ t. filter (leaves who) (t ∷ stands_at now (rest_from at (queue now q)))) (stand_is now n s is)
        ∙ filter_no (leaves who) s (stands_at now (rest_from at (queue now q))) h;
    others = dropping.others;
    records = dropping.records;
    sound = dropping.sound;
  }

  module _ (next : Maps) (removes : Removes now next n) (sound : IsSound next) where
    abbrev xs : List ℕ
    xs = (cut_at n (queue now q) dropping.position).0

    abbrev ys : List ℕ
    ys = (cut_at n (queue now q) dropping.position).1

    cut : queue now q ≡ xs ++ n ∷ ys
    cut = (cut_at n (queue now q) dropping.position).2

    off : Distinct (xs ++ n ∷ ys)
    off = subst Distinct cut distinct

    left : queue next q ≡ xs ++ ys
    left = removed_queue now next q n xs ys dropping.sound cut removes

    writes : WritesQueue now next q (stands_at now xs ++ stands_at now ys)
    writes = WritesQueue-removed now next q n xs ys dropping.sound cut removes sound

    rest_left : rest_from at (queue next q) ≡ ys
    rest_left = ap (λ a. rest_from a (queue next q)) (follows xs ys cut) ∙ ap (rest_from (slice_get ys 0)) left ∙ rest_part xs ys (subst Distinct left (sound.queues_distinct q))

    rest_was : rest_from (Some n) (queue now q) ≡ n ∷ ys
    rest_was = ap (rest_from (Some n)) cut ∙ rest_cut n xs ys (off_front n xs ys off)

    pub dropping_falls : length (rest_from at (queue next q)) < length (rest_from (Some n) (queue now q))
    dropping_falls = omega (arith, ap length rest_left, ap length rest_was)

    line_is : line now q ≡ stands_at now xs ++ s ∷ stands_at now ys
    line_is = ap (stands_at now) cut ∙ line_cut now n xs ys ∙ ap (λ t. stands_at now xs ++ t ∷ stands_at now ys) (stand_is now n s is)

    ys_same : stands_at next ys ≡ stands_at now ys
    ys_same = stands_off now next n ys (written_else (stand next) (stand now) n None removes.stands_are) (off_back n xs ys off)

    -- the walk removes a node whose entry leaves
    pub IsDropping-leaves : leaves who s ≡ true → IsDropping who old next q at
    IsDropping-leaves h =
        let F : List ℕ → List Stand = λ l. filter (leaves who) (stands_at now l) in
        let G : List ℕ → List Stand = λ l. filter (stays who) (stands_at now l) in
        let was : F xs ++ s ∷ F ys ≡ [] ++ s ∷ F ys =
        ap (λ l. F xs ++ l) (sym (filter_yes (leaves who) s (stands_at now ys) h))
        ∙ sym (filter-append (leaves who) (stands_at now xs) (s ∷ stands_at now ys))
        ∙ ap (filter (leaves who)) (sym line_is)
        ∙ dropping.passed ∙ ap F rest_was
        ∙ ap (λ t. filter (leaves who) (t ∷ stands_at now ys)) (stand_is now n s is)
        ∙ filter_yes (leaves who) s (stands_at now ys) h in
        let none : F xs ≡ [] = append_cancel_right (F xs) [] (s ∷ F ys) was in
        record {
          position = ap (λ l. is_in l at) left ∙ ap (is_in (xs ++ ys)) (follows xs ys cut) ∙ first_in xs ys;
          kept =
              ap (filter (stays who)) writes.here ∙ filter-append (stays who) (stands_at now xs) (stands_at now ys)
              ∙ ap (λ l. G xs ++ l) (sym (filter_no (stays who) s (stands_at now ys) (ap not h)))
              ∙ sym (filter-append (stays who) (stands_at now xs) (s ∷ stands_at now ys))
              ∙ ap (filter (stays who)) (sym line_is) ∙ dropping.kept;
          passed =
              ap (filter (leaves who)) writes.here ∙ filter-append (leaves who) (stands_at now xs) (stands_at now ys)
              ∙ ap (λ l. l ++ F ys) none
              ∙ ap (filter (leaves who)) (sym ys_same)
              ∙ ap (λ l. filter (leaves who) (stands_at next l)) (sym rest_left);
          others = λ p apart. writes.others p apart ∙ dropping.others p apart;
          records = λ id. writes.records id ∙ dropping.records id;
          sound = sound;
        }

-- One move of a walk backward: this number comes immediately before that one.
abbrev pub Precedes : List ℕ → ℕ → Option ℕ → Type 0
Precedes l n at = (xs ys : List ℕ) → l ≡ xs ++ n ∷ ys → at ≡ last_or None xs

-- The search for the position of a number starts at the end: no entry after this node has a smaller number.
pub record IsPlacing (m : Maps) (q : Queue) (number : ℕ) (at : Option ℕ) : Type 0 where
  pub position : is_in (queue m q) at ≡ true
  pub passed : AllByRecursion (λ s. number ≤ s.number) (stands_at m (behind at (queue m q)))

pub IsPlacing-last : (m : Maps) (q : Queue) (number : ℕ) (at : Option ℕ) → at ≡ last_or None (queue m q) → IsSound m → IsPlacing m q number at
IsPlacing-last m q number at e sound =
    let l : List ℕ = queue m q in
    let whole : l ++ [] ≡ l = append-nil l in
    let rest : behind at l ≡ [] = ap (λ a. behind a l) e ∙ ap (behind (last_or None l)) (sym whole) ∙ behind_part l [] (subst Distinct (sym whole) (sound.queues_distinct q)) in
    record {
      position = ap (is_in l) e ∙ ap (λ k. is_in k (last_or None l)) (sym whole) ∙ last_in l [];
      passed = subst (λ k. AllByRecursion (λ s. number ≤ s.number) (stands_at m k)) (sym rest) tt;
    }

module _ (m : Maps) (q : Queue) (number n : ℕ) (placing : IsPlacing m q number (Some n)) (sound : IsSound m) where
  abbrev fore : List ℕ
  fore = (cut_at n (queue m q) placing.position).0

  abbrev aft : List ℕ
  aft = (cut_at n (queue m q) placing.position).1

  is_cut : queue m q ≡ fore ++ n ∷ aft
  is_cut = (cut_at n (queue m q) placing.position).2

  parted : Distinct (fore ++ n ∷ aft)
  parted = subst Distinct is_cut (sound.queues_distinct q)

  behind_here : behind (Some n) (queue m q) ≡ aft
  behind_here = ap (behind (Some n)) is_cut ∙ behind_cut n fore aft (off_front n fore aft parted)

  aft_passed : AllByRecursion (λ s. number ≤ s.number) (stands_at m aft)
  aft_passed = subst (λ k. AllByRecursion (λ s. number ≤ s.number) (stands_at m k)) behind_here placing.passed

  pub IsPosition-here : (s : Stand) → stand m n ≡ Some s → s.number < number → IsPosition m q number (Some n)
  IsPosition-here s is below = record {
    before = fore ++ n ∷ [];
    after = aft;
    cut = is_cut ∙ sym (append_assoc fore (n ∷ []) aft);
    at_is = sym (last_end None fore n);
    smaller = λ k e. let same : k ≡ n = cc in subst (λ t. t < number) (ap (λ (s : Stand). s.number) (sym (stand_is m n s is)) ∙ ap (λ i. (stand_at m i).number) (sym same)) below;
    greater = aft_passed;
  }

  module _ (at : Option ℕ) (precedes : Precedes (queue m q) n at) where
    behind_prev : behind at (queue m q) ≡ n ∷ aft
    behind_prev = ap (λ a. behind a (queue m q)) (precedes fore aft is_cut) ∙ ap (behind (last_or None fore)) is_cut ∙ behind_part fore (n ∷ aft) parted

    pub IsPlacing-prev : (s : Stand) → stand m n ≡ Some s → number ≤ s.number → IsPlacing m q number at
    IsPlacing-prev s is above = record {
      position = ap (is_in (queue m q)) (precedes fore aft is_cut) ∙ ap (λ k. is_in k (last_or None fore)) is_cut ∙ last_in fore (n ∷ aft);
      passed = subst (λ k. AllByRecursion (λ s. number ≤ s.number) (stands_at m k)) (sym behind_prev)
          (subst (λ (t : Stand). number ≤ t.number) (sym (stand_is m n s is)) above, aft_passed);
    }

    pub placing_falls : length (queue m q) - length (behind at (queue m q)) < length (queue m q) - length (behind (Some n) (queue m q))
    placing_falls = omega (arith, ap length behind_prev, ap length behind_here, ap length is_cut, length-append fore (n ∷ aft))
