-- A new writer comes after the last writer with a smaller number.
use Rattle.std.proofs.Common.{◌≡◌, ◌≢◌, ℕ, ◌<◌, ◌≤◌, true, Option, Some, None, List, [], ◌∷◌, ◌++◌, refl, sym, ap, ◌∙◌, inl, inr, arith, subst, append_assoc, Result, Ok, Err}
use Rattle.std.specs.Prelude.{map}
use Rattle.std.specs.List.{AllByRecursion, last_or}
use Rattle.std.specs.Result.{OnOk}
use Rattle.std.specs.Ordering.{match_ordering}
use Rattle.std.specs.Cmp.{nat_cmp_is}
use Rattle.std.specs.declared.cmp.Ordering.TheVariants.{Less, Greater}
use Rattle.std.proofs.lemmas.List.{map-append}
use Rattle.lt_links.specs.declared.stand.Stand.{Stand}
use Rattle.lt_links.specs.declared.ids.Queue.{Queue}
use Rattle.lt_links.specs.Ring.{has}
use Rattle.lt_links.specs.Maps.{Maps, queue, HasNode, IsSound}
use Rattle.lt_rules.specs.declared.queued.QueuedRequest.{QueuedRequest}
use Rattle.lt_rules.specs.declared.queued.QueuedWriter.{QueuedWriter}
use Rattle.lt_rules.specs.Rules.{number_of, writer_number}
use Rattle.lt_rules.specs.Lawful.{Rises}
use Rattle.lt_rules.specs.Visit.{enqueue, waiting}
use Rattle.lt_rules.proofs.Cases.{all_weaker, all_map, all_append, all_front, all_back, all_both}
use Rattle.lt_row.specs.Row.{line, stand_at, stands_at, request_of, writer_of, IsNamed}
use Rattle.lt_row.specs.Found.{WritesQueue, IsPosition, KeepsNodes, PutsWriter}
use Rattle.lt_row.proofs.Places.{has_cut, ends, last_end}
use Rattle.lt_row.proofs.Written.{line_cut}

-- a request comes between the writers with smaller numbers and those with greater ones
pub enqueue_between : (ws vs : List QueuedWriter) (q : QueuedRequest) → AllByRecursion (λ w. writer_number w < number_of q) ws → AllByRecursion (λ w. number_of q < writer_number w) vs → enqueue (ws ++ vs) q ≡ ws ++ waiting q ∷ vs
enqueue_between [] [] q smaller greater = refl
enqueue_between [] (v ∷ vs) q smaller greater =
    ap (λ c. match_ordering c (waiting q ∷ v ∷ vs) (waiting q ∷ vs) (v ∷ enqueue vs q)) (sym (nat_cmp_is (number_of q) (writer_number v) Less greater.0))
enqueue_between (w ∷ ws) vs q smaller greater =
    ap (λ c. match_ordering c (waiting q ∷ w ∷ (ws ++ vs)) (waiting q ∷ (ws ++ vs)) (w ∷ enqueue (ws ++ vs) q)) (sym (nat_cmp_is (number_of q) (writer_number w) Greater smaller.0))
    ∙ ap (λ l. w ∷ l) (enqueue_between ws vs q smaller.1 greater)

-- if numbers rise, each number before one is smaller
rises_before : (ws vs : List QueuedWriter) (v : QueuedWriter) → Rises (ws ++ v ∷ vs) → AllByRecursion (λ w. writer_number w < writer_number v) ws
rises_before [] vs v rises = tt
rises_before (w ∷ ws) vs v rises = (
  (all_back (λ x. writer_number w < writer_number x) ws (v ∷ vs) rises.0).0,
  rises_before ws vs v rises.1,
)

-- if the last number is smaller, all are
all_smaller : (m : Maps) (number : ℕ) (before : List ℕ) (vs : List QueuedWriter) → Rises (map writer_of (stands_at m before) ++ vs) → ((n : ℕ) → last_or None before ≡ Some n → (stand_at m n).number < number) → AllByRecursion (λ w. writer_number w < number) (map writer_of (stands_at m before))
all_smaller m number before vs rises last = elim (ends before) [
  | inl e ↦ subst (λ l. AllByRecursion (λ w. writer_number w < number) (map writer_of (stands_at m l))) (sym e) tt
  | inr (bs, b, e) ↦
      let W : List ℕ → List QueuedWriter = λ l. map writer_of (stands_at m l) in
      let below : (stand_at m b).number < number = last b (ap (last_or None) e ∙ last_end None bs b) in
      let cut : W before ≡ W bs ++ writer_of (stand_at m b) ∷ [] =
      ap W e ∙ ap (map writer_of) (line_cut m b bs []) ∙ map-append writer_of (stands_at m bs) (stand_at m b ∷ []) in
      let joined : W before ++ vs ≡ W bs ++ writer_of (stand_at m b) ∷ vs =
      ap (λ l. l ++ vs) cut ∙ append_assoc (W bs) (writer_of (stand_at m b) ∷ []) vs in
      let front : AllByRecursion (λ w. writer_number w < (stand_at m b).number) (W bs) =
      rises_before (W bs) vs (writer_of (stand_at m b)) (subst Rises joined rises) in
      subst (AllByRecursion (λ w. writer_number w < number)) (sym cut)
      (all_append (λ w. writer_number w < number) (W bs) (writer_of (stand_at m b) ∷ [])
      (all_weaker (λ w. writer_number w < (stand_at m b).number) (λ w. writer_number w < number) (λ w lt. omega arith) (W bs) front)
      (below, tt))
]

module _ (m : Maps) (q : Queue) (s : Stand) (at : Option ℕ) (position : IsPosition m q s.number at) where
  abbrev fore : List Stand
  fore = stands_at m position.before

  abbrev aft : List Stand
  aft = stands_at m position.after

  parts : line m q ≡ fore ++ aft
  parts = ap (stands_at m) position.cut ∙ map-append (stand_at m) position.before position.after

  writers : map writer_of (line m q) ≡ map writer_of fore ++ map writer_of aft
  writers = ap (map writer_of) parts ∙ map-append writer_of fore aft

  -- a waiting writer at the position of its number is where the rules put it
  pub placed : Rises (map writer_of (line m q)) → AllByRecursion (λ s'. s'.number ≢ s.number) (line m q) → s.active ≡ true → map writer_of (fore ++ s ∷ aft) ≡ enqueue (map writer_of (line m q)) (request_of s)
  placed rises missing active =
      let smaller : AllByRecursion (λ w. writer_number w < s.number) (map writer_of fore) =
      all_smaller m s.number position.before (map writer_of aft) (subst Rises writers rises) (λ n e. position.smaller n (position.at_is ∙ e)) in
      let others : AllByRecursion (λ s'. s'.number ≢ s.number) aft =
      all_back (λ s'. s'.number ≢ s.number) fore aft (subst (AllByRecursion (λ s'. s'.number ≢ s.number)) parts missing) in
      let above : AllByRecursion (λ s'. s.number < s'.number) aft =
      all_weaker (λ s'. (s.number ≤ s'.number) × (s'.number ≢ s.number)) (λ s'. s.number < s'.number) (λ s' h. omega arith) aft
      (all_both (λ s'. s.number ≤ s'.number) (λ s'. s'.number ≢ s.number) aft position.greater others) in
      let greater : AllByRecursion (λ w. s.number < writer_number w) (map writer_of aft) =
      all_map (λ w. s.number < writer_number w) writer_of aft above in
      let waits : waiting (request_of s) ≡ writer_of s = ap (λ b. record { request = request_of s; active = b }) (sym active) in
      map-append writer_of fore (s ∷ aft)
      ∙ ap (λ w. map writer_of fore ++ w ∷ map writer_of aft) (sym waits)
      ∙ sym (ap (λ l. enqueue l (request_of s)) writers ∙ enqueue_between (map writer_of fore) (map writer_of aft) (request_of s) smaller greater)

  pub named_with : IsNamed s → AllByRecursion IsNamed (line m q) → AllByRecursion IsNamed (fore ++ s ∷ aft)
  named_with named all =
      let both : AllByRecursion IsNamed (fore ++ aft) = subst (AllByRecursion IsNamed) parts all in
      all_append IsNamed fore (s ∷ aft) (all_front IsNamed fore aft both) (named, all_back IsNamed fore aft both)

  pub PutsWriter-placed : (new : Maps) → Rises (map writer_of (line m q)) → AllByRecursion (λ s'. s'.number ≢ s.number) (line m q) → s.active ≡ true → IsNamed s → WritesQueue m new q (fore ++ s ∷ aft) → KeepsNodes m new q → PutsWriter m new q s
  PutsWriter-placed new rises missing active named writes keeps = record {
    after = fore ++ s ∷ aft;
    writes = writes;
    keeps = keeps;
    is_placed = placed rises missing active;
    named = named_with named;
  }

-- at the front
pub PutsWriter-first : (old new : Maps) (q : Queue) (s : Stand) → IsPosition old q s.number None → Rises (map writer_of (line old q)) → AllByRecursion (λ s'. s'.number ≢ s.number) (line old q) → s.active ≡ true → IsNamed s → WritesQueue old new q (s ∷ line old q) → KeepsNodes old new q → PutsWriter old new q s
PutsWriter-first old new q s position rises missing active named writes keeps =
    let none : position.before ≡ [] = empty position.before (sym position.at_is) in
    let all : s ∷ line old q ≡ stands_at old position.before ++ s ∷ stands_at old position.after =
    ap (λ l. s ∷ l) (parts old q s None position)
    ∙ ap (λ l. s ∷ stands_at old l ++ stands_at old position.after) none
    ∙ ap (λ l. stands_at old l ++ s ∷ stands_at old position.after) (sym none) in
    PutsWriter-placed old q s None position new rises missing active named (subst (WritesQueue old new q) all writes) keeps
  where
    empty : (l : List ℕ) → last_or None l ≡ None → l ≡ []
    empty l e = elim (ends l) [
      | inl n ↦ n
      | inr (bs, b, f) ↦ let no_last : None ≡ Some b = sym e ∙ ap (last_or None) f ∙ last_end None bs b in cc
    ]

-- the node of a position is the last one before it
last_before : (m : Maps) (q : Queue) (number n : ℕ) (position : IsPosition m q number (Some n)) → (bs : List ℕ) × (position.before ≡ bs ++ n ∷ [])
last_before m q number n position = elim (ends position.before) [
  | inl e ↦ let no_last : Some n ≡ None = position.at_is ∙ ap (last_or None) e in absurd (cc)
  | inr (bs, b, e) ↦
      let same : Some n ≡ Some b = position.at_is ∙ ap (last_or None) e ∙ last_end None bs b in
      let is : b ≡ n = cc in
      (bs, e ∙ ap (λ k. bs ++ k ∷ []) is)
]

cut_behind : (m : Maps) (q : Queue) (number n : ℕ) (position : IsPosition m q number (Some n)) → queue m q ≡ (last_before m q number n position).0 ++ n ∷ position.after
cut_behind m q number n position =
    let r = last_before m q number n position in
    position.cut ∙ ap (λ l. l ++ position.after) r.1 ∙ append_assoc r.0 (n ∷ []) position.after

-- and it is in the links
pub place_there : (m : Maps) (q : Queue) (number n : ℕ) → IsSound m → IsPosition m q number (Some n) → HasNode m n
place_there m q number n sound position =
    let r = last_before m q number n position in
    sound.queued_there q n (ap (has n) (cut_behind m q number n position) ∙ has_cut n r.0 position.after)

-- after a node
pub PutsWriter-behind : (old new : Maps) (q : Queue) (s : Stand) (n : ℕ) → IsPosition old q s.number (Some n) → Rises (map writer_of (line old q)) → AllByRecursion (λ s'. s'.number ≢ s.number) (line old q) → s.active ≡ true → IsNamed s → ((p : Queue) (xs ys : List ℕ) → queue old p ≡ xs ++ n ∷ ys → WritesQueue old new p (stands_at old xs ++ stand_at old n ∷ s ∷ stands_at old ys) × KeepsNodes old new p) → PutsWriter old new q s
PutsWriter-behind old new q s n position rises missing active named puts =
    let r = last_before old q s.number n position in
    let put = puts q r.0 position.after (cut_behind old q s.number n position) in
    let before : stands_at old position.before ≡ stands_at old r.0 ++ stand_at old n ∷ [] = ap (stands_at old) r.1 ∙ line_cut old n r.0 [] in
    let all : stands_at old r.0 ++ stand_at old n ∷ s ∷ stands_at old position.after ≡ stands_at old position.before ++ s ∷ stands_at old position.after =
    sym (ap (λ l. l ++ s ∷ stands_at old position.after) before ∙ append_assoc (stands_at old r.0) (stand_at old n ∷ []) (s ∷ stands_at old position.after)) in
    PutsWriter-placed old q s (Some n) position new rises missing active named (subst (WritesQueue old new q) all put.0) put.1

-- what follows from the promise of a call that succeeded
pub on_ok : {T E : Type 0} (r : Result T E) (P Q : Type 0) → (P → Q) → OnOk r P → OnOk r Q
on_ok (Ok x) P Q f p = f p
on_ok (Err e) P Q f p = tt

pub on_ok_both : {T E : Type 0} (r : Result T E) (P Q R : Type 0) → (P → Q → R) → OnOk r P → OnOk r Q → OnOk r R
on_ok_both (Ok x) P Q R f p q = f p q
on_ok_both (Err e) P Q R f p q = tt
