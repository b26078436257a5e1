-- What the answers of the passes tell, in the final histories.
use Rattle.std.proofs.Common.{◌≡◌, ◌≢◌, ℕ, suc, ◌+◌, ◌<◌, ◌≤◌, ◌==◌, Bool, true, false, cond, eq-eqb, List, [], ◌∷◌, ◌++◌, map, Some, inl, inr, refl, sym, ap, subst, ◌∙◌, arith}
use Rattle.std.specs.Prelude.{slice_get}
use Rattle.std.specs.List.{flat_map, sum, AllByRecursion}
use Rattle.std.proofs.lemmas.Nat.{mod_below}
use Rattle.lt_ids.specs.Ids.{Wait}
use Rattle.lt_entry.specs.declared.entry.Entry.{Entry}
use Rattle.lt_words.specs.declared.event.Event.{Event}
use Rattle.lt_words.specs.declared.event.Event.TheVariants.{Opened, Draw, Step}
use Rattle.lt_words.specs.History.{part, shard_of, IsLetAmong, LetIn, DrewIn, StepsAreInTheirShards, IsLegalHistory}
use Rattle.lt_words.specs.Row.{PassState}
use Rattle.lt_words.proofs.Draws.{draws_stay, numbers_are_of_one_pass}
use Rattle.lt_words.proofs.Prefixes.{prefix_get}
use Rattle.lt_words.proofs.Parts.{prefixes_are_legal}
use Rattle.lt_script.specs.declared.command.Command.{Command}
use Rattle.lt_walk.specs.Machine as runs
use Rattle.lt_runner.specs.declared.outcome.Work.{Work}
use Rattle.lt_runner.specs.Outcomes.{StandsIn, IsBefore, Ascend, IsRising, IsDrawn}
use Rattle.lt_runner.specs.Sessions.{session_pass}
use Rattle.lt_runner.specs.Machine.{Rules, ExecutedLine, lets_of_executed}
use Rattle.lt_runner.specs.Gates.{GateAnswers}
use Rattle.lt_runner.specs.Worked.{IsRun, steps_of_executed, pass_lines}
use Rattle.lt_runner.specs.Turns.{AreNumbered, AreRun}
use Rattle.lt_runner.specs.Standing.{Finals, final_of, Made, made_by, made_from, IsInFinalHistory, IsApart, Apart, NumbersDiffer, run_numbers, IsLetThere, AllStandAtTheEnd}
use Rattle.lt_runner.specs.Closing.{IsWithin}
use Rattle.lt_runner.proofs.Telling.{all_append, all_weaker, stands_at_later}

all_map : {A B : Type 0} (P : B → Type 0) (f : A → B) (xs : List A) → AllByRecursion (λ x. P (f x)) xs → AllByRecursion P (map f xs)
all_map P f [] h = tt
all_map P f (x ∷ xs) h = (h.0, all_map P f xs h.1)

-- ---- one pass

final : (shards : ℕ) (h : List Event) (finals : Finals) (p : PassState) (number : ℕ) (x : runs.Step) → 0 < shards → IsWithin shards h finals p → StandsIn shards number p.seen x → IsInFinalHistory shards finals (made_by number x)
final shards h finals p number x some w s =
    let low : shard_of x.key shards < shards = mod_below (sum x.key) shards some in
    stands_at_later number (part (shard_of x.key shards) p.seen) (final_of finals (shard_of x.key shards)) x (w.parts (shard_of x.key shards) low) s

before_apart : (shards number : ℕ) (x y : runs.Step) → IsBefore shards x y → IsApart shards (made_by number x) (made_by number y)
before_apart shards number x y b = λ same. let lt : x.answer.at < y.answer.at = b same in ((λ e. absurd (omega arith)), λ _. lt)

ascend_apart : (shards number : ℕ) (xs : List runs.Step) → Ascend shards xs → Apart shards (map (made_by number) xs)
ascend_apart shards number [] a = tt
ascend_apart shards number (x ∷ xs) a = (all_map (IsApart shards (made_by number x)) (made_by number) xs (all_weaker (IsBefore shards x) (λ y. IsApart shards (made_by number x) (made_by number y)) xs (before_apart shards number x) a.0), ascend_apart shards number xs a.1)

rise_distinct : (ns : List ℕ) → IsRising ns → NumbersDiffer ns
rise_distinct [] r = tt
rise_distinct (n ∷ ns) r = (all_weaker (λ m. n < m) (λ m. n ≢ m) ns (λ m lt e. absurd (omega arith)) r.0, rise_distinct ns r.1)

-- ---- two passes

-- Steps of different passes have different indices.
others_apart : (shards : ℕ) (finals : Finals) (x y : Made) → IsInFinalHistory shards finals x → IsInFinalHistory shards finals y → x.pass ≢ y.pass → IsApart shards x y
others_apart shards finals x y a b ne = λ same. (
  (λ e. let both : Some a.entry ≡ Some b.entry = sym a.stands ∙ (ap (λ (n : ℕ). slice_get (final_of finals n) x.step.answer.at) same ∙ (ap (λ (n : ℕ). slice_get (final_of finals (shard_of y.step.key shards)) n) e ∙ b.stands)) in
      let one : a.entry ≡ b.entry = cc in ne (sym a.pass_is ∙ (ap (λ (f : Entry). f.pass) one ∙ b.pass_is))),
  (λ e. absurd (ne e)),
)

abbrev IsOwn : ℕ → Made → Type 0
IsOwn p x = x.pass ≡ p

abbrev IsLater : ℕ → Made → Type 0
IsLater p x = p < x.pass

both_apart : (shards : ℕ) (finals : Finals) (p : ℕ) (x : Made) (ys : List Made) → IsInFinalHistory shards finals x → AllByRecursion (IsInFinalHistory shards finals) ys → IsOwn p x → AllByRecursion (IsLater p) ys → AllByRecursion (IsApart shards x) ys
both_apart shards finals p x [] s t o l = tt
both_apart shards finals p x (y ∷ ys) s t o l = (
  others_apart shards finals x y s t.0 (λ e. let lt : p < y.pass = l.0 in let own : x.pass ≡ p = o in absurd (omega arith)),
  both_apart shards finals p x ys s t.1 o l.1,
)

apart_append : (shards : ℕ) (finals : Finals) (p : ℕ) (xs ys : List Made) → AllByRecursion (IsInFinalHistory shards finals) xs → AllByRecursion (IsInFinalHistory shards finals) ys → AllByRecursion (IsOwn p) xs → AllByRecursion (IsLater p) ys → Apart shards xs → Apart shards ys → Apart shards (xs ++ ys)
apart_append shards finals p [] ys s t o l a b = b
apart_append shards finals p (x ∷ xs) ys s t o l a b = (all_append (IsApart shards x) xs ys a.0 (both_apart shards finals p x ys s.0 t o.0 l), apart_append shards finals p xs ys s.1 t o.1 l a.1 b)

own : (p : ℕ) (xs : List runs.Step) → AllByRecursion (IsOwn p) (map (made_by p) xs)
own p [] = tt
own p (x ∷ xs) = (refl, own p xs)

later_weaker : (p q : ℕ) (xs : List Made) → p ≤ q → AllByRecursion (IsLater q) xs → AllByRecursion (IsLater p) xs
later_weaker p q xs le = all_weaker (IsLater q) (IsLater p) xs (λ x lt. let l : q < x.pass = lt in omega arith)

own_later : (p q : ℕ) (xs : List runs.Step) → p < q → AllByRecursion (IsLater p) (map (made_by q) xs)
own_later p q [] lt = tt
own_later p q (x ∷ xs) lt = (lt, own_later p q xs lt)

made_later : (p n : ℕ) (dss : List (List ExecutedLine)) → p < n → AllByRecursion (IsLater p) (made_from n dss)
made_later p n [] lt = tt
made_later p n (ds ∷ dss) lt = all_append (IsLater p) (map (made_by n) (flat_map steps_of_executed ds)) (made_from (n + 1) dss) (own_later p n (flat_map steps_of_executed ds) lt) (made_later p (n + 1) dss (omega arith))

-- Drawn by a pass with a greater pass number.
abbrev IsDrawnLater : List Event → ℕ → ℕ → Type 0
IsDrawnLater h p m = (q : ℕ) × (p < q) × DrewIn h q m

other_number : (shards : ℕ) (h : List Event) (p n m : ℕ) → IsLegalHistory shards h → DrewIn h p n → IsDrawnLater h p m → n ≢ m
other_number shards h p n m legal d l = λ e.
    let same : p ≡ l.0 = numbers_are_of_one_pass shards h p l.0 n legal d (subst (λ (k : ℕ). DrewIn h l.0 k) (sym e) l.2) in
    let lt : p < l.0 = l.1 in
    absurd (omega arith)

distinct_append : (shards : ℕ) (h : List Event) (p : ℕ) (xs ys : List ℕ) → IsLegalHistory shards h → AllByRecursion (DrewIn h p) xs → AllByRecursion (IsDrawnLater h p) ys → NumbersDiffer xs → NumbersDiffer ys → NumbersDiffer (xs ++ ys)
distinct_append shards h p [] ys legal d l a b = b
distinct_append shards h p (x ∷ xs) ys legal d l a b = (all_append (λ m. x ≢ m) xs ys a.0 (all_weaker (IsDrawnLater h p) (λ m. x ≢ m) ys (λ m. other_number shards h p x m legal d.0) l), distinct_append shards h p xs ys legal d.1 l a.1 b)

-- ---- lets

shifted : (b : Bool) (e : Entry) (l : List Entry) (k : ℕ) (y : Entry) → slice_get l k ≡ Some y → (n : ℕ) × (slice_get (cond b (e ∷ l) l) n ≡ Some y)
shifted true e l k y h = (suc k, h)
shifted false e l k y h = (k, h)

-- A step of a shard that let the ticket through, given the number of shards.
record LetsThere (shards : ℕ) (g : List Event) (p : ℕ) (t : Wait) : Type 0 where
  shard : ℕ
  inside : shard < shards
  index : ℕ
  entry : Entry
  stands : slice_get (part shard g) index ≡ Some entry
  lets : IsLetAmong entry.lets p t

let_there : (shards : ℕ) (g : List Event) (p : ℕ) (t : Wait) → 0 < shards → StepsAreInTheirShards shards g → LetIn g p t → LetsThere shards g p t
let_there shards [] p t some home l = absurd l
let_there shards (Opened a b way ∷ g) p t some home l = absurd home
let_there shards (Draw q n ∷ g) p t some home l =
    let old : LetsThere shards g p t = let_there shards g p t some home l in
    record { shard = old.shard; inside = old.inside; index = old.index; entry = old.entry; stands = old.stands; lets = old.lets }
let_there shards (Step s e ∷ g) p t some home (inl l) =
    let hit : (s == s) ≡ true = eq-eqb s s refl in
    let low : s < shards = subst (λ (n : ℕ). n < shards) (sym home.0) (mod_below (sum e.key) shards some) in
    record { shard = s; inside = low; index = 0; entry = e; stands = subst (λ (b : Bool). slice_get (cond b (e ∷ part s g) (part s g)) 0 ≡ Some e) (sym hit) refl; lets = l }
let_there shards (Step s e ∷ g) p t some home (inr l) =
    let old : LetsThere shards g p t = let_there shards g p t some home.1 l in
    let new : (n : ℕ) × (slice_get (cond (old.shard == s) (e ∷ part old.shard g) (part old.shard g)) n ≡ Some old.entry) = shifted (old.shard == s) e (part old.shard g) old.index old.entry old.stands in
    record { shard = old.shard; inside = old.inside; index = new.0; entry = old.entry; stands = new.1; lets = old.lets }

let_final : (shards : ℕ) (h : List Event) (finals : Finals) (p : PassState) (number : ℕ) (t : Wait) → 0 < shards → IsLegalHistory shards h → IsWithin shards h finals p → LetIn p.seen number t → IsLetThere finals number t
let_final shards h finals p number t some legal w l =
    let there : LetsThere shards p.seen number t = let_there shards p.seen number t some (prefixes_are_legal shards p.seen h w.seen legal).home l in
    record { shard = there.shard; index = there.index; entry = there.entry; stands = prefix_get (part there.shard p.seen) (final_of finals there.shard) there.index there.entry (w.parts there.shard there.inside) there.stands; lets = there.lets }

-- ---- all passes

-- All passes are of a book with this many shards.
abbrev pub AreOfShards : ℕ → List PassState → Type 0
AreOfShards shards ps = AllByRecursion (λ p. p.of.shards ≡ shards) ps

abbrev WorksWithin : ℕ → List Event → Finals → List Work → Type 0
WorksWithin shards h finals ws = AllByRecursion (λ w. IsWithin shards h finals (session_pass w.session)) ws

drawn_there : (rules : Rules) (gate : GateAnswers) (shards : ℕ) (h : List Event) (finals : Finals) (p : PassState) (ls : List Command) (ds : List ExecutedLine) (w : Work) → IsRun rules gate p ls ds w → IsWithin shards h finals (session_pass w.session) → AllByRecursion (DrewIn h p.number) (run_numbers ds)
drawn_there rules gate shards h finals p ls ds w r i = all_weaker (IsDrawn p.number p.seen (session_pass w.session).seen) (DrewIn h p.number) (run_numbers ds) (λ n d. draws_stay (session_pass w.session).seen h p.number n i.seen d.drew) r.done.tells.drawn

numbers_later : (rules : Rules) (gate : GateAnswers) (cs : List Command) (shards : ℕ) (h : List Event) (finals : Finals) (q n : ℕ) (ps : List PassState) (dss : List (List ExecutedLine)) (ws : List Work) → AreRun rules gate cs ps dss ws → AreNumbered n ps → q ≤ n → WorksWithin shards h finals ws → AllByRecursion (IsDrawnLater h q) (flat_map run_numbers dss)
numbers_later rules gate cs shards h finals q n [] [] [] r num le i = tt
numbers_later rules gate cs shards h finals q n [] [] (w ∷ ws) r num le i = absurd r
numbers_later rules gate cs shards h finals q n [] (ds ∷ dss) ws r num le i = absurd r
numbers_later rules gate cs shards h finals q n (p ∷ ps) [] ws r num le i = absurd r
numbers_later rules gate cs shards h finals q n (p ∷ ps) (ds ∷ dss) [] r num le i = absurd r
numbers_later rules gate cs shards h finals q n (p ∷ ps) (ds ∷ dss) (w ∷ ws) r num le i =
    let is : p.number ≡ n + 1 = num.0 in
    all_append (IsDrawnLater h q) (run_numbers ds) (flat_map run_numbers dss)
    (all_weaker (DrewIn h p.number) (IsDrawnLater h q) (run_numbers ds) (λ m d. (p.number, omega arith, d)) (drawn_there rules gate shards h finals p (pass_lines p.number cs) ds w r.0 i.0))
    (numbers_later rules gate cs shards h finals q (n + 1) ps dss ws r.1 num.1 (omega arith) i.1)

pub all_stand : (rules : Rules) (gate : GateAnswers) (cs : List Command) (shards : ℕ) (h : List Event) (finals : Finals) (n : ℕ) (ps : List PassState) (dss : List (List ExecutedLine)) (ws : List Work) → 0 < shards → IsLegalHistory shards h → AreOfShards shards ps
    → AreRun rules gate cs ps dss ws → AreNumbered n ps → WorksWithin shards h finals ws → AllStandAtTheEnd shards finals (n + 1) dss
all_stand rules gate cs shards h finals n [] [] [] some legal of r num i = record { stand = tt; apart = tt; distinct = tt; lets = tt }
all_stand rules gate cs shards h finals n [] [] (w ∷ ws) some legal of r num i = absurd r
all_stand rules gate cs shards h finals n [] (ds ∷ dss) ws some legal of r num i = absurd r
all_stand rules gate cs shards h finals n (p ∷ ps) [] ws some legal of r num i = absurd r
all_stand rules gate cs shards h finals n (p ∷ ps) (ds ∷ dss) [] some legal of r num i = absurd r
all_stand rules gate cs shards h finals n (p ∷ ps) (ds ∷ dss) (w ∷ ws) some legal of r num i =
    let rest : AllStandAtTheEnd shards finals (n + 1 + 1) dss = all_stand rules gate cs shards h finals (n + 1) ps dss ws some legal of.1 r.1 num.1 i.1 in
    let q : PassState = session_pass w.session in
    let is : p.number ≡ n + 1 = num.0 in
    let xs : List runs.Step = flat_map steps_of_executed ds in
    let stand : AllByRecursion (StandsIn shards (n + 1) q.seen) xs = subst (λ (k : ℕ). AllByRecursion (StandsIn shards k q.seen) xs) is (subst (λ (s : ℕ). AllByRecursion (StandsIn s p.number q.seen) xs) of.0 r.0.done.tells.stand) in
    let ascend : Ascend shards xs = subst (λ (s : ℕ). Ascend s xs) of.0 r.0.done.tells.ascend in
    let mine : AllByRecursion (IsInFinalHistory shards finals) (map (made_by (n + 1)) xs) = all_map (IsInFinalHistory shards finals) (made_by (n + 1)) xs (all_weaker (StandsIn shards (n + 1) q.seen) (λ x. IsInFinalHistory shards finals (made_by (n + 1) x)) xs (λ x. final shards h finals q (n + 1) x some i.0) stand) in
    let lets : AllByRecursion (LetIn q.seen (n + 1)) (flat_map lets_of_executed ds) = subst (λ (k : ℕ). AllByRecursion (LetIn q.seen k) (flat_map lets_of_executed ds)) is r.0.done.tells.let_in in
    record {
      stand = all_append (IsInFinalHistory shards finals) (map (made_by (n + 1)) xs) (made_from (n + 1 + 1) dss) mine rest.stand;
      apart = apart_append shards finals (n + 1) (map (made_by (n + 1)) xs) (made_from (n + 1 + 1) dss) mine rest.stand (own (n + 1) xs) (made_later (n + 1) (n + 1 + 1) dss (omega arith)) (ascend_apart shards (n + 1) xs ascend) rest.apart;
      distinct = distinct_append shards h p.number (run_numbers ds) (flat_map run_numbers dss) legal (drawn_there rules gate shards h finals p (pass_lines p.number cs) ds w r.0 i.0) (numbers_later rules gate cs shards h finals p.number (n + 1) ps dss ws r.1 num.1 (omega arith) i.1) (rise_distinct (run_numbers ds) r.0.done.tells.rise) rest.distinct;
      lets = (all_weaker (LetIn q.seen (n + 1)) (IsLetThere finals (n + 1)) (flat_map lets_of_executed ds) (λ t. let_final shards h finals q (n + 1) t some legal i.0) lets, rest.lets);
    }
