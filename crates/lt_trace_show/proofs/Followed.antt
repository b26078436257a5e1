-- The phases of a lane, followed from step to step.
use Rattle.std.proofs.Common.{◌≡◌, ◌≤◌, ◌<◌, ℕ, Option, Some, None, Err, List, [], ◌∷◌, ◌++◌, length, get_or, slice_get, inl, inr, refl, sym, ap, subst, ◌∙◌, append_assoc, arith, ◌+◌, zero, suc, drop, add-one, drop-cons}
use Rattle.std.specs.Prelude.{Contains, map, MatchOption}
use Rattle.std.specs.Option.{unwrap_or}
use Rattle.std.specs.Ordering.{nat_cmp}
use Rattle.std.specs.declared.cmp.Ordering.TheVariants.{Equal}
use Rattle.std.specs.List.Sorted.{IsBinarySearchResult}
use Rattle.std.proofs.lemmas.Bool.Decides.{leb_tells, nat_tests}
use Rattle.std.proofs.lemmas.List.{append-nil, get_or-map, get_or_default, length-map}
use Rattle.std.proofs.lemmas.List.Sorted.{searched}
use Rattle.std.proofs.lemmas.Option.{slice_get-get_or}
use Rattle.lt_rules.specs.Rules.{Record}
use Rattle.lt_trace_show.specs.declared.drawn.DrawnStep.{DrawnStep}
use Rattle.lt_trace_show.specs.declared.step.ShownStep.{ShownStep}
use Rattle.lt_trace_show.specs.declared.timeline.Lane.{Lane}
use Rattle.lt_trace_show.specs.declared.timeline.Phase.{Phase}
use Rattle.lt_trace_show.specs.declared.timeline.Phase.TheVariants.{Out}
use Rattle.lt_trace_show.specs.Phases.{phase_of, timeline_of}
use Rattle.lt_trace_show.specs.Change.{NeverFall}
use Rattle.lt_trace_show.specs.Drawn.{AreDrawnSteps, LeadsPhase, IsTimeline}

-- where a list of phases is, if these steps are left
pub record StandsAt (lane : Lane) (whole : List Phase) (done : List Phase) (latest : Phase) (left : List DrawnStep) : Type 0 where
  pub before : Record
  pub shown : List ShownStep
  pub drawn : AreDrawnSteps before shown left
  pub now : latest ≡ phase_of lane before
  pub all : done ++ map (λ s. phase_of lane s.state) shown ≡ whole

abbrev pub Reaches : Lane → Phase → List DrawnStep → List Phase → Phase → List DrawnStep → Type 0
Reaches lane first steps done latest left =
    (before : Record) (shown : List ShownStep) → AreDrawnSteps before shown steps → first ≡ phase_of lane before →
    StandsAt lane (timeline_of lane before shown) done latest left

pub reaches_first : (lane : Lane) (first : Phase) (steps : List DrawnStep) → Reaches lane first steps (first ∷ []) first steps
reaches_first lane first steps = λ before shown drawn is. record {
  before = before;
  shown = shown;
  drawn = drawn;
  now = is;
  all = ap (λ (p : Phase). p ∷ map (λ s. phase_of lane s.state) shown) is;
}

next : (lane : Lane) (whole done : List Phase) (latest q : Phase) (d : DrawnStep) (left : List DrawnStep) (before : Record) (shown : List ShownStep) → LeadsPhase lane latest d q → AreDrawnSteps before shown (d ∷ left) → latest ≡ phase_of lane before → done ++ map (λ s. phase_of lane s.state) shown ≡ whole → StandsAt lane whole (done ++ q ∷ []) q left
next lane whole done latest q d left before [] leads drawn is at = absurd drawn
next lane whole done latest q d left before (s ∷ ss) leads drawn is at =
    let new : q ≡ phase_of lane s.state = leads before s drawn.0 is in
    record {
      before = s.state;
      shown = ss;
      drawn = drawn.1;
      now = new;
      all = append_assoc done (q ∷ []) (map (λ s. phase_of lane s.state) ss) ∙ ap (λ (p : Phase). done ++ p ∷ map (λ s. phase_of lane s.state) ss) new ∙ at;
    }

pub reaches_next : (lane : Lane) (first : Phase) (steps : List DrawnStep) (done : List Phase) (latest q : Phase) (d : DrawnStep) (left : List DrawnStep) → LeadsPhase lane latest d q → Reaches lane first steps done latest (d ∷ left) → Reaches lane first steps (done ++ q ∷ []) q left
reaches_next lane first steps done latest q d left leads r = λ before shown drawn is.
    let here = r before shown drawn is in
    next lane (timeline_of lane before shown) done latest q d left here.before here.shown leads here.drawn here.now here.all

ended : (lane : Lane) (whole done : List Phase) (before : Record) (shown : List ShownStep) → AreDrawnSteps before shown [] → done ++ map (λ s. phase_of lane s.state) shown ≡ whole → done ≡ whole
ended lane whole done before [] drawn at = sym (append-nil done) ∙ at
ended lane whole done before (s ∷ ss) drawn at = absurd drawn

pub reaches_end : (lane : Lane) (first : Phase) (steps : List DrawnStep) (done : List Phase) (latest : Phase) → Reaches lane first steps done latest [] → IsTimeline lane first steps done
reaches_end lane first steps done latest r = λ before shown drawn is.
    let here = r before shown drawn is in
    ended lane (timeline_of lane before shown) done here.before here.shown here.drawn here.all

-- what is known of the phase that a step gives a request
pub follows : (o : Option Phase) (p a b : Phase) → MatchOption o (a ≡ b) (λ q. q ≡ a) → p ≡ b → unwrap_or o p ≡ a
follows None p a b same is = is ∙ sym same
follows (Some q) p a b is _ = is

-- the phase at the index of a number
pub phase_at : (f : ℕ → Phase) (numbers : List ℕ) (phases : List Phase) (number i : ℕ) (o : Option Phase) (A : Type 0) → o ≡ slice_get phases i → i < length numbers → get_or numbers i 0 ≡ number → phases ≡ map f numbers → MatchOption o A (λ q. q ≡ f number)
phase_at f numbers phases number i o A is lt at given =
    let long : i < length phases = rw (given, length-map) lt in
    let some : slice_get phases i ≡ Some (get_or phases i Out) = slice_get-get_or phases i Out long in
    let value : get_or phases i Out ≡ f number = ap (λ ps. get_or ps i Out) given ∙ get_or-map f numbers i 0 Out lt ∙ ap f at in
    subst (λ x. MatchOption x A (λ q. q ≡ f number)) (sym (is ∙ some)) value

-- a number that a search misses is not there
pub missed : (numbers : List ℕ) (number i : ℕ) → IsBinarySearchResult (λ y. nat_cmp y number) numbers (Err i) → NeverFall numbers → Contains numbers number → ⊥
missed numbers number i position rises c =
    let told = searched numbers number (Err i) position rises in
    let lt = c.1 in
    let at : get_or numbers c.0 0 ≡ number = get_or_default numbers c.0 0 number lt ∙ c.2 in
    elim (leb_tells i c.0) [
      | inl after ↦ (let high = told.2 c.0 after.1 lt in omega arith)
      | inr before ↦ (let low = told.1 c.0 before.1 in omega arith)
    ]

tied : (a b : ℕ) → nat_cmp a b ≡ Equal → a ≡ b
tied a b e = grind (arith, nat_tests)

pub same_number : (numbers : List ℕ) (i number : ℕ) → ((d : ℕ) → nat_cmp (get_or numbers i d) number ≡ Equal) → get_or numbers i 0 ≡ number
same_number numbers i number at = tied (get_or numbers i 0) number (at 0)

pub first_at : (f : ℕ → Phase) (g : Lane → ℕ) (lanes : List Lane) (phases : List Phase) (i : ℕ) (d : Lane) (e : Phase) → phases ≡ map f (map g lanes) → i < length lanes → get_or phases i e ≡ f (g (get_or lanes i d))
first_at f g lanes phases i d e is lt =
    let long : i < length (map g lanes) = rw length-map lt in
    ap (λ ps. get_or ps i e) is ∙ get_or-map f (map g lanes) i (g d) e long ∙ ap f (get_or-map g lanes i d (g d) lt)

gone : {X : Type 0} (xs : List X) (i : ℕ) → length xs ≤ i → drop i xs ≡ []
gone [] zero lt = refl
gone [] (suc i) lt = refl
gone (x ∷ xs) zero lt = absurd (omega arith)
gone (x ∷ xs) (suc i) lt = gone xs i (omega arith)

pub reaches_step : (lane : Lane) (first : Phase) (steps : List DrawnStep) (done : List Phase) (latest q : Phase) (i : ℕ) (d : DrawnStep) → i < length steps → d ≡ get_or steps i d → LeadsPhase lane latest d q → Reaches lane first steps done latest (drop i steps) → Reaches lane first steps (done ++ q ∷ []) q (drop (i + 1) steps)
reaches_step lane first steps done latest q i d lt is leads r =
    let cut : drop i steps ≡ d ∷ drop (suc i) steps = drop-cons steps i d lt ∙ ap (λ (x : DrawnStep). x ∷ drop (suc i) steps) (sym is) in
    subst (λ (n : ℕ). Reaches lane first steps (done ++ q ∷ []) q (drop n steps)) (sym (add-one i)) (reaches_next lane first steps done latest q d (drop (suc i) steps) leads (subst (Reaches lane first steps done latest) cut r))

pub reaches_last : (lane : Lane) (first : Phase) (steps : List DrawnStep) (done : List Phase) (latest : Phase) (i : ℕ) → length steps ≤ i → Reaches lane first steps done latest (drop i steps) → IsTimeline lane first steps done
reaches_last lane first steps done latest i lt r = reaches_end lane first steps done latest (subst (Reaches lane first steps done latest) (gone steps i lt) r)
