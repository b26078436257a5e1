-- Whoever is at the key after a step is named by what is drawn.
use Rattle.std.proofs.Common.{◌≡◌, List, [], ◌∷◌, ◌++◌, inl, inr, ◌⊎◌, ⊎_elim, refl, sym, subst}
use Rattle.std.specs.Prelude.{Contains, map}
use Rattle.std.specs.List.{flat_map}
use Rattle.std.proofs.lemmas.List.Elements.{Contains-append_left, Contains-append_right, Contains-append_cases}
use Rattle.lt_rules.specs.Rules.{Record}
use Rattle.lt_trace_show.specs.declared.drawn.DrawnStep.{DrawnStep}
use Rattle.lt_trace_show.specs.declared.step.ShownStep.{ShownStep}
use Rattle.lt_trace_show.specs.declared.timeline.Lane.{Lane}
use Rattle.lt_trace_show.specs.declared.timeline.Lane.TheVariants.{Request}
use Rattle.lt_trace_show.specs.Phases.{caller_of}
use Rattle.lt_trace_show.specs.Owners.{holder_lanes, ticket_lane, lanes_in, lanes_at, drawn_lanes, everybody, named_lanes, HaveLanesOf}
use Rattle.lt_trace_show.specs.Drawn.{IsDrawnStep, AreDrawnSteps, state_after}

-- a lane of the step is named, or was there before
at_step : (before : Record) (s : ShownStep) (d : DrawnStep) → IsDrawnStep before s d → (l : Lane) → Contains (lanes_in s.state) l → Contains (drawn_lanes d) l ⊎ Contains (lanes_in before) l
at_step before s d is l c =
    let front = caller_of d.call ∷ map ticket_lane d.tickets.items in
    let numbers = map Request d.changed.items in
    ⊎_elim (λ h. inl (Contains-append_right front (holder_lanes d.holder ++ numbers) l (subst (λ o. Contains (holder_lanes o ++ numbers) l) (sym is.holder) h)))
    (λ h. inr h)
    (is.change.named l c)

called : (before : Record) (s : ShownStep) (d : DrawnStep) → IsDrawnStep before s d → (l : Lane) → Contains (caller_of s.call ∷ map ticket_lane s.tickets.items) l → Contains (drawn_lanes d) l
called before s d is l c =
    let same : caller_of s.call ∷ map ticket_lane s.tickets.items ≡ caller_of d.call ∷ map ticket_lane d.tickets.items = rw (is.call, is.tickets) refl in
    Contains-append_left (caller_of d.call ∷ map ticket_lane d.tickets.items) (holder_lanes d.holder ++ map Request d.changed.items) l (subst (λ ls. Contains ls l) same c)

pub all_drawn : (before : Record) (shown : List ShownStep) (drawn : List DrawnStep) → AreDrawnSteps before shown drawn → (l : Lane) → Contains (everybody before shown) l → Contains (named_lanes before drawn) l
all_drawn before [] [] are l c = c
all_drawn before [] (d ∷ ds) are l c = absurd are
all_drawn before (s ∷ ss) [] are l c = absurd are
all_drawn before (s ∷ ss) (d ∷ ds) are l c =
    let own = drawn_lanes d in
    let rest = flat_map drawn_lanes ds in
    let at : Contains own l → Contains (named_lanes before (d ∷ ds)) l = λ m. Contains-append_right (lanes_in before) (own ++ rest) l (Contains-append_left own rest l m) in
    let behind : Contains rest l → Contains (named_lanes before (d ∷ ds)) l = λ m. Contains-append_right (lanes_in before) (own ++ rest) l (Contains-append_right own rest l m) in
    let first : Contains (lanes_in before) l → Contains (named_lanes before (d ∷ ds)) l = λ m. Contains-append_left (lanes_in before) (own ++ rest) l m in
    let standing : Contains (lanes_in s.state) l → Contains (named_lanes before (d ∷ ds)) l = λ m. ⊎_elim at first (at_step before s d are.0 l m) in
    ⊎_elim first
    (λ h. ⊎_elim (λ a. ⊎_elim (λ m. at (called before s d are.0 l m)) standing (Contains-append_cases (caller_of s.call ∷ map ticket_lane s.tickets.items) (lanes_in s.state) l a))
    (λ b. ⊎_elim standing behind (Contains-append_cases (lanes_in s.state) rest l (all_drawn s.state ss ds are.1 l (Contains-append_right (lanes_in s.state) (flat_map lanes_at ss) l b))))
    (Contains-append_cases (lanes_at s) (flat_map lanes_at ss) l h))
    (Contains-append_cases (lanes_in before) (lanes_at s ++ flat_map lanes_at ss) l c)

pub have_drawn : (own : List Lane) (before : Record) (shown : List ShownStep) (drawn : List DrawnStep) → AreDrawnSteps before shown drawn → HaveLanesOf own (named_lanes before drawn) → HaveLanesOf own (everybody before shown)
have_drawn own before shown drawn are have = λ l c. have l (all_drawn before shown drawn are l c)

pub drawn_more : (before : Record) (shown : List ShownStep) (drawn : List DrawnStep) (s : ShownStep) (d : DrawnStep) → AreDrawnSteps before shown drawn → IsDrawnStep (state_after before shown) s d → AreDrawnSteps before (shown ++ s ∷ []) (drawn ++ d ∷ [])
drawn_more before [] [] s d are is = (is, tt)
drawn_more before [] (e ∷ ds) s d are is = absurd are
drawn_more before (t ∷ ss) [] s d are is = absurd are
drawn_more before (t ∷ ss) (e ∷ ds) s d are is = (are.0, drawn_more t.state ss ds s d are.1 is)

pub state_more : (before : Record) (shown : List ShownStep) (s : ShownStep) → state_after before (shown ++ s ∷ []) ≡ s.state
state_more before [] s = refl
state_more before (t ∷ ss) s = state_more t.state ss s
