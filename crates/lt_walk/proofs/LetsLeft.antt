-- The lets of reported steps are left to be told.
use Rattle.std.proofs.Common.{◌≡◌, ◌≢◌, ◌∙◌, ℕ, ◌<◌, Option, Some, None, List, [], ◌∷◌, ◌++◌, length, length-set, get_or, get_or-set_same, get_or-set_other, ap, sym, subst, refl, inl, inr, arith}
use mathlib.Core.Logic.{dite}
use native.Mathlib.Decide.{ℕ_discrete}
use Rattle.lt_ids.specs.Ids.{Wait}
use Rattle.lt_ids.specs.declared.ticket.Through.{Through}
use Rattle.lt_words.specs.History.{IsLetAmong}
use Rattle.lt_words.specs.Row.{PassState, with_let, with_lets}
use Rattle.lt_walk.specs.Machine.{Step}
use Rattle.lt_walk.specs.Reported.{AreReported, lets_reported, LetsAreLeft}

lets_append : (l : List (Option Wait)) (xs ys : List Through) → with_lets l (xs ++ ys) ≡ with_lets (with_lets l xs) ys
lets_append l [] ys = refl
lets_append l (t ∷ xs) ys = lets_append (with_let l t) xs ys

exact : (old new : PassState) (xs : List Step) → (r : AreReported old xs new) → new.wakes.untold ≡ with_lets old.wakes.untold (lets_reported old xs new r)
exact old new [] r = ap (λ p. p.wakes.untold) r
exact old new (x ∷ xs) r =
    let rest = lets_reported r.0 xs new r.2 in
    exact r.0 new xs r.2 ∙ (ap (λ l. with_lets l rest) r.1.reports.untold ∙ sym (lets_append old.wakes.untold r.1.entry.lets rest))

some_is : (w : Wait) (o : Option Wait) → o ≡ Some w → o ≢ None
some_is w o is = λ none. absurd cc

-- the pass of a let has a let left, and so has a pass that had one
here : (l : List (Option Wait)) (t : Through) → t.pass < length l → get_or (with_let l t) t.pass None ≢ None
here l t lt = some_is t.ticket (get_or (with_let l t) t.pass None) (get_or-set_same l t.pass (Some t.ticket) None lt)

stays_one : (l : List (Option Wait)) (t : Through) (pass : ℕ) → pass < length l → get_or l pass None ≢ None → get_or (with_let l t) pass None ≢ None
stays_one l t pass lt some = dite (ℕ_discrete pass t.pass)
    (λ same. subst (λ p. get_or (with_let l t) p None ≢ None) (sym same) (here l t (omega (arith, lt, same))))
    (λ other. subst (λ o. o ≢ None) (sym (get_or-set_other l t.pass pass (Some t.ticket) None other)) some)

stays : (l : List (Option Wait)) (ts : List Through) (pass : ℕ) → pass < length l → get_or l pass None ≢ None → get_or (with_lets l ts) pass None ≢ None
stays l [] pass lt some = some
stays l (t ∷ ts) pass lt some = stays (with_let l t) ts pass (omega (arith, lt, length-set l t.pass (Some t.ticket))) (stays_one l t pass lt some)

each : (l : List (Option Wait)) (ts : List Through) (pass : ℕ) (ticket : Wait) → IsLetAmong ts pass ticket → pass < length l → get_or (with_lets l ts) pass None ≢ None
each l [] pass ticket none lt = absurd none
each l (t ∷ ts) pass ticket among lt =
    let inside : pass < length (with_let l t) = omega (arith, lt, length-set l t.pass (Some t.ticket)) in
    elim among [
      | inl this ↦ stays (with_let l t) ts pass inside (subst (λ p. get_or (with_let l t) p None ≢ None) this.0 (here l t (omega (arith, lt, this.0))))
      | inr later ↦ each (with_let l t) ts pass ticket later inside
    ]

pub lets_are_left : LetsAreLeft
lets_are_left old new xs r =
    let is = exact old new xs r in
    record {
      exact = is;
      each = λ pass ticket among lt. subst (λ l. get_or l pass None ≢ None) (sym is) (each old.wakes.untold (lets_reported old xs new r) pass ticket among lt);
    }
