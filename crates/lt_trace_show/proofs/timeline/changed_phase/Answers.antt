use Rattle.std.proofs.Common.{◌≡◌, ◌<◌, ℕ, List, length, ◌∙◌, ap, subst, slice_get, get_or, Err}
use Rattle.std.specs.Ordering.{nat_cmp}
use Rattle.std.specs.declared.cmp.Ordering.TheVariants.{Equal}
use Rattle.std.specs.List.Sorted.{IsBinarySearchResult}
use Rattle.lt_trace_show.specs.Phases.{request_phase}
use Rattle.lt_trace_show.proofs.Followed.{phase_at, missed, same_number}
use Rattle.lt_trace_show.proofs.timeline.changed_phase.Goals as goal

pub returns-in-Ok : goal.returns-in-Ok
returns-in-Ok c = λ before after is.
    let numbers = c.args.step.now.changed.items in
    let phases = c.args.step.now.phases.items in
    let i = c.in-Ok.index in
    let n = c.args.number in
    let read : c.phase_at.result ≡ slice_get phases i = c.phase_at.ensures ∙ ap (λ ps. slice_get ps i) c.deref-in-Ok.ensures.value in
    let lt : i < length numbers = subst (λ (xs : List ℕ). i < length xs) c.deref.ensures.value c.in-Ok.ensures.bound in
    let at : (d : ℕ) → nat_cmp (get_or numbers i d) n ≡ Equal = subst (λ (xs : List ℕ). (d : ℕ) → nat_cmp (get_or xs i d) n ≡ Equal) c.deref.ensures.value c.in-Ok.ensures.position in
    phase_at (λ m. request_phase m after) numbers phases n i c.phase_at.result _ read lt (same_number numbers i n at) is.given

pub returns-in-Err : goal.returns-in-Err
returns-in-Err c = λ before after is.
    let n = c.args.number in
    is.others n (λ there. missed c.args.step.now.changed.items n c.in-Err.field-0
    (subst (λ (xs : List ℕ). IsBinarySearchResult (λ y. nat_cmp y n) xs (Err c.in-Err.field-0)) c.deref.ensures.value c.in-Err.ensures.position) is.rises there)
