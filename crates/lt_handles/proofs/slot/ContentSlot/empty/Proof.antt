-- `empty` puts a null pointer beside the allocator, and such a slot owns no memory.
use Rattle.lt_handles.proofs.WalkSteps.{lit<, vnull, ftrue, fsep, [], ◌∷◌, refl, proved, ‵, ◌⊛◌, ◌$◌, ◌∵◌, !, qed, done, drop, suffices, join, nothing, enter, lit, no_more, and_then, returns, agg, alloc_all, pass_all, free_all, look_at, get, sets, yes, null_ptr, pure_i, plain, Stays, walk_of, says, stay_dropped, Goes-dropped, ends_at}
use Rattle.std.specs.Prelude.{None}
use Rattle.std_heap.specs.contracts.Global.{the_row as Heap}
use Rattle.std_heap.proofs.Global.TheLaws as heap
use Rattle.lt_handles.specs.declared.slot.ContentSlot.{ContentSlot}
use Rattle.lt_handles.specs.contracts.slot.ContentSlot.{the_row as R}
use Rattle.lt_handles.proofs.slot.ContentSlot.TheLaws.{lowers}
use Rattle.lt_handles.specs.Slots.{slot_owns}
use Rattle.lt_handles.specs.contracts.slot.ContentSlot.empty as f
use Rattle.lt_handles.proofs.slot.ContentSlot.empty.Statement.{statement}
use Rattle.lt_handles.proofs.slot.ContentSlot.empty.Code as code

abbrev stayed : Stays f.ended.signature.params f.ended.kept
stayed = (stay_dropped (plain (λ _. Heap)) yes, tt)

abbrev made : Heap.Denot → ContentSlot
made a = record { at = null_ptr; alloc = a; held = None }

pub empty_spec : {M : Type 1} → statement M
unfolding slot_owns
empty_spec 𝓤 𝓛 𝓜 𝓡 wired =
    let c = f.clauses 𝓛 𝓜.mem 𝓡.returns in
    proved 𝓛 f.ended stayed c 𝓜 𝓡 (Goes-dropped 𝓛 0 (plain (λ _. Heap)) yes (λ κs x w. refl), tt)
    f.Key.name code.function (code.unfolded 𝓤 𝓛.H 𝓜 𝓡 wired)
    (λ κs. ((λ a. heap.lowered a ∷ []), tt)) (λ κs. (heap.lowers.val_is, tt)) (λ κs qs bounds a n are.
    let y : (walk_of 𝓛 f.ended stayed c).Ghost = ((κs, qs, bounds, a, (heap.lowered a.0 ∷ [], tt)), n) in
    let word = lowers.lowered (made a.0) in
    qed 𝓛 ((‵ ftrue ⊛ ‵ (fsep (Heap.own_val a.0 y.0.4.0) ftrue)) ∷ ‵ ftrue ∷ []) ∵ drop ! $ drop ! $
    enter ! _ _ _ _ _ $ alloc_all ! (λ l. pass_all ! refl ((tt, ((tt, tt), tt)), tt) $
    sets ! (agg ! (and_then ! (lit ! tt) (and_then ! (get ! refl) (no_more !)))) refl (tt, (record { fits = lit< tt }, (((tt, tt), tt), tt))) $
    returns ! (look_at ! 0 refl) $ free_all ! refl $
    suffices ! _ (ends_at 𝓛 f.ended stayed c y word (made a.0) (tt, tt) (tt, tt)) $ says ! refl $
    pure_i ! (R.own_val (made a.0) (word ∷ []))
    ((λ _. (tt, (tt, ((λ _. (tt, ((λ _. (tt, (tt, tt))), tt))), tt)))), tt)
    (((vnull ∷ [], (heap.lowered a.0 ∷ [], tt)), (refl, (refl, (are.0, tt)))), tt) $
    nothing ! $ nothing ! $ join ! $ nothing ! $ done !))
