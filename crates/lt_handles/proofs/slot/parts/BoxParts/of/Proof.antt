-- `of` takes the box apart by `into_raw_with_allocator`, and the parts own what it owned.
use Rattle.lt_handles.proofs.WalkSteps.{◌≡◌, [], ◌∷◌, ◌++◌, refl, ap, ◌∙◌, proved_at, id⊢, emp, fst∗, never, ftrue, fsep, flft, bare, vptr, WpFn, ◌⊑◌, fact, fact_i, tables, sem, prop, ‵, raw, ◌⊛◌, some, later, ◌$◌, ◌∵◌, !, qed, done, move, drop, use0, use1, use2, split, split3, join, fsplit, fjoin, fpick, feq_l, pick, await, regoal, suffices, enter, of_opd, stop, fld, no_more, and_then, returns, whole, sub, agg, alloc_all, pass_all, free_all, look_at, get, get_in, sets, lands_as, no, Ptr, RawPtr, block_ptr, null_ptr, ptr_val, in_a_block, pure_i, plain, nothing, heard, peeks, only, calls_at, triple_of, framed, Stays, walk_of, says, stay_dropped, ends_at}
use base.Share
use mir.Syntax.{Args, a_type, dcons, dnil}
use mir.MapTy.{inst_fn}
use mir.Val.{vstruct, vcons, vnil, vunit, of_list}
use denote.Param.{bounded}
use denote.Laws.{Is, shows}
use denote.Param.NoDrop.{glues}
use denote.Struct.Struct.{Struct}
use denote.Struct.Owning.{shape, to}
use denote.Struct.Tuple.{Tuple}
use Rattle.core.proofs.alloc.Calls.{token, Goes-blank}
use Rattle.std_heap.specs.contracts.Global.{the_row as Heap}
use Rattle.std_heap.proofs.Global.TheLaws as heap
use Rattle.std_heap.proofs.GlobalAllocator.TheImpl.Met as methods
use Rattle.std_heap.specs.contracts.GlobalAllocator.TheImpl.{ghosts}
use Rattle.std_alloc.specs.contracts.boxed.Box as Box
use Rattle.std_alloc.specs.Box.Ownership.{box_owns}
use Rattle.std_alloc.proofs.BoxSteps.Form.{B, P, R, τ, word, box_typed}
use Rattle.std_alloc.proofs.BoxSteps.Steps.{box_out, box_in}
use Rattle.lt_handles.proofs.Boxes.{box_of}
use Rattle.lt_handles.proofs.Destruct++none.drop.Code.{code as none_code}
use Rattle.lt_handles.specs.contracts.slot.parts.BoxParts as Parts
use Rattle.std_alloc.specs.contracts.boxed.Box.into_raw_with_allocator as g
use Rattle.std_alloc.proofs.boxed.Box.into_raw_with_allocator.Met.{met}
use Rattle.lt_handles.specs.contracts.slot.parts.BoxParts.of as f
use Rattle.lt_handles.proofs.slot.parts.BoxParts.of.Statement.{statement}
use Rattle.lt_handles.proofs.slot.parts.BoxParts.of.Code as code

pub of_spec : {M : Type 1} → statement M
unfolding none_code
of_spec 𝓤 𝓛 𝓜 𝓡 wired T laws dx glue =
    let E = box_of T laws in
    let ended = f.ended T dx in let Boxed = Box.the_row (f.T-row T) Heap ghosts in
    let stayed : Stays ended.signature.params ended.kept = (stay_dropped (plain (λ _. Boxed)) no, tt) in
    let c = f.clauses T dx 𝓛 𝓜.mem 𝓡.returns in let W = walk_of 𝓛 ended stayed c in let 𝓣 = tables 𝓤 𝓛.H 𝓜 𝓡 𝓡.env in
    let args : Args = bounded (a_type ∷ []) (T, tt) (dcons dx dnil) in let fn = inst_fn args code.function in
    proved_at 𝓛 ended stayed c 𝓜 𝓡 (Goes-blank 𝓛 1 (plain (λ _. Boxed)) no (λ κs x w. tt), tt)
    (f.Key.name args) fn (code.unfolded 𝓤 𝓛.H 𝓜 𝓡 wired (T, tt) dx) (λ y are.
    let κ = y.0.0.0 in let q = y.0.1.0 in let v = y.0.3.0 in
    qed 𝓛 (((‵ (flft κ q) ⊛ ‵ ftrue) ⊛ ‵ (fsep ((B E).own_val v y.0.4.0) ftrue)) ∷ (raw (fact 𝓤 (κ ⊑ T.lives)) ⊛ ‵ ftrue) ∷ []) ∵
    split ! $ move ! (1 ∷ []) $ fsplit ! $
    box_out E ! v y.0.4.0 (λ b o hv e is_word fits. box_in E ! v b o v.value e refl $
    regoal ! (λ us. prop (WpFn 𝓤 𝓛.H 𝓣.C 𝓣.Λ fn (us ++ []) (W.post y))) is_word refl $
    let Opened = triple_of 𝓛 (g.signature E.row E.al.row E.al.g E.al.d E.al.drops dx) (g.spec E.row E.al.row E.al.g E.al.d E.al.drops dx 𝓛 𝓜.mem 𝓡.returns) in
    let typed = box_typed E hv b o fits in
    enter ! _ _ _ _ _ $ alloc_all ! (λ l. pass_all ! refl (typed, tt) $ sets ! (of_opd ! (get ! refl)) refl typed $
    fjoin ! $ move ! (2 ∷ []) $ split ! $
    use0 𝓛 (raw (fact 𝓤 (κ ⊑ E.al.row.lives))) (fact_i 𝓤 (κ ⊑ E.al.row.lives) (emp 𝓤) (heap.the_within κ)) $
    move ! (0 ∷ 2 ∷ []) $ join ! $ move ! (1 ∷ 0 ∷ []) $ join ! $
    -- [what it requires; the box; the token]
    move ! (2 ∷ []) $ split ! $
    use1 𝓛 (‵ (flft κ (Share.left q)) ⊛ ‵ (flft κ (Share.right q))) (𝓛.lfts.lft_split κ q) $ split ! $
    move ! (1 ∷ 2 ∷ []) $ join ! $ move ! (1 ∷ 0 ∷ []) $ join ! $ move ! (0 ∷ 2 ∷ []) $ join ! $ join ! $
    let z : Opened.Ghost = (((κ, (κ, tt)), (Share.left q, (Share.right q, tt)), tt, (v, tt), (word E hv b o ∷ [], tt)), tt) in
    use1 𝓛 (raw (Opened.pre z)) (id⊢ 𝓤 _) $
    let passed = methods.passed 𝓡.env (code.calls-std_heap::GlobalAllocator::allocate 𝓡.env wired) (code.calls-std_heap::GlobalAllocator::deallocate 𝓡.env wired)
    (code.calls-std_heap::GlobalAllocator::grow 𝓡.env wired) (code.calls-std_heap::GlobalAllocator::shrink 𝓡.env wired) _ 𝓤 𝓛 𝓜 𝓡 in
    let none = glues "lt_handles::Destruct++none::drop" 𝓡.env (code.calls-lt_handles::Destruct++none::drop 𝓡.env wired) E.al.row E.al.laws _ 𝓤 𝓛 𝓜 𝓡 in
    let known = met 𝓤 𝓛 𝓜 𝓡 (code.calls-std_alloc::boxed::Box::into_raw_with_allocator 𝓡.env wired) E.row E.al.row E.laws E.al.laws E.al.g E.al.d E.al.drops dx passed none glue in
    calls_at ! (framed 𝓤 𝓛.H 𝓜 𝓣) Opened known z (and_then ! (get ! refl) (no_more !)) (λ u.
    use1 𝓛 (later (some (λ (r : Ptr × Heap.Denot).
    ((‵ (flft κ (Share.left q)) ⊛ ‵ (flft κ (Share.right q)) ⊛ ‵ ftrue) ⊛ ‵ ((Tuple (RawPtr ∷ P E ∷ [])).own_val r (u ∷ [])))
    ⊛ some (λ (_ : (Unit {0} × (Unit {0} × Unit {0})) × Unit {0}). ‵ (fsep (fsep ftrue (fsep ftrue ftrue)) ftrue)
    ⊛ (raw (fact 𝓤 (r.1 ≡ v.alloc)) ⊛ ‵ (box_owns (token E.al v.alloc) (R E) r.0 v.value)))))) (id⊢ 𝓤 _) $
    await ! tt $ pick ! (λ r. split ! $ move ! (1 ∷ []) $ pick ! (λ _. split3 ! $ drop ! $ heard ! (r.1 ≡ v.alloc) (λ same.
    in_a_block ! r.0 (λ p. box_owns (token E.al v.alloc) (R E) p v.value) (fst∗ 𝓤 (never 𝓤) (sem 𝓛 (token E.al v.alloc (bare (τ E)) null_ptr))) (λ b' o' e'.
    move ! (1 ∷ []) $ split ! $ split3 ! $ use2 𝓛 (‵ (flft κ q)) (𝓛.lfts.lft_join κ q) $
    -- [the token; nothing; what it returned; the block]
    move ! (2 ∷ []) $ fpick ! (λ parts. fsplit ! $ feq_l ! (λ is_pair. fsplit ! $ feq_l ! (λ is_ptr. fsplit ! $
    peeks ! Heap (Is Heap) (shows 𝓛 Heap) r.1 parts.1.0 (λ is. drop ! $ drop ! $
    let To = Parts.the_type (R E) in
    let made : To.D = record { at = block_ptr b' o'; alloc = v.alloc; value = v.value } in
    let w = word E (heap.lowered v.alloc) b' o' in
    let is_word = is_pair ∙ (λ j. vstruct (of_list ((is_ptr ∙ ap (λ (p : Ptr). ptr_val p ∷ []) e') j ++ (heap.lowers.val_is r.1 parts.1.0 is j ++ []))) ∷ []) in
    lands_as ! (ap only is_word) refl (tt, (tt, (((tt, tt), tt), tt))) $
    sets ! (of_opd ! (get_in ! (fld ! refl (stop !)) (sub ! 0 refl (whole !)))) refl (tt, tt) $
    sets ! (of_opd ! (get_in ! (fld ! refl (stop !)) (sub ! 1 refl (whole !)))) refl (tt, ((tt, tt), tt)) $
    sets ! (agg ! (and_then ! (get ! refl) (and_then ! (get ! refl) (no_more !)))) refl (tt, (tt, (((tt, tt), tt), tt))) $
    returns ! (look_at ! 0 refl) $ free_all ! refl $
    move ! (2 ∷ []) $
    pure_i ! ((Struct (shape To)).own_val (to To made) (w ∷ []))
    ((λ _. (tt, (tt, ((λ _. (tt, ((λ _. (tt, (tt, tt))), tt))), tt)))))
    ((vptr b' o' ∷ [], (heap.lowered v.alloc ∷ [], tt)), (refl, (refl, (((vstruct (vcons vunit vnil) ∷ [], tt), (refl, (((vunit ∷ [], tt), (refl, (refl, tt))), tt))), tt)))) $ fjoin ! $
    suffices ! _ (ends_at 𝓛 ended stayed c y w made (tt, tt) (tt, tt)) $ says ! refl $
    nothing ! $ nothing ! $ fjoin ! $ join ! $ move ! (1 ∷ 2 ∷ []) $ join ! $ join ! $ done !))))))))))))
