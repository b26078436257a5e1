-- `into_box` hands the block of the content to `from_raw`.
use Rattle.lt_handles.proofs.WalkSteps.{subst, true≢false, null_ptr, pure_i, ◌≡◌, List, [], ◌∷◌, refl, sym, ap, ◌∙◌, proved, full_share, id⊢, emp, fst∗, never, ftrue, fsep, flft, bare, Val, vptr, WpFn, ◌⊑◌, fact, fact_i, tables, sem, prop, at_ret, ‵, raw, ◌⊛◌, some, later, ◌$◌, ◌∵◌, !, qed, done, move, drop, use0, use1, split, split3, join, fsplit, fjoin, feq_i, pick, await, rewrite, regoal, suffices, enter, of_opd, stop, fld, no_more, and_then, first, blocks, exec, returns, whole, sub, lft_new, alloc_all, pass_all, free_all, look_at, get, get_in, sets, lands_last, env, yes, Ptr, block_ptr, in_a_block, plain, nothing, heard, only, calls_at_last, triple_of, framed, Stays, walk_of, says, stay_dropped, Goes-dropped, ends_at}
use base.Share
use lib.Dec.{T}
use mir.Val.{has_ty, WT}
use mir.Val.{vstruct, vcons, vnil, vunit}
use Rattle.std.specs.Prelude.{Option, None, Some, IsSome}
use Rattle.std_heap.proofs.Global.TheLaws as heap
use Rattle.std_heap.proofs.GlobalAllocator.TheImpl.Met as methods
use Rattle.std_alloc.specs.Box.Ownership.{box_owns}
use Rattle.core.proofs.alloc.Calls.{token}
use Rattle.std_alloc.proofs.BoxSteps.Form.{box_ty, box_typed, D, B, P, R as El, τ}
use Rattle.std_alloc.proofs.BoxSteps.Steps.{box_out, box_in}
use denote.Param.NoDrop.{glues}
use Rattle.lt_handles.proofs.Destruct++none.drop.Code.{code as none_code}
use Rattle.lt_handles.specs.Content.{ContentState}
use Rattle.lt_handles.specs.declared.slot.ContentSlot.{ContentSlot}
use Rattle.lt_handles.specs.contracts.slot.ContentSlot.{the_row as R}
use Rattle.lt_handles.proofs.slot.ContentSlot.TheLaws.{lowers}
use Rattle.lt_handles.specs.Slots.{slot_owns}
use Rattle.lt_handles.proofs.Boxes.{E}
use Rattle.lt_handles.proofs.content.Content.TheLaws as content
use Rattle.std_alloc.specs.contracts.boxed.Box.from_raw as g
use Rattle.std_alloc.proofs.boxed.Box.from_raw.Met.{met}
use Rattle.lt_handles.specs.contracts.slot.ContentSlot.into_box as f
use Rattle.lt_handles.proofs.slot.ContentSlot.into_box.Statement.{statement}
use Rattle.lt_handles.proofs.slot.ContentSlot.into_box.Code as code

abbrev stayed : Stays f.ended.signature.params f.ended.kept
stayed = (stay_dropped (plain (λ _. R)) yes, tt)

filled : (o : Option ContentState) → IsSome o → (d : ContentState) × (o ≡ Some d)
filled (Some d) is = (d, refl)
filled None is = absurd (true≢false (sym is))

pub into_box_spec : {M : Type 1} → statement M
unfolding slot_owns none_code
into_box_spec 𝓤 𝓛 𝓜 𝓡 wired =
    let c = f.clauses 𝓛 𝓜.mem 𝓡.returns in let W = walk_of 𝓛 f.ended stayed c in let 𝓣 = tables 𝓤 𝓛.H 𝓜 𝓡 𝓡.env in
    proved 𝓛 f.ended stayed c 𝓜 𝓡 (Goes-dropped 𝓛 0 (plain (λ _. R)) yes (λ κs x w. refl), tt)
    f.Key.name code.function (code.unfolded 𝓤 𝓛.H 𝓜 𝓡 wired)
    (λ κs. ((λ s. lowers.lowered s ∷ []), tt)) (λ κs. (lowers.val_is, tt)) (λ κs qs bounds a n are.
    let s = a.0 in let at : Ptr → ContentSlot = λ p. record s { at = p } in
    let y : Ptr → W.Ghost = λ p. ((κs, qs, bounds, (at p, tt), (lowers.lowered (at p) ∷ [], tt)), n) in
    qed 𝓛 ((‵ ftrue ⊛ ‵ (fsep (R.own_val s (lowers.lowered s ∷ [])) ftrue)) ∷ raw (fact 𝓤 (IsSome s.held)) ∷ []) ∵
    move ! (1 ∷ []) $ heard ! _ (λ is. let filled_by = filled s.held is in let d = filled_by.0 in
    split ! $ drop ! $ fsplit ! $ fsplit ! $ drop ! $
    rewrite ! 0 (λ (o : Option ContentState). ‵ (slot_owns s.alloc s.at o)) filled_by.1 refl $
    in_a_block ! s.at (λ p. box_owns (token E.al s.alloc) (El E) p d) (fst∗ 𝓤 (never 𝓤) (sem 𝓛 (token E.al s.alloc (bare (τ E)) null_ptr))) (λ b o e.
    regoal ! (λ p. prop (WpFn 𝓤 𝓛.H 𝓣.C 𝓣.Λ code.function (lowers.lowered (at p) ∷ []) (W.post (y p)))) e refl $
    move ! (1 ∷ []) $ drop ! $
    let G = triple_of 𝓛 (g.signature E.row E.al.row E.al.g E.al.d E.al.drops) (g.spec E.row E.al.row E.al.g E.al.d E.al.drops 𝓛 𝓜.mem 𝓡.returns) in
    let Own = (P E).own_val s.alloc (heap.lowered s.alloc ∷ []) in
    enter ! _ _ _ _ _ $ alloc_all ! (λ l. pass_all ! refl ((tt, (tt, (((tt, tt), tt), tt))), tt) $
    sets ! (of_opd ! (get_in ! (fld ! refl (stop !)) (sub ! 0 refl (whole !)))) refl (tt, tt) $
    sets ! (of_opd ! (get_in ! (fld ! refl (stop !)) (sub ! 1 refl (whole !)))) refl (tt, ((tt, tt), tt)) $
    first ! $ blocks ! $ sets ! (of_opd ! (get ! refl)) refl (tt, tt) $
    lft_new ! tt (λ α. let κ = α ∷ [] in
    use1 𝓛 (‵ (flft κ (Share.left full_share)) ⊛ ‵ (flft κ (Share.right full_share))) (𝓛.lfts.lft_split κ full_share) $ split ! $
    -- [two parts of the token; the block]
    move ! (2 ∷ []) $
    use0 𝓛 (raw (fact 𝓤 (κ ⊑ E.al.row.lives))) (fact_i 𝓤 (κ ⊑ E.al.row.lives) (emp 𝓤) (heap.the_within κ)) $ join ! $
    use0 𝓛 (raw (fact 𝓤 (κ ⊑ E.row.lives))) (fact_i 𝓤 (κ ⊑ E.row.lives) (emp 𝓤) (content.the_within κ)) $ join ! $
    nothing ! $ move ! (3 ∷ 0 ∷ []) $ join ! $ move ! (2 ∷ 0 ∷ []) $ join ! $
    nothing ! $ feq_i ! (List Val) (vptr b o ∷ []) (vptr b o ∷ []) refl $ fjoin ! $
    pure_i ! Own (λ _. (tt, ((λ _. (tt, (tt, tt))), tt)))
    ((vstruct (vcons vunit vnil) ∷ [], tt), (refl, (((vunit ∷ [], tt), (refl, (refl, tt))), tt))) $ fjoin ! $
    move ! (1 ∷ 0 ∷ []) $ join ! $ join ! $
    let z : G.Ghost = (((κ, (κ, tt)), (Share.left full_share, (Share.right full_share, tt)), tt, (s.alloc, (block_ptr b o, tt)), (heap.lowered s.alloc ∷ [], (vptr b o ∷ [], tt))), d) in
    use1 𝓛 (raw (G.pre z)) (id⊢ 𝓤 _) $
    let passed = methods.passed 𝓡.env (code.calls-std_heap::GlobalAllocator::allocate 𝓡.env wired) (code.calls-std_heap::GlobalAllocator::deallocate 𝓡.env wired)
    (code.calls-std_heap::GlobalAllocator::grow 𝓡.env wired) (code.calls-std_heap::GlobalAllocator::shrink 𝓡.env wired) _ 𝓤 𝓛 𝓜 𝓡 in
    let glue = glues "lt_handles::Destruct++none::drop" 𝓡.env (code.calls-lt_handles::Destruct++none::drop 𝓡.env wired) E.al.row E.al.laws _ 𝓤 𝓛 𝓜 𝓡 in
    let known = met 𝓤 𝓛 𝓜 𝓡 (code.calls-std_alloc::boxed::Box::from_raw 𝓡.env wired) E.row E.al.row E.laws E.al.laws E.al.g E.al.d E.al.drops passed glue in
    calls_at_last ! (framed 𝓤 𝓛.H 𝓜 𝓣) G known z (and_then ! (get ! refl) (and_then ! (get ! refl) (no_more !))) (λ u.
    use1 𝓛 (later (some (λ (r : D E). ((‵ (flft κ (Share.left full_share)) ⊛ ‵ (flft κ (Share.right full_share)) ⊛ ‵ ftrue) ⊛ ‵ ((B E).own_val r (u ∷ [])))
    ⊛ some (λ (_ : Unit {0} × (Unit {0} × Unit {0})). ‵ (fsep ftrue (fsep ftrue ftrue)) ⊛ (raw (fact 𝓤 (r.value ≡ d)) ⊛ raw (fact 𝓤 (r.alloc ≡ s.alloc))))))) (id⊢ 𝓤 _) $
    await ! tt $ pick ! (λ r. split ! $ move ! (1 ∷ []) $ pick ! (λ _. split3 ! $ drop ! $ heard ! (r.value ≡ d) (λ same. drop ! $ split ! $ drop ! $
    box_out E ! r (u ∷ []) (λ b' o' hw e' is_word fits. box_in E ! r b' o' r.value e' refl $
    rewrite ! 0 (λ (us : List Val). ‵ ((B E).own_val r us)) (sym is_word) refl $
    let typed = subst (λ (v : Val). T (has_ty (box_ty E) v) × WT v) (sym (ap only is_word)) (box_typed E hw b' o' fits) in
    lands_last ! refl typed $ exec ! 𝓣.C 𝓣.Λ (env code.Mir.locals l) code.Mir.t-4 (at_ret _ (W.post (y (block_ptr b o)))) $
    sets ! (of_opd ! (get ! refl)) refl typed $ returns ! (look_at ! 0 refl) $ free_all ! refl $
    suffices ! _ (ends_at 𝓛 f.ended stayed c (y (block_ptr b o)) u r (tt, tt) (tt, tt)) $
    says ! (filled_by.1 ∙ ap (λ (x : ContentState). Some x) (sym same)) $
    nothing ! $ nothing ! $ join ! $ nothing ! $ done !))))))))))
