-- `of_parts` moves the pointer and the allocator, and what the parts own goes with them.
use Rattle.lt_handles.proofs.WalkSteps.{split, [], ◌∷◌, refl, proved, fst∗, never, ftrue, fsep, bare, vptr, WpFn, tables, sem, prop, ‵, ◌⊛◌, ◌$◌, ◌∵◌, !, qed, done, move, drop, join, fsplit, fjoin, regoal, suffices, enter, of_opd, stop, fld, no_more, and_then, returns, whole, sub, agg, alloc_all, pass_all, free_all, look_at, get, get_in, sets, yes, Ptr, block_ptr, null_ptr, in_a_block, pure_i, plain, nothing, Stays, walk_of, says, stay_dropped, Goes-dropped, ends_at}
use mir.Val.{vstruct, vcons, vnil, vunit}
use denote.Struct.Struct.{Struct}
use denote.Struct.Owning.{shape, to}
use Rattle.std.specs.Prelude.{Some}
use Rattle.std_heap.proofs.Global.TheLaws as heap
use Rattle.std_alloc.specs.Box.Ownership.{box_owns}
use Rattle.std_alloc.proofs.BoxSteps.Form.{R as El, τ}
use Rattle.core.proofs.alloc.Calls.{token}
use Rattle.lt_handles.specs.Slots.{slot_owns}
use Rattle.lt_handles.specs.contracts.content.Content as Content
use Rattle.lt_handles.proofs.content.Content.TheLaws as content
use Rattle.lt_handles.specs.contracts.slot.parts.BoxParts as Parts
use Rattle.lt_handles.proofs.slot.parts.BoxParts.TheLaws as parts
use Rattle.lt_handles.specs.contracts.slot.ContentSlot as ContentSlot
use Rattle.lt_handles.proofs.slot.ContentSlot.TheLaws as ContentSlot-laws
use Rattle.lt_handles.proofs.Boxes.{E}
use Rattle.lt_handles.specs.contracts.slot.ContentSlot.of_parts as f
use Rattle.lt_handles.proofs.slot.ContentSlot.of_parts.Statement.{statement}
use Rattle.lt_handles.proofs.slot.ContentSlot.of_parts.Code as code

abbrev stayed : Stays f.ended.signature.params f.ended.kept
stayed = (stay_dropped (plain (λ _. Parts.the_row Content.the_row)) yes, tt)

pub of_parts_spec : {M : Type 1} → statement M
unfolding slot_owns
of_parts_spec 𝓤 𝓛 𝓜 𝓡 wired =
    let c = f.clauses 𝓛 𝓜.mem 𝓡.returns in let W = walk_of 𝓛 f.ended stayed c in let 𝓣 = tables 𝓤 𝓛.H 𝓜 𝓡 𝓡.env in
    let From = Parts.the_type Content.the_row in let To = ContentSlot.the_type in
    let low : From.D → _ = parts.lowered Content.the_row content.the_row_laws in
    proved 𝓛 f.ended stayed c 𝓜 𝓡 (Goes-dropped 𝓛 0 (plain (λ _. Parts.the_row Content.the_row)) yes (λ κs x w. refl), tt)
    f.Key.name code.function (code.unfolded 𝓤 𝓛.H 𝓜 𝓡 wired)
    (λ κs. ((λ p. low p ∷ []), tt)) (λ κs. ((parts.lowers Content.the_row content.the_row_laws).val_is, tt)) (λ κs qs bounds a n are.
    let s = a.0 in let at : Ptr → From.D = λ p. record s { at = p } in
    let y : Ptr → W.Ghost = λ p. ((κs, qs, bounds, (at p, tt), (low (at p) ∷ [], tt)), n) in
    qed 𝓛 ((‵ ftrue ⊛ ‵ (fsep ((Parts.the_row Content.the_row).own_val s (low s ∷ [])) ftrue)) ∷ ‵ ftrue ∷ []) ∵
    split ! $ drop ! $ fsplit ! $ fsplit ! $ drop ! $ move ! (1 ∷ []) $ drop ! $ move ! (1 ∷ []) $ drop ! $
    in_a_block ! s.at (λ p. box_owns (token E.al s.alloc) (El E) p s.value) (fst∗ 𝓤 (never 𝓤) (sem 𝓛 (token E.al s.alloc (bare (τ E)) null_ptr))) (λ b o e.
    regoal ! (λ p. prop (WpFn 𝓤 𝓛.H 𝓣.C 𝓣.Λ code.function (low (at p) ∷ []) (W.post (y p)))) e refl $
    let made : To.D = record { at = block_ptr b o; alloc = s.alloc; held = Some s.value } in
    let w = ContentSlot-laws.lowered made in
    enter ! _ _ _ _ _ $ alloc_all ! (λ l. pass_all ! refl ((tt, (tt, (((tt, tt), tt), tt))), tt) $
    sets ! (of_opd ! (get_in ! (fld ! refl (stop !)) (sub ! 0 refl (whole !)))) refl (tt, tt) $
    sets ! (of_opd ! (get_in ! (fld ! refl (stop !)) (sub ! 1 refl (whole !)))) refl (tt, ((tt, tt), tt)) $
    sets ! (of_opd ! (get ! refl)) refl (tt, tt) $
    sets ! (agg ! (and_then ! (get ! refl) (and_then ! (get ! refl) (no_more !)))) refl (tt, (tt, (((tt, tt), tt), tt))) $
    returns ! (look_at ! 0 refl) $ free_all ! refl $
    pure_i ! ((Struct (shape To)).own_val (to To made) (w ∷ []))
    ((λ _. (tt, (tt, ((λ _. (tt, ((λ _. (tt, (tt, tt))), tt))), tt)))))
    ((vptr b o ∷ [], (heap.lowered s.alloc ∷ [], tt)), (refl, (refl, (((vstruct (vcons vunit vnil) ∷ [], tt), (refl, (((vunit ∷ [], tt), (refl, (refl, tt))), tt))), tt)))) $ fjoin ! $
    suffices ! _ (ends_at 𝓛 f.ended stayed c (y (block_ptr b o)) w made (tt, tt) (tt, tt)) $ says ! refl $
    nothing ! $ nothing ! $ join ! $ nothing ! $ done !)))
