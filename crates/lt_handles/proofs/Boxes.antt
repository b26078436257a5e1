-- A box in the program's allocator, as the steps for boxes take it.
use mathlib.Core.List.{[], ◌∷◌}
use mathlib.Core.Path.{refl}
use mir.Raw.{raw as bare}
use mir.Syntax.{Ty, Dict, impl, tnil, tcons, dnil}
use denote.Exit.{no}
use denote.Param.{layout, arg}
use denote.Param.Laws.{Laws, arg_laws}
use denote.RattleType.{RattleType}
use Rattle.core.proofs.alloc.Calls.{Al}
use Rattle.std_alloc.proofs.BoxSteps.Form.{Bx}
use Rattle.std_heap.specs.contracts.Global as Heap
use Rattle.std_heap.specs.contracts.GlobalAllocator.TheImpl.{ghosts, dict}
use Rattle.std_heap.proofs.Global.TheLaws as heap
use Rattle.lt_handles.specs.contracts.content.Content as Content
use Rattle.lt_handles.proofs.content.Content.TheLaws as content

abbrev heap_ty : Ty
heap_ty = bare (layout Heap.the_row)

abbrev pub no_drop : Dict
no_drop = impl ("lt_handles::Destruct++none::drop" ∷ []) (tcons heap_ty tnil) dnil

abbrev pub allocator : Al
allocator = record {
  row = arg heap_ty no Heap.the_row;
  laws = arg_laws heap_ty no Heap.the_row heap.the_row_laws refl;
  g = ghosts;
  d = dict;
  drops = no_drop;
}

abbrev pub box_of : (T : RattleType) → Laws T → Bx
box_of T laws = record { row = T; laws = laws; al = allocator }

-- a box of what a handle holds, where the code names its type
abbrev pub E : Bx
E = box_of (arg (bare (layout Content.the_row)) no Content.the_row) (arg_laws (bare (layout Content.the_row)) no Content.the_row content.the_row_laws refl)
