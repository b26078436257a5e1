-- What a slot owns: nothing while it is empty, and otherwise the block of what it holds.
use base.Fml.{Fml, ftrue}
use denote.RawPtr.{Ptr}
use Rattle.std.specs.Prelude.{Option, None, Some}
use Rattle.lt_handles.specs.Blocks.{owns_block}
use Rattle.std.specs.Global.{Global}
use Rattle.lt_handles.specs.contracts.content.Content.{the_row}

unfoldable pub slot_owns : Global → Ptr → Option the_row.Denot → Fml
slot_owns alloc at None = ftrue
slot_owns alloc at (Some content) = owns_block alloc the_row at content
