-- A slot may go to another thread, since what it holds may.
use base.Shift.{Keyless}
use mir.Raw.{raw}
use denote.Memory.{lone}
use denote.RawPtr.{Ptr}
use denote.Struct.Struct.{exits_of}
use denote.Struct.Owning.{shape, fields, to}
use denote.Param.Send.{IsSend, AllSend, owning_send, struct_send, sendable}
use Rattle.std.specs.Prelude.{Option, Some, None}
use Rattle.std.specs.Global.{Global}
use Rattle.std.proofs.Crossing as heap
use Rattle.std_alloc.proofs.SendSync.{quiet, lies}
use Rattle.std_heap.proofs.Global.TheSendSync as handle
use Rattle.lt_handles.specs.Content.{ContentState}
use Rattle.lt_handles.specs.Slots.{slot_owns}
use Rattle.lt_handles.specs.contracts.content.Content as Content
use Rattle.lt_handles.proofs.content.Content.TheSendSync.{the_send as held}
use Rattle.lt_handles.specs.contracts.slot.ContentSlot.{the_row, the_type}

owned : (alloc : Global) (at : Ptr) (content : Option ContentState) → Keyless (slot_owns alloc at content)
unfolding slot_owns
owned alloc at None = tt
owned alloc at (Some x) = (lies Content.the_row held at x, heap.frees.frees alloc (raw (lone Content.the_row.mir)) at)

pub send : IsSend the_row
send =
    let all : AllSend (fields the_type) = (search sendable, (handle.the_field_send, tt)) in
    owning_send the_type all (λ d. owned d.alloc d.at d.held) (λ k. quiet (to the_type) (exits_of k (fields the_type)) ((struct_send (shape the_type) all).leaving k))
