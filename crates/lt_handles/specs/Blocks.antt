-- What the allocator of the program gives back when a box is dropped.
use base.Fml.{Fml}
use denote.RattleType.{RattleType}
use denote.RawPtr.{Ptr}
use Rattle.std.specs.Box.Ownership.{box_owns}
use Rattle.std.specs.Global.{Global}
use Rattle.std_heap.specs.contracts.GlobalAllocator.TheImpl.{ghosts}

-- a value of this type at this address, and the right to free its block
abbrev pub owns_block : Global → (R : RattleType) → Ptr → R.Denot → Fml
owns_block alloc R at x = box_owns (ghosts.dealloc_token alloc) R at x
