-- The heap memory that a slot owns.
use Rattle.std.specs.Prelude.{Option, Some, None}
use Rattle.std.specs.Coded.{Coded, coded_option}
use Rattle.std.specs.Box.Ownership.{box_owns}
use Rattle.libc.specs.Heap.{chunk}
use base.Fml.{Fml, ftrue}
use denote.RawPtr.{Ptr}
use Rattle.vp8_c.specs.contracts.handle_value.HandleValue.{the_row}

-- the value of a slot, if there is one
abbrev pub MaybeHandleValue : Type 0
MaybeHandleValue = Option the_row.Denot

-- the type of a slot's value, for the ownership predicate
abbrev pub coded_held : Coded MaybeHandleValue
coded_held = coded_option the_row.coded

-- the block of the C library's heap that the pointer refers to, with its contents, and the permission to free it
abbrev pub slot_owns : Ptr → MaybeHandleValue → Fml
slot_owns p None = ftrue
slot_owns p (Some x) = box_owns (λ ty q. chunk ty q) the_row p x
