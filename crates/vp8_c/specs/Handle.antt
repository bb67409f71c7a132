-- The value that a handle refers to.
use Rattle.vp8_c.specs.Slot.{MaybeHandleValue}
use Rattle.vp8_c.specs.declared.handle.Handle.{Handle}

-- the value of a handle; None if it is closed
abbrev pub handle_value_in : Handle → MaybeHandleValue
handle_value_in h = h.slot.held
