-- Properties of the modes of a macroblock (RFC 6386, chapters 8.2 and 16.3): B_PRED alone has subblock modes, and
-- SPLITMV alone has several vectors. Pinned by streams of other encoders in the gate.
use Rattle.std.specs.Prelude.{Bool, true, false}
use Rattle.vp_tables.specs.declared.modes.LumaMode.{LumaMode}
use Rattle.vp_tables.specs.declared.modes.LumaMode.TheVariants as luma_is
use Rattle.vp_tables.specs.declared.modes.VectorMode.{VectorMode}
use Rattle.vp_tables.specs.declared.modes.VectorMode.TheVariants as vector_is

-- whether each luma subblock has its own mode (B_PRED)
abbrev pub is_by_subblocks : LumaMode → Bool
is_by_subblocks luma_is.B = true
is_by_subblocks _ = false

-- whether the parts of the macroblock have their own vectors (SPLITMV)
abbrev pub is_split : VectorMode → Bool
is_split vector_is.Split = true
is_split _ = false
