-- Private to the crate: a motion vector in one word.
use Rattle.std.specs.Prelude.{ℕ, ◌%◌, ◌/◌, ◌^◌}
use Rattle.std.specs.Int.{cast_signed, w32}
use Rattle.vp_motion.specs.Vector.{Vector}

-- the vector in these 64 bits: the row in the lower half, the column in the upper half
unfoldable pub unpacked : ℕ → Vector
unpacked bits = record { row = cast_signed w32 (bits % 2 ^ 32); column = cast_signed w32 (bits / 2 ^ 32) }
