-- The worked example of the law `near_of_three_neighbours`: the centre of 3x3 macroblocks (RFC 6386, chapter 16.3).
use Rattle.std.specs.Prelude.{[], ◌∷◌, replicate, pos}
use Rattle.vp_head.specs.declared.fields.Reference.TheVariants as reference_is
use Rattle.vp_tables.specs.declared.modes.VectorMode.TheVariants as vector_is
use Rattle.vp_base.specs.Grid.{Grid}
use Rattle.vp_motion.specs.Vector.{Vector, MacroblockMotion, zero_vector}
use Rattle.vp_motion.specs.Map.{intra}

abbrev pub example_vector : Vector
example_vector = record { row = pos 4; column = pos 0 }

-- the motion of a macroblock that uses the last frame and one new vector
abbrev pub inter : Vector → MacroblockMotion
inter v = record { reference = reference_is.Last; mode = vector_is.New; vectors = replicate 16 v }

-- (4, 0) above and to the left, zero above left
unfoldable pub example_grid : Grid MacroblockMotion
example_grid = record {
  columns = 3;
  rows = 3;
  entries = inter zero_vector ∷ inter example_vector ∷ intra
      ∷ inter example_vector ∷ intra ∷ intra ∷ intra ∷ intra ∷ intra ∷ [];
}
