-- The vectors of blocks in other macroblocks.
use Rattle.std.proofs.Common.{◌≡◌, ℕ, Option, Some, None, List, refl}
use Rattle.std.specs.Option.{option_map_or, unwrap_or}
use Rattle.vp_base.specs.declared.place.Place.{Place}
use Rattle.vp_base.specs.declared.near.Near.TheVariants.{There}
use Rattle.vp_base.specs.Grid.{Grid, at, entry}
use Rattle.vp_base.specs.Near.{value}
use Rattle.vp_motion.specs.Vector.{Vector, MacroblockMotion, zero_vector}
use Rattle.vp_motion.specs.Map.{block_vector, intra}

of_entry : (e : Option MacroblockMotion) (b : ℕ) → block_vector (unwrap_or e intra) b ≡ option_map_or (λ a. block_vector a b) e zero_vector
unfolding block_vector intra
of_entry None b = refl
of_entry (Some a) b = refl

-- Outside the grid a macroblock is intra, and so its vectors are zero.
pub block_there : (g : Grid MacroblockMotion) (found : List Vector) (p : Place) (b : ℕ) → block_vector (at intra g p) b ≡ value block_vector zero_vector g found (There p b)
block_there g found p b = of_entry (entry g p) b
