-- The choice of a macroblock's reference frame, vector and mode, and its levels. RFC 6386 leaves it open. Pinned by the
-- test `a_still_macroblock`.
use Rattle.std.specs.Prelude.{◌≡◌, ◌≢◌, ◌<◌, ◌≤◌, ℕ, true, false, replicate, unsigned_abs}
use Rattle.vp_base.specs.declared.place.Place.{Place}
use Rattle.vp_base.specs.Grid.{Grid}
use Rattle.vp_base.specs.Raster.{Raster}
use Rattle.vp_base.specs.Image.{Image}
use Rattle.vp_tables.specs.declared.modes.VectorMode.{VectorMode}
use Rattle.vp_tables.specs.declared.modes.VectorMode.TheVariants as vector_is
use Rattle.vp_head.specs.declared.fields.Reference.{Reference}
use Rattle.vp_head.specs.declared.fields.Reference.TheVariants as reference_is
use Rattle.vp_modes.specs.Entry.{unread}
use Rattle.vp_motion.specs.Vector.{Vector, MacroblockMotion, Candidates, zero_vector}
use Rattle.vp_motion.specs.Near.{candidates}
use Rattle.vp_quant.specs.declared.factors.Factors.{Factors}
use Rattle.vp_refs.specs.References.{reference_picture}
use Rattle.vp_recon.specs.Predictor.{Predictor, Inter}
use Rattle.vp_recon.specs.Prediction.{luma_prediction, chroma_prediction}
use Rattle.vp_search.specs.declared.vector.WholeVector.{WholeVector}
use Rattle.vp_search.specs.declared.vector.QuarterVector.{QuarterVector}
use Rattle.vp_search.specs.declared.vector.Refined.{Refined}
use Rattle.vp_search.specs.Vectors.{quarters}
use Rattle.vp_search.specs.Blocks.{whole_cost, quarter_cost}
use Rattle.vp_search.specs.Least.{IsLeast}
use Rattle.vp_search.specs.Refined.{IsRefined}
use Rattle.vp_choose.specs.declared.motion.Moved.{Moved}
use Rattle.vp_choose.specs.declared.frame.Choice.{Choice}
use Rattle.vp_choose.specs.Costs.{block_pixels}
use Rattle.vp_choose.specs.Levels.{HasLumaAndY2, HasChroma}
use Rattle.vp_choose.specs.Frame.{Search, choice_motion, no_biases}

-- the cost of a vector in a reference frame
abbrev pub vector_cost : Raster → Raster → Place → QuarterVector → ℕ
vector_cost source reference place v = quarter_cost (block_pixels 16 source place) reference place v

-- the best vector of a reference frame in whole pixels, refined to quarter pixels or not, and its cost
pub record IsFound (s : Search) (source reference : Raster) (place : Place) (found : Refined) : Type 0 where
  pub whole : WholeVector
  pub least : IsLeast s.range (whole_cost (block_pixels 16 source place) reference place) whole
  pub refined : s.subpel ≡ true → IsRefined (vector_cost source reference place) whole found.vector
  pub unrefined : s.subpel ≡ false → found.vector ≡ quarters whole
  pub cost : found.cost ≡ vector_cost source reference place found.vector

-- a vector and its cost, with the reference frame that it is found in
abbrev pub found_in : Reference → Refined → Moved
found_in reference found = record { reference = reference; vector = found.vector; cost = found.cost }

-- golden is chosen if it costs less than last
pub record IsLess (s : Search) (source : Raster) (place : Place) (last : Refined) (m : Moved) : Type 0 where
  pub golden : Refined
  pub in_golden : IsFound s source s.references.golden.luma place golden
  pub less : golden.cost < last.cost → m ≡ found_in reference_is.Golden golden
  pub not_less : last.cost ≤ golden.cost → m ≡ found_in reference_is.Last last

-- the reference frame that is chosen, with its vector
pub record IsMoved (s : Search) (source : Raster) (place : Place) (m : Moved) : Type 0 where
  pub last : Refined
  pub in_last : IsFound s source s.references.last.luma place last
  pub last_alone : s.golden ≡ false → m ≡ found_in reference_is.Last last
  pub golden_too : s.golden ≡ true → IsLess s source place last m

-- the mode is the first of zero, nearest, near and new that gives the vector
abbrev pub IsFirstGiving : Candidates → Vector → VectorMode → Type 0
IsFirstGiving c v vector_is.Zero = v ≡ zero_vector
IsFirstGiving c v vector_is.Nearest = (v ≢ zero_vector) × (v ≡ c.nearest)
IsFirstGiving c v vector_is.Near = (v ≢ zero_vector) × (v ≢ c.nearest) × (v ≡ c.near)
IsFirstGiving c v vector_is.New = (v ≢ zero_vector) × (v ≢ c.nearest) × (v ≢ c.near)
IsFirstGiving c v vector_is.Split = ⊥

-- the vector without its cost
abbrev pub vector_of : Moved → Vector
vector_of m = record { row = m.vector.row; column = m.vector.column }

-- the greatest vector of a search within 64 pixels: 256 quarter pixels, and 3 by refinement
abbrev pub IsInSearchRange : QuarterVector → Type 0
IsInSearchRange v = (unsigned_abs v.row ≤ 259) × (unsigned_abs v.column ≤ 259)

-- the predictor of an inter macroblock
abbrev pub moved_source : Search → Moved → Choice → Predictor
moved_source s m c = Inter (choice_motion c) (reference_picture s.references m.reference) 0

-- the choice for an inter macroblock with this motion; its intra modes are unused
pub record IsInter (source : Image) (factors : Factors) (s : Search) (g : Grid MacroblockMotion) (place : Place)
    (p : Image) (m : Moved) (c : Choice) : Type 0 where
  pub modes : c.modes ≡ unread 0 c.modes.skip m.reference
  pub vectors : c.motion.vectors ≡ replicate 16 (vector_of m)
  pub mode : IsFirstGiving (candidates g place m.reference no_biases) (vector_of m) c.motion.mode
  pub luma : HasLumaAndY2 (block_pixels 16 source.luma place)
      (luma_prediction (moved_source s m c) place p.luma) factors c.tokens
  pub u : HasChroma (block_pixels 8 source.u place) (chroma_prediction
      (moved_source s m c) 1 place p.u) factors c.tokens 1
  pub v : HasChroma (block_pixels 8 source.v place) (chroma_prediction
      (moved_source s m c) 2 place p.v) factors c.tokens 2
