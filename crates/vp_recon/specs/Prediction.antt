-- The prediction of a macroblock's pixels, from its own picture (RFC 6386, chapter 12) or from a reference frame
-- (chapters 18.1 and 18.2). Pinned by the tests `two_macroblock_rows`, `a_split_macroblock` and `a_moved_macroblock`.
use Rattle.std.specs.Prelude.{ℕ, ◌+◌, ◌*◌, ◌/◌, ◌%◌, List, [], ◌∷◌, map, slice_index_or, if◌then◌else◌}
use Rattle.vp_base.specs.declared.place.Place.{Place}
use Rattle.vp_base.specs.Raster.{Raster}
use Rattle.vp_base.specs.Block.{with_block}
use Rattle.vp_base.specs.Image.{plane_of}
use Rattle.vp_tables.specs.declared.modes.SubMode.TheVariants as sub_is
use Rattle.vp_tables.specs.Modes.{is_by_subblocks}
use Rattle.vp_motion.specs.Vector.{Vector, MacroblockMotion, zero_vector}
use Rattle.vp_intra.specs.Whole.{luma_pixel, chroma_pixel}
use Rattle.vp_intra.specs.Sub.{sub_pixel}
use Rattle.vp_inter.specs.declared.vector.PlaneVector.{PlaneVector}
use Rattle.vp_inter.specs.Vectors.{luma_vector, chroma_vector}
use Rattle.vp_inter.specs.Inter.{inter_pixel}
use Rattle.vp_recon.specs.Predictor.{Predictor, Intra, Inter}

-- the motion vector of luma subblock k
unfoldable pub luma_moved : MacroblockMotion → ℕ → PlaneVector
luma_moved e k = let v = slice_index_or e.vectors k zero_vector in luma_vector v.row v.column

-- the vectors of a square of four luma subblocks; `first` is the number of the one at the top left
abbrev pub four_from : List Vector → ℕ → List Vector
four_from vectors first = map (λ k. slice_index_or vectors (first + k) zero_vector) (0 ∷ 1 ∷ 4 ∷ 5 ∷ [])

-- the motion vector of chroma subblock k, from those of the four luma subblocks that cover the same pixels
unfoldable pub chroma_moved : ℕ → MacroblockMotion → ℕ → PlaneVector
chroma_moved version e k =
    let four = four_from e.vectors (8 * (k / 2) + 2 * (k % 2)) in
    chroma_vector version (map (λ v. v.row) four) (map (λ v. v.column) four)

-- the inter prediction at row r and column c of the block at column x of row y, which is `across` subblocks wide;
-- `vector k` is the vector of subblock k in raster order
abbrev pub moved_pixel : ℕ → Raster → ℕ → ℕ → ℕ → (ℕ → PlaneVector) → ℕ → ℕ → ℕ
moved_pixel version reference x y across vector r c =
    inter_pixel version reference (x + 4 * (c / 4)) (y + 4 * (r / 4)) (vector (across * (r / 4) + c / 4)) (r % 4)
    (c % 4)

-- the prediction at row r and column c of a macroblock's luma in plane p: by subblock (B_PRED), by one mode, or by
-- motion
abbrev pub luma_prediction : Predictor → Place → Raster → ℕ → ℕ → ℕ
luma_prediction (Intra m) place p r c =
    if is_by_subblocks m.luma
    then sub_pixel (slice_index_or m.subs (4 * (r / 4) + c / 4) sub_is.Dc) p (16 * place.column
    + 4 * (c / 4)) (16 * place.row + 4 * (r / 4)) (r % 4) (c % 4)
    else luma_pixel m.luma p (16 * place.column) (16 * place.row) r c
luma_prediction (Inter motion reference version) place p r c =
    moved_pixel version reference.luma (16 * place.column) (16 * place.row) 4 (luma_moved motion) r c

-- the prediction at row r and column c of a macroblock's chroma plane k in plane p
abbrev pub chroma_prediction : Predictor → ℕ → Place → Raster → ℕ → ℕ → ℕ
chroma_prediction (Intra m) k place p r c = chroma_pixel m.chroma p (8 * place.column) (8 * place.row) r c
chroma_prediction (Inter motion reference version) k place p r c =
    moved_pixel version (plane_of reference k) (8 * place.column) (8 * place.row) 2 (chroma_moved version motion) r c

-- p with a macroblock's luma predicted
abbrev pub luma_predicted : Predictor → Place → Raster → Raster
luma_predicted predictor place p =
    with_block p (16 * place.column) (16 * place.row) 16 16 (luma_prediction predictor place p)

-- p with a macroblock's chroma plane k predicted
abbrev pub chroma_predicted : Predictor → ℕ → Place → Raster → Raster
chroma_predicted predictor k place p =
    with_block p (8 * place.column) (8 * place.row) 8 8 (chroma_prediction predictor k place p)
