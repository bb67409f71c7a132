-- The choice of the subblock modes of B_PRED, in raster order; each is predicted from the subblocks rebuilt before it.
-- RFC 6386 leaves it open.
use Rattle.std.specs.Prelude.{◌≡◌, ℕ, ◌+◌, ◌*◌, ◌<◌, ℤ, List, [], ◌∷◌, slice_index_or}
use Rattle.vp_base.specs.declared.place.Place.{Place}
use Rattle.vp_base.specs.Raster.{Raster}
use Rattle.vp_base.specs.Near.{block_place}
use Rattle.vp_base.specs.Over.{over}
use Rattle.vp_tables.specs.declared.modes.SubMode.{SubMode}
use Rattle.vp_tables.specs.declared.modes.SubMode.TheVariants.{Dc, Tm, Ve, He, Ld, Rd, Vr, Vl, Hd, Hu}
use Rattle.vp_tokens.specs.Block.{no_tokens}
use Rattle.vp_intra.specs.Sub.{sub_pixel}
use Rattle.vp_quant.specs.declared.factors.Factors.{Factors}
use Rattle.vp_recon.specs.Residue.{residue}
use Rattle.vp_recon.specs.Rebuilt.{with_sub}
use Rattle.vp_search.specs.Sums.{sum_below}
use Rattle.vp_search.specs.FirstLeast.{IsFirstLeast}
use Rattle.vp_choose.specs.declared.subblocks.Subblocks.{Subblocks}
use Rattle.vp_choose.specs.Costs.{sub_cost}
use Rattle.vp_choose.specs.Levels.{part, coefficients, quantised_levels}

-- the modes in tie-breaking order
abbrev pub order : List SubMode
order = Dc ∷ Tm ∷ Ve ∷ He ∷ Ld ∷ Rd ∷ Vr ∷ Vl ∷ Hd ∷ Hu ∷ []

-- the mode at a position in this order
abbrev pub mode_at : ℕ → SubMode
mode_at i = slice_index_or order i Dc

-- the first mode of the least cost for the subblock f; its place is among all subblocks of p
pub record IsBestMode (f : ℕ → ℕ → ℕ) (p : Raster) (place : Place) (mode : SubMode) : Type 0 where
  pub number : ℕ
  pub first : IsFirstLeast 10 (λ i. sub_cost f p place (mode_at i)) number
  pub is : mode ≡ mode_at number

-- the levels of a subblock that is predicted by a mode
abbrev pub sub_levels : (ℕ → ℕ → ℕ) → Raster → Place → SubMode → Factors → List ℤ
sub_levels f p place mode factors =
    quantised_levels (coefficients f (sub_pixel mode p (4 * place.column) (4 * place.row))) factors.y_dc factors.y_ac

-- the mode and the levels of subblock k
abbrev pub mode_of : Subblocks → ℕ → SubMode
mode_of s k = slice_index_or s.modes k Dc

-- the levels of subblock k
abbrev pub levels_in : Subblocks → ℕ → List ℤ
levels_in s k = (slice_index_or s.blocks (1 + k) no_tokens).levels

-- p with subblock k of the macroblock at a place rebuilt
abbrev pub sub_rebuilt : Factors → Place → Subblocks → ℕ → Raster → Raster
sub_rebuilt factors place s k p = with_sub p (block_place 4 place k) (mode_of s k)
    (residue (levels_in s k) factors.y_dc factors.y_ac)

-- p with the first n subblocks rebuilt
abbrev pub after_subblocks : Factors → Place → Raster → Subblocks → ℕ → Raster
after_subblocks factors place p s n = over n (sub_rebuilt factors place s) p

-- each subblock has the best mode, given those before it, and the levels of that mode; the cost is their sum
pub record AreSubblocksChosen (f : ℕ → ℕ → ℕ) (factors : Factors) (place : Place) (p : Raster) (s : Subblocks)
    : Type 0 where
  pub modes : (k : ℕ) → k < 16 → IsBestMode (part 4 f k) (after_subblocks factors place p s k) (block_place 4 place k)
      (mode_of s k)
  pub levels : (k : ℕ) → k < 16
      → levels_in s k ≡ sub_levels (part 4 f k) (after_subblocks factors place p s k) (block_place 4 place k)
      (mode_of s k) factors
  pub cost : s.cost ≡ sum_below 16 (λ k. sub_cost (part 4 f k) (after_subblocks factors place p s k)
      (block_place 4 place k) (mode_of s k))
