-- Private to the crate: intra choices that are left because they cost too much.
use Rattle.std.specs.Prelude.{◌≡◌, ℕ, ◌≤◌, None}
use Rattle.vp_base.specs.declared.place.Place.{Place}
use Rattle.vp_base.specs.Raster.{Raster}
use Rattle.vp_base.specs.Image.{Image, with_plane}
use Rattle.vp_search.specs.FirstLeast.{IsFirstLeast}
use Rattle.vp_quant.specs.declared.factors.Factors.{Factors}
use Rattle.vp_choose.specs.declared.subblocks.Subblocks.{Subblocks}
use Rattle.vp_choose.specs.declared.luma.IntraLuma.{IntraLuma}
use Rattle.vp_choose.specs.Subblocks.{AreSubblocksChosen, after_subblocks}
use Rattle.vp_choose.specs.Costs.{luma_mode_cost}
use Rattle.vp_choose.specs.Intra.{LumaChoice, IsLuma, luma_at}

-- the choice of the subblocks costs at least a limit
pub record AreSubblocksOver (f : ℕ → ℕ → ℕ) (factors : Factors) (place : Place) (p : Raster) (limit : ℕ) : Type 0 where
  pub subblocks : Subblocks
  pub chosen : AreSubblocksChosen f factors place p subblocks
  pub over : limit ≤ subblocks.cost

-- the first luma mode other than B_PRED of the least cost
pub record IsWholeLuma (f : ℕ → ℕ → ℕ) (place : Place) (p : Raster) (w : IntraLuma) : Type 0 where
  pub number : ℕ
  pub first : IsFirstLeast 4 (λ i. luma_mode_cost f p place (luma_at i)) number
  pub mode : w.mode ≡ luma_at number
  pub cost : w.cost ≡ luma_mode_cost f p place (luma_at number)
  pub subblocks : w.subblocks ≡ None

-- the choice of the luma mode costs at least a limit
pub record IsLumaOver (f : ℕ → ℕ → ℕ) (factors : Factors) (place : Place) (p : Raster) (limit : ℕ) : Type 0 where
  pub luma : LumaChoice
  pub is : IsLuma f factors place p luma
  pub over : limit ≤ luma.cost

-- q is p with some subblocks of the macroblock at a place rebuilt
pub record IsPartlyRebuilt (factors : Factors) (place : Place) (p q : Image) : Type 0 where
  pub subblocks : Subblocks
  pub number : ℕ
  pub most : number ≤ 16
  pub is : q ≡ with_plane p 0 (after_subblocks factors place p.luma subblocks number)
  pub width : q.luma.width ≡ p.luma.width
  pub height : q.luma.height ≡ p.luma.height
