-- The unfiltered picture as an equation between its pixels, without an order of computation (RFC 6386, chapters 5, 12,
-- 14.5 and 18). The laws `unfiltered_picture_solves_its_equation` and `unfiltered_equation_has_one_solution` tie it to
-- reconstruction in raster order.
use Rattle.std.specs.Prelude.{◌≡◌, ◌<◌, ℕ, ◌+◌, ◌*◌}
use Rattle.vp_base.specs.declared.place.Place.{Place}
use Rattle.vp_base.specs.Raster.{pixel}
use Rattle.vp_base.specs.Image.{Image, macroblocks}
use Rattle.vp_recon.specs.Predictor.{Macroblock}
use Rattle.vp_recon.specs.Rebuilt.{luma_made, chroma_made}

-- each pixel of the macroblock at a place of p is its prediction plus its residue, by m
pub record IsPredicted (p : Image) (place : Place) (m : Macroblock) : Type 0 where
  pub luma : (r c : ℕ) → r < 16 → c < 16 → pixel p.luma (16 * place.column + c) (16 * place.row + r)
      ≡ luma_made m place p.luma r c
  pub u : (r c : ℕ) → r < 8 → c < 8 → pixel p.u (8 * place.column + c) (8 * place.row + r)
      ≡ chroma_made m 1 place p.u r c
  pub v : (r c : ℕ) → r < 8 → c < 8 → pixel p.v (8 * place.column + c) (8 * place.row + r)
      ≡ chroma_made m 2 place p.v r c

-- all macroblocks of p are predicted; f gives the macroblock at each place
abbrev pub IsUnfiltered : (Place → Macroblock) → Image → Type 0
IsUnfiltered f p =
    (place : Place) → place.column < macroblocks p.width → place.row < macroblocks p.height
    → IsPredicted p place (f place)
