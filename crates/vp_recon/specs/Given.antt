-- The prediction of a macroblock that is made before its residue is known (RFC 6386, chapter 14.5).
use Rattle.std.specs.Prelude.{◌≡◌, ◌+◌, ◌*◌, true, false, slice_index}
use Rattle.vp_base.specs.declared.place.Place.{Place}
use Rattle.vp_base.specs.Block.{with_block}
use Rattle.vp_base.specs.Image.{Image}
use Rattle.vp_intra.specs.Edges.{block as listed}
use Rattle.vp_recon.specs.declared.given.MacroblockPixels.{MacroblockPixels}
use Rattle.vp_recon.specs.Predictor.{Macroblock, predicts_by_subblocks}
use Rattle.vp_recon.specs.Prediction.{luma_prediction, chroma_prediction}
use Rattle.vp_recon.specs.Rebuilt.{luma_rebuilt}

-- The prediction of a macroblock of p. With B_PRED each subblock is predicted from those rebuilt before it: then its
-- luma is given as it is rebuilt.
pub record IsGiven (m : Macroblock) (place : Place) (p : Image) (b : MacroblockPixels) : Type 0 where
  pub at_once : predicts_by_subblocks m.predictor ≡ false → b.luma ≡ listed 16 (luma_prediction m.predictor place p.luma)
  pub by_subblocks : predicts_by_subblocks m.predictor ≡ true
      → with_block p.luma (16 * place.column) (16 * place.row) 16 16 (λ r c. slice_index b.luma (r * 16 + c))
      ≡ luma_rebuilt m place p.luma
  pub u : b.u ≡ listed 8 (chroma_prediction m.predictor 1 place p.u)
  pub v : b.v ≡ listed 8 (chroma_prediction m.predictor 2 place p.v)
