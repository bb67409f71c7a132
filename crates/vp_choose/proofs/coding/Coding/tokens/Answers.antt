use Rattle.std.proofs.Common.{◌∙◌, ◌+◌, ap, arith}
use Rattle.std.proofs.lemmas.Option.{IfSome_then}
use Rattle.vp_tokens.specs.Block.{Block}
use Rattle.vp_recon.specs.Prediction.{luma_prediction, chroma_prediction}
use Rattle.vp_choose.specs.Costs.{block_pixels}
use Rattle.vp_choose.specs.Coding.{HaveLuma}
use Rattle.vp_choose.proofs.coding.Coding.tokens.Goals as goal

have_luma : (c : goal.After-put_chroma-2) → HaveLuma c.luma_blocks-blocks.result (record { blocks = c.put_chroma-2.new.blocks })
have_luma c k below = c.put_chroma-2.ensures.others k (omega arith) ∙ c.put_chroma.ensures.others k (omega arith)

pub returns-clause-levels : goal.returns-clause-levels
returns-clause-levels c picture old place predictor cut pred =
    record {
      at_once = λ none. c.luma_blocks-blocks.ensures.at_once none (block_pixels 16 picture.luma place) (luma_prediction predictor place old.luma) cut.luma (pred.at_once none)
          _ (have_luma c);
      by_subblocks = IfSome_then c.args.self.now.subblocks c.luma_blocks-blocks.ensures.by_subblocks (λ s is. is _ (have_luma c));
      u = λ k below. ap (λ (b : Block). b.levels) (c.put_chroma-2.ensures.others (17 + k) (omega arith))
          ∙ c.put_chroma.ensures.levels (block_pixels 8 picture.u place) (chroma_prediction predictor 1 place old.u) cut.u pred.u k below;
      v = λ k below. c.put_chroma-2.ensures.levels (block_pixels 8 picture.v place) (chroma_prediction predictor 2 place old.v) cut.v pred.v k below;
    }

pub returns-clause-by_subblocks : goal.returns-clause-by_subblocks
returns-clause-by_subblocks c = IfSome_then c.args.self.now.subblocks c.luma_blocks-blocks.ensures.by_subblocks (λ s is. is _ (have_luma c))

pub returns-clause-writable : goal.returns-clause-writable
returns-clause-writable c = c.put_chroma-2.ensures.writable _ (c.put_chroma.ensures.writable _ c.luma_blocks-blocks.ensures.writable)
