use Rattle.std.proofs.Common.{◌∙◌, refl}
use Rattle.vp_intra.specs.Sub.{around}
use Rattle.vp_intra.proofs.SubLemmas.{sub_block}
use Rattle.vp_intra.proofs.sub.predict_sub.Goals as goal

pub returns : goal.returns
returns c =
    c.predict.ensures (around c.args.plane.now c.args.x c.args.y) refl c.pixels_around.ensures
    ∙ sub_block c.args.mode c.args.plane.now c.args.x c.args.y
