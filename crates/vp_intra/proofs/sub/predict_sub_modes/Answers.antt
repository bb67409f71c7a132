use Rattle.std.proofs.Common.{◌∙◌, refl}
use Rattle.vp_intra.specs.Sub.{around, sub_modes}
use Rattle.vp_intra.proofs.SubLemmas.{all_blocks}
use Rattle.vp_intra.proofs.sub.predict_sub_modes.Goals as goal

pub returns : goal.returns
returns c =
    c.predict_modes.ensures (around c.args.plane.now c.args.x c.args.y) refl c.pixels_around.ensures
    ∙ all_blocks sub_modes c.args.plane.now c.args.x c.args.y
