use Rattle.std.proofs.Common.{◌∙◌}
use Rattle.vp_still.specs.Ppm.{rgb_in}
use Rattle.vp_still.proofs.PpmLemmas.{piece_more}
use Rattle.vp_still.proofs.ppm.put_row.Goals as goal

pub loop-x-preserved : goal.loop-x-preserved
loop-x-preserved c =
    c.in_ok-extend_from_slice.ensures.items
    ∙ piece_more (rgb_in c.args.luma.now c.args.u.now c.args.v.now) c.args.out.now.items c.loop-x.out.items c.rgb.result c.loop-x.x c.loop-x.invariant c.rgb.ensures
