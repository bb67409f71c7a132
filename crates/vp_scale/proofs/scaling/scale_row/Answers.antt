use Rattle.std.proofs.Common.{subst}
use Rattle.vp_base.specs.Block.{IsWhole}
use Rattle.vp_base.specs.Image.{plane_of}
use Rattle.vp_scale.specs.Means.{mean_at}
use Rattle.vp_scale.proofs.PictureLemmas.{row_put}
use Rattle.vp_scale.proofs.scaling.scale_row.Goals as goal

pub returns : goal.returns
returns c =
    let whole : IsWhole (plane_of c.args.picture.now c.args.to) = subst IsWhole c.plane.ensures c.width-known.ensures.whole in
    row_put c.args.width c.args.y (mean_at c.args.k c.args.plane.now) c.args.picture.now c.args.to c.write_means.new.row c.row_mut.result.now whole c.write_means.ensures.len c.row_mut.ensures.len
    c.requires.columns c.requires.rows c.row_mut.ensures.value c.write_means.ensures.behind c.write_means.ensures.means
