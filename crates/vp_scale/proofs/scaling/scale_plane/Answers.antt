use Rattle.std.proofs.Common.{◌∙◌, sym, ap, subst, arith}
use Rattle.vp_base.specs.Block.{IsWhole}
use Rattle.vp_base.specs.Image.{plane_of, with_plane}
use Rattle.vp_base.proofs.BlockLemmas.{with_block_none}
use Rattle.vp_base.proofs.ImageLemmas.{with_plane-plane_of}
use Rattle.vp_scale.specs.Scale.{scaled_side}
use Rattle.vp_scale.specs.Means.{mean_at}
use Rattle.vp_scale.proofs.PictureLemmas.{plane_more}
use Rattle.vp_scale.proofs.scaling.scale_plane.Goals as goal

pub loop-y-init : goal.loop-y-init
loop-y-init c =
    let whole : IsWhole (plane_of c.args.picture.now c.args.to) = subst IsWhole c.plane.ensures c.width-known.ensures.whole in
    sym (ap (with_plane c.args.picture.now c.args.to) (with_block_none (plane_of c.args.picture.now c.args.to) 0 0 _ (λ r x. mean_at c.args.k c.args.plane.now x r) whole)
    ∙ with_plane-plane_of c.args.picture.now c.args.to)

pub loop-y-preserved : goal.loop-y-preserved
loop-y-preserved c =
    let wide = ap (scaled_side c.args.k) c.width.ensures.value in
    let high = ap (scaled_side c.args.k) c.height.ensures.value in
    plane_more _ c.loop-y.y (mean_at c.args.k c.args.plane.now) c.args.picture.now c.loop-y.picture c.scale_row.new.picture c.args.to
    (omega (arith, wide, c.requires.columns)) (omega (arith, high, c.requires.rows, c.loop-y-test.true)) c.loop-y.invariant c.scale_row.ensures
