use Rattle.std.proofs.Common.{◌∙◌, sym, ap, subst, arith}
use Rattle.vp_base.specs.Raster.{Raster}
use Rattle.vp_base.specs.Image.{plane_of, with_plane}
use Rattle.vp_base.specs.Over.{over}
use Rattle.vp_base.proofs.ImageLemmas.{with_plane-plane_of}
use Rattle.vp_base.proofs.OverLemmas.{over-none}
use Rattle.vp_encode.specs.Continued.{ExtendsPlane, row_continued}
use Rattle.vp_encode.proofs.SourceLemmas.{plane_at, plane_more, row_size, plane_continued}
use Rattle.vp_encode.proofs.source.continue_plane.Goals as goal

pub loop-y-init : goal.loop-y-init
loop-y-init c =
    sym (ap (with_plane c.args.picture.now c.args.k) (over-none (row_continued c.args.width c.args.height c.args.source.now) (plane_of c.args.picture.now c.args.k))
    ∙ with_plane-plane_of c.args.picture.now c.args.k)

pub continue_row-requires-clause-size : goal.continue_row-requires-clause-size
continue_row-requires-clause-size c =
    let f = row_continued c.args.width c.args.height c.args.source.now in
    let q : Raster = plane_of c.args.picture.now c.args.k in
    subst (λ (r : Raster). ExtendsPlane c.args.width c.args.height c.args.source.now r)
    (sym (plane_at c.args.picture.now c.loop-y.picture c.args.k (over c.loop-y.y f q) c.loop-y.invariant))
    (row_size c.args.width c.args.height c.args.source.now c.loop-y.y q c.height-y-end.ensures.whole (omega arith) c.requires.size)

pub loop-y-preserved : goal.loop-y-preserved
loop-y-preserved c =
    plane_more c.args.picture.now c.loop-y.picture c.continue_row.new.picture c.args.k c.loop-y.y (row_continued c.args.width c.args.height c.args.source.now) c.loop-y.invariant c.continue_row.ensures

pub returns : goal.returns
returns c =
    c.loop-y.invariant
    ∙ ap (with_plane c.args.picture.now c.args.k)
    (plane_continued c.args.width c.args.height c.args.source.now c.loop-y.y (plane_of c.args.picture.now c.args.k) c.height-y-end.ensures.whole (omega arith) c.requires.size)
