use Rattle.std.proofs.Common.{◌∙◌, ◌+◌, ◌≤◌, ℕ, ap, subst, sym}
use Rattle.vp_base.specs.Raster.{Raster}
use Rattle.vp_base.specs.Block.{IsWhole, with_block}
use Rattle.vp_base.specs.Image.{Image, plane_of, with_plane}
use Rattle.vp_inter.specs.Inter.{inter_pixel}
use Rattle.vp_inter.proofs.WrittenLemmas.{block_put, plane_room}
use Rattle.vp_inter.proofs.block.predict_into.Goals as goal

pub predict-requires-clause-room : goal.predict-requires-clause-room
predict-requires-clause-room g c =
    let off = c.if-copy_whole.false in
    let kept = c.copy_whole.ensures.kept (λ on. absurd cc) in
    plane_room (plane_of c.copy_whole.new.picture c.args.k) c.args.x c.args.y g.row.N g.row.N c.width-stride.result _
    (c.width-stride.ensures.value ∙ ap (λ (s : Raster). s.width) c.plane.ensures) c.pixels_mut.ensures.len
    (subst (λ (p : Image). c.args.x + g.row.N ≤ (plane_of p c.args.k).width) (sym kept) c.requires.columns)
    (subst (λ (p : Image). c.args.y + g.row.N ≤ (plane_of p c.args.k).height) (sym kept) c.requires.rows)

pub returns : goal.returns
returns g c =
    let off = c.if-copy_whole.false in
    let kept = c.copy_whole.ensures.kept (λ on. absurd cc) in
    let now : Image = c.copy_whole.new.picture in
    let pixel : ℕ → ℕ → ℕ = inter_pixel c.args.version c.args.reference.now c.args.x c.args.y c.args.vector in
    ap (with_plane now c.args.k) (block_put (plane_of now c.args.k) c.args.x c.args.y g.row.N g.row.N c.width-stride.result pixel c.pixels_mut.result.now c.predict.new.pixels
    (subst IsWhole c.plane.ensures c.width-stride.ensures.whole) (c.width-stride.ensures.value ∙ ap (λ (s : Raster). s.width) c.plane.ensures) c.pixels_mut.ensures.value
    (subst (λ (p : Image). c.args.x + g.row.N ≤ (plane_of p c.args.k).width) (sym kept) c.requires.columns)
    (subst (λ (p : Image). c.args.y + g.row.N ≤ (plane_of p c.args.k).height) (sym kept) c.requires.rows)
    (c.predict.ensures c.args.reference.now c.args.x c.args.y c.patch_for-patch.ensures))
    ∙ ap (λ (p : Image). with_plane p c.args.k (with_block (plane_of p c.args.k) c.args.x c.args.y g.row.N g.row.N pixel)) kept
