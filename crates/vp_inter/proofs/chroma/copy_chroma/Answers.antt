use Rattle.std.proofs.Common.{◌≡◌, ◌∙◌, ℕ, ap, arith}
use Rattle.vp_base.specs.Raster.{Raster}
use Rattle.vp_base.specs.Block.{with_block}
use Rattle.vp_base.specs.Image.{Image, plane_of, with_plane}
use Rattle.vp_inter.specs.declared.vector.PlaneVector.{PlaneVector}
use Rattle.vp_inter.specs.Inter.{inter_pixel}
use Rattle.vp_inter.proofs.PassLemmas.{copied}
use Rattle.vp_inter.proofs.chroma.copy_chroma.Goals as goal

pub returns-clause-written : goal.returns-clause-written
returns-clause-written c version done =
    let p : Image = c.args.picture.now in
    let now : Image = c.copy_block.new.self in
    let ref : Image = c.args.reference.now in
    let x : ℕ = c.args.x in
    let y : ℕ = c.args.y in
    let v : PlaneVector = c.args.vector in
    let aligned = c.dim-known.ensures.aligned in
    let wide : c.plane-u.result.now.width ≡ ref.u.width = ap (λ (s : Raster). s.width) c.plane-u.ensures in
    let high : c.plane-u.result.now.height ≡ ref.u.height = ap (λ (s : Raster). s.height) c.plane-u.ensures in
    let inside = c.in-Some.ensures.inside in
    let place = c.in-Some.ensures.place in
    let whole = c.in-Some.ensures.whole in
    let first = c.copy_block.ensures.value
    ∙ ap (with_plane p 1) (copied version 8 x y c.in-Some.column c.in-Some.row v c.plane-u.result.now ref.u p.u c.plane-u.ensures (omega (arith, inside, wide)) (omega (arith, inside, high))
    place.0 place.1 whole.0 whole.1 c.copy_block.ensures.bytes) in
    c.copy_block-2.ensures.value
    ∙ ap (with_plane now 2) (copied version 8 x y c.in-Some.column c.in-Some.row v c.plane-v.result.now ref.v (plane_of now 2) c.plane-v.ensures (omega (arith, inside, wide, aligned)) (omega (arith, inside, high, aligned))
    place.0 place.1 whole.0 whole.1 c.copy_block-2.ensures.bytes)
    ∙ ap (λ (i : Image). with_plane i 2 (with_block (plane_of i 2) x y 8 8 (inter_pixel version ref.v x y v))) first
