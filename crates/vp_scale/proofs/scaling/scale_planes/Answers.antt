use Rattle.std.proofs.Common.{◌∙◌, ◌*◌, ◌+◌, ℕ, refl, sym, ap, subst}
use Rattle.vp_base.specs.Image.{Image, IsAligned, blank_image}
use Rattle.vp_scale.specs.Scale.{scaled_side}
use Rattle.vp_scale.specs.Planes.{half, plane_from}
use Rattle.vp_scale.proofs.PictureLemmas.{planes_scaled}
use Rattle.vp_scale.proofs.scaling.scale_planes.Goals as goal

blank-aligned : (w h : ℕ) → IsAligned (blank_image w h 0)
blank-aligned w h = ((refl, refl), (refl, refl), (refl, refl))

pub returns-clause-shown : goal.returns-clause-shown
returns-clause-shown c =
    let w = c.from.ensures in
    let h = c.from-2.ensures in
    planes_scaled c.args.k c.args.dim.w c.args.dim.h c.args.pixels.now c.args.picture.now c.scale_plane.new.picture c.scale_plane-2.new.picture c.scale_plane-3.new.picture
    _ _ _ c.requires.factor
    (ap (λ (z : Image). z.width) c.requires.blank) (ap (λ (z : Image). z.height) c.requires.blank)
    (subst IsAligned (sym c.requires.blank) (blank-aligned (scaled_side c.args.k c.args.dim.w) (scaled_side c.args.k c.args.dim.h)))
    (c.new-luma.ensures ∙ (λ i. plane_from 0 (w i) (h i) c.args.pixels.now))
    (c.new-u.ensures ∙ (λ i. plane_from (h i * w i) (half (w i)) (half (h i)) c.args.pixels.now))
    (c.new-v.ensures ∙ (λ i. plane_from (h i * w i + half (h i) * half (w i)) (half (w i)) (half (h i)) c.args.pixels.now))
    c.scale_plane.ensures c.scale_plane-2.ensures c.scale_plane-3.ensures
