use Rattle.std.proofs.Common.{◌≡◌, ◌∙◌, ℕ, ◌+◌, ◌*◌, ◌/◌, ◌%◌, refl, sym, ap, arith}
use Rattle.vp_recon.proofs.Words.{Raster, Image, plane_of, with_plane, with_block, IsWhole, with_plane-plane_of, inter_pixel, moved_pixel, vector_at}
use Rattle.vp_recon.proofs.Parts.{was, sub_at, until_none, sub_written, subs_all, with_block_of}
use Rattle.vp_recon.proofs.PlaneLemmas.{plane_next, plane_kept}
use Rattle.vp_recon.proofs.MovedLemmas.{moved_part, whole_block}
use Rattle.vp_recon.proofs.predict.predict_four.Goals as goal

pub returns-then-are_alike : goal.returns-then-are_alike
returns-then-are_alike c =
    let vector = vector_at c.args.vectors.now in
    let ref : Raster = c.args.reference.now in
    c.predict_into.ensures ∙ ap (with_plane c.args.picture.now c.args.plane)
    (whole_block c.args.version ref (plane_of c.args.picture.now c.args.plane) c.args.x c.args.y 2 vector (c.are_alike.ensures c.if-are_alike.true))

pub loop-k-init : goal.loop-k-init
loop-k-init c =
    let p : Image = c.args.picture.now in
    let q : Raster = plane_of p c.args.plane in
    let whole : IsWhole (plane_of c.args.picture.now c.args.plane) = rw (← c.plane.ensures) c.width-known.ensures.whole in
    record {
      pixels = sym (with_plane-plane_of p c.args.plane)
          ∙ ap (with_plane p c.args.plane) (with_block_of q c.args.x c.args.y 8 8 whole
          ∙ until_none q c.args.x c.args.y 8 8 (sub_at 2) (moved_pixel c.args.version c.args.reference.now c.args.x c.args.y 2 (vector_at c.args.vectors.now)) (was q c.args.x c.args.y));
      wide = refl;
      high = refl;
    }

pub loop-k-preserved : goal.loop-k-preserved
loop-k-preserved c =
    let p : Image = c.args.picture.now in
    let now : Image = c.loop-k.picture in
    let next : Image = c.predict_into-in-loop-k.new.picture in
    let n : ℕ = c.args.plane in
    let k : ℕ = c.loop-k.k in
    let x : ℕ = c.args.x in
    let y : ℕ = c.args.y in
    let vector = vector_at c.args.vectors.now in
    let f : ℕ → ℕ → ℕ = inter_pixel c.args.version c.args.reference.now (c.args.x + 4 * (c.loop-k.k % 2)) (c.args.y + 4 * (c.loop-k.k / 2)) (vector_at c.args.vectors.now c.loop-k.k) in
    let step : Raster → Raster = λ s. with_block s (c.args.x + 4 * (c.loop-k.k % 2)) (c.args.y + 4 * (c.loop-k.k / 2)) 4 4 f in
    let pixel = moved_pixel c.args.version c.args.reference.now x y 2 vector in
    record {
      pixels = plane_next p now next n step c.predict_into-in-loop-k.ensures _ c.loop-k.invariant.pixels
          ∙ ap (with_plane p n) (sub_written (plane_of p n) x y pixel (was (plane_of p n) x y) k f c.loop-k-test.true (moved_part c.args.version c.args.reference.now x y vector k));
      wide = plane_kept p now next n step c.predict_into-in-loop-k.ensures (λ (s : Raster). s.width) refl ∙ c.loop-k.invariant.wide;
      high = plane_kept p now next n step c.predict_into-in-loop-k.ensures (λ (s : Raster). s.height) refl ∙ c.loop-k.invariant.high;
    }

pub returns : goal.returns
returns c =
    let q : Raster = plane_of c.args.picture.now c.args.plane in
    let all : c.loop-k.k ≡ 4 = omega arith in
    c.loop-k.invariant.pixels
    ∙ ap (with_plane c.args.picture.now c.args.plane)
    (subs_all q c.args.x c.args.y (moved_pixel c.args.version c.args.reference.now c.args.x c.args.y 2 (vector_at c.args.vectors.now)) (was q c.args.x c.args.y) c.loop-k.k all)
