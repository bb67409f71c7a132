use Rattle.std.proofs.Common.{◌≡◌, ◌∙◌, ℕ, ◌+◌, ◌*◌, ◌/◌, ◌%◌, sym, ap, arith}
use Rattle.vp_recon.proofs.Words.{Raster, Image, with_plane, with_block, IsWhole, with_plane-plane_of, moved_pixel, luma_moved, vector_at, sub_of_quarter}
use Rattle.vp_recon.proofs.Parts.{was, quarter_at, until_none, quarter_written, quarters_all, with_block_of}
use Rattle.vp_recon.proofs.PlaneLemmas.{plane_next}
use Rattle.vp_recon.proofs.MovedLemmas.{moved_same, moved_quarter}
use Rattle.vp_recon.proofs.predict.predict_quarters.Goals as goal

pub loop-quarter-init : goal.loop-quarter-init
loop-quarter-init c =
    let p : Image = c.args.picture.now in
    let x : ℕ = c.args.x in
    let y : ℕ = c.args.y in
    let whole : IsWhole c.args.picture.now.luma = rw (← c.plane.ensures) c.width-known.ensures.whole in
    sym (with_plane-plane_of p 0)
    ∙ ap (with_plane p 0) (with_block_of p.luma x y 16 16 whole
    ∙ until_none p.luma x y 16 16 quarter_at (moved_pixel c.args.version c.args.reference.now x y 4 (luma_moved c.args.motion.now)) (was p.luma x y))

pub loop-quarter-preserved : goal.loop-quarter-preserved
loop-quarter-preserved c =
    let p : Image = c.args.picture.now in
    let n : ℕ = c.loop-quarter.quarter in
    let x : ℕ = c.args.x in
    let y : ℕ = c.args.y in
    let u : ℕ = c.args.x + 8 * (c.loop-quarter.quarter % 2) in
    let v : ℕ = c.args.y + 8 * (c.loop-quarter.quarter / 2) in
    let ref : Raster = c.args.reference.now in
    let vector = luma_moved c.args.motion.now in
    let h : ℕ → ℕ → ℕ = moved_pixel c.args.version ref u v 2 (vector_at c.quarter_vectors-vectors.result) in
    plane_next p c.loop-quarter.picture c.predict_four.new.picture 0 (λ s. with_block s u v 8 8 h) c.predict_four.ensures _ c.loop-quarter.invariant
    ∙ ap (with_plane p 0) (quarter_written p.luma x y (moved_pixel c.args.version ref x y 4 vector) (was p.luma x y) n h c.loop-quarter-test.true (λ r j rin jin.
    moved_same c.args.version ref u v c.quarter_vectors-vectors.result (λ k. vector (sub_of_quarter n k)) r j c.quarter_vectors-vectors.ensures.value rin jin
    ∙ moved_quarter c.args.version ref x y vector n r j rin jin))

pub returns : goal.returns
returns c =
    let p : Image = c.args.picture.now in
    let x : ℕ = c.args.x in
    let y : ℕ = c.args.y in
    let all : c.loop-quarter.quarter ≡ 4 = omega arith in
    c.loop-quarter.invariant
    ∙ ap (with_plane p 0) (quarters_all p.luma x y (moved_pixel c.args.version c.args.reference.now x y 4 (luma_moved c.args.motion.now)) (was p.luma x y) c.loop-quarter.quarter all)
