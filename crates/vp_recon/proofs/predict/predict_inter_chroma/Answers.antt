use Rattle.std.proofs.Common.{◌≡◌, ◌∙◌, ◌*◌, ℕ, false, sym, ap, subst}
use Rattle.vp_recon.proofs.Words.{Raster, with_block, Image, plane_of, with_plane, with_block_same, is_split, MacroblockMotion, AreOne, PlaneVector, inter_pixel, chroma_moved, moved_pixel, vector_at}
use Rattle.vp_recon.proofs.MovedLemmas.{moved_same, whole_block, chroma_one}
use Rattle.vp_recon.proofs.predict.predict_inter_chroma.Goals as goal

pub returns-then-is_split : goal.returns-then-is_split
returns-then-is_split c =
    let p : Image = c.args.picture.now in
    let now : Image = c.predict_four.new.picture in
    let x : ℕ = 8 * c.args.place.column in
    let y : ℕ = 8 * c.args.place.row in
    let moved = chroma_moved c.args.version c.args.motion.now in
    let vectors = c.chroma_vectors-vectors.result in
    let step : Raster → Raster → Raster = λ from s. with_block s x y 8 8 (moved_pixel c.args.version from x y 2 (vector_at vectors)) in
    let each : (from s : Raster) → step from s ≡ with_block s x y 8 8 (moved_pixel c.args.version from x y 2 moved) =
    λ from s. with_block_same s x y 8 8 (moved_pixel c.args.version from x y 2 (vector_at vectors)) (moved_pixel c.args.version from x y 2 moved)
    (λ r j. moved_same c.args.version from x y vectors moved r j c.chroma_vectors-vectors.ensures.value) in
    c.predict_four-then-is_split.ensures
    ∙ ap (λ (from : Raster). with_plane now 2 (step from (plane_of now 2))) c.plane-v.ensures
    ∙ ap (λ (i : Image). with_plane i 2 (step c.args.reference.now.v (plane_of i 2))) (c.predict_four.ensures ∙ ap (λ (from : Raster). with_plane p 1 (step from p.u)) c.plane-u.ensures)
    ∙ cc (each c.args.reference.now.u p.u, each c.args.reference.now.v p.v)

pub returns-else-is_split : goal.returns-else-is_split
returns-else-is_split c =
    let p : Image = c.args.picture.now in
    let x : ℕ = 8 * c.args.place.column in
    let y : ℕ = 8 * c.args.place.row in
    let e : MacroblockMotion = c.args.motion.now in
    let moved = chroma_moved c.args.version c.args.motion.now in
    let vector : PlaneVector = c.whole_chroma_vector-vector.result in
    let whole : is_split c.args.motion.now.mode ≡ false = ap (λ (a : MacroblockMotion). is_split a.mode) (sym c.motion.view_is) ∙ sym c.is_split.ensures ∙ c.if-is_split.false in
    let one : AreOne e.mode e.vectors = subst (λ (a : MacroblockMotion). AreOne a.mode a.vectors) c.motion.view_is c.motion.invariant in
    let each : (from s : Raster) → with_block s x y 8 8 (inter_pixel c.args.version from x y vector) ≡ with_block s x y 8 8 (moved_pixel c.args.version from x y 2 moved) =
    λ from s. ap (λ (v : PlaneVector). with_block s x y 8 8 (inter_pixel c.args.version from x y v)) c.whole_chroma_vector-vector.ensures
    ∙ whole_block c.args.version from s x y 2 moved (chroma_one e one whole c.args.version) in
    c.predict_into_chroma.ensures ∙ cc (each c.args.reference.now.u p.u, each c.args.reference.now.v p.v)
