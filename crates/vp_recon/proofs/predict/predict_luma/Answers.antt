use Rattle.std.proofs.Common.{◌≡◌, ◌∙◌, ◌*◌, ℕ, false, sym, ap, subst}
use Rattle.vp_recon.proofs.Words.{Raster, with_block, with_plane, is_split, MacroblockMotion, AreOne, PlaneVector, inter_pixel, predictor_of, luma_moved, luma_predicted}
use Rattle.vp_recon.specs.declared.predictor.Predictor.{Predictor}
use Rattle.vp_recon.proofs.MovedLemmas.{whole_block, luma_one}
use Rattle.vp_recon.proofs.predict.predict_luma.Goals as goal

pub returns-else-is_split : goal.returns-else-is_split
returns-else-is_split c =
    let p = c.args.picture.now in
    let x : ℕ = 16 * c.args.place.column in
    let y : ℕ = 16 * c.args.place.row in
    let e : MacroblockMotion = c.in-Inter.motion.now in
    let whole : is_split c.in-Inter.motion.now.mode ≡ false = rw (← c.motion.view_is) (sym c.is_split.ensures ∙ c.if-is_split.false) in
    let one : AreOne e.mode e.vectors = rw (← c.motion.view_is) c.motion.invariant in
    let block = λ (r : Raster) (v : PlaneVector). with_plane p 0 (with_block p.luma x y 16 16 (inter_pixel c.in-Inter.version r x y v)) in
    subst (λ (s : Predictor). c.predict_into.new.picture ≡ with_plane p 0 (luma_predicted (predictor_of s) c.args.place p.luma)) (sym c.in-Inter.is)
    (c.predict_into.ensures ∙ ap (λ (r : Raster). block r c.luma_vector_of-vector.result) c.plane-reference.ensures
    ∙ ap (block c.in-Inter.reference.now.luma) c.luma_vector_of-vector.ensures
    ∙ ap (with_plane p 0) (whole_block c.in-Inter.version c.in-Inter.reference.now.luma p.luma x y 4 (luma_moved e) (luma_one e one whole)))
