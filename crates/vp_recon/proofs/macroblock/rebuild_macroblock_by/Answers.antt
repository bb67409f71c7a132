use Rattle.std.proofs.Common.{rules, ◌≡◌, ◌∙◌, ◌+◌, ◌*◌, ◌≤◌, false, ap, subst, sym, arith}
use Rattle.vp_recon.proofs.Words.{Image, with_plane, Macroblock, macroblock_of, predictor_of, predicts_by_subblocks, has_y2, luma_residue, luma_prediction, residue_at}
use Rattle.vp_recon.specs.Predictor.{Predictor}
use Rattle.vp_recon.proofs.LumaLemmas.{luma_at_once}
use Rattle.vp_recon.proofs.PlaneLemmas.{summed_onto, chroma_half, luma_after_half}
use Rattle.vp_recon.proofs.macroblock.rebuild_macroblock_by.Goals as goal
use Rattle.vp_recon.proofs.macroblock.rebuild_macroblock_by.Goals.{in_default-via-in-Intra+else-is_by_subblocks, in_default-via-in_default}

pub returns-in-Intra : goal.returns-in-Intra
returns-in-Intra c =
    let p : Image = c.args.picture.now in
    let m : Macroblock = macroblock_of (predictor_of c.args.predictor.now) c.args.tokens.now c.args.factors.now in
    let whole = c.dim-known.ensures.aligned in
    luma_after_half m c.args.place p c.add_chroma.new.picture c.rebuild_subs.new.picture
    (chroma_half m c.args.place p c.predict_chroma.new.picture c.add_chroma.new.picture (omega (arith, whole)) (omega (arith, whole)) (omega (arith, whole)) (omega (arith, whole)) c.predict_chroma.ensures c.add_chroma.ensures)
    (search rules)

pub returns-in_default : goal.returns-in_default
returns-in_default c =
    let p : Image = c.args.picture.now in
    let half : Image = c.add_chroma.new.picture in
    let s : Predictor = predictor_of c.args.predictor.now in
    let m : Macroblock = macroblock_of s c.args.tokens.now c.args.factors.now in
    let aligned = c.dim-known.ensures.aligned in
    let whole : predicts_by_subblocks s ≡ false = elim c.in_default.branch [
      | in_default-via-in-Intra+else-is_by_subblocks w ↦ search rules
      | in_default-via-in_default w ↦ search rules
    ] in
    let is_half = chroma_half m c.args.place p c.predict_chroma.new.picture c.add_chroma.new.picture (omega (arith, aligned)) (omega (arith, aligned)) (omega (arith, aligned)) (omega (arith, aligned)) c.predict_chroma.ensures c.add_chroma.ensures in
    luma_after_half m c.args.place p half c.add_luma.new.picture is_half
    (summed_onto half c.predict_luma.new.picture 0 (16 * c.args.place.column) (16 * c.args.place.row) 16 (luma_prediction s c.args.place half.luma)
    (subst (λ (i : Image). 16 * c.args.place.column + 16 ≤ i.luma.width) (sym is_half) (omega (arith, aligned))) (subst (λ (i : Image). 16 * c.args.place.row + 16 ≤ i.luma.height) (sym is_half) (omega (arith, aligned)))
    c.predict_luma.ensures c.add_luma.new.picture (residue_at 4 (luma_residue (has_y2 s) c.args.tokens.now c.args.factors.now)) (rw (← c.has_y2.ensures) c.add_luma.ensures)
    ∙ ap (with_plane half 0) (luma_at_once m c.args.place half.luma whole))
