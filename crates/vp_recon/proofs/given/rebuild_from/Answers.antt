use Rattle.std.proofs.Common.{◌∙◌, Bool, true, ◌+◌, ◌*◌, ◌≤◌, ℕ, get_or, sym, ap, subst, arith}
use Rattle.vp_recon.proofs.Words.{with_block, Image, Macroblock, macroblock_of, luma_prediction, luma_residue, summed, residue_at, not}
use Rattle.vp_recon.proofs.LumaLemmas.{luma_at_once}
use Rattle.vp_recon.proofs.PlaneLemmas.{summed_onto, sums_listed, given_half, given_rebuilt}
use Rattle.vp_recon.proofs.given.rebuild_from.Goals as goal

pub returns-then-not-by_subblocks : goal.returns-then-not-by_subblocks
returns-then-not-by_subblocks c predictor is_sub has given =
    let p : Image = c.args.picture.now in
    let t = c.args.tokens.now in
    let b = c.args.prediction.now in
    let place = c.args.place in
    let x : ℕ = 16 * c.args.place.column in
    let y : ℕ = 16 * c.args.place.row in
    let m : Macroblock = macroblock_of predictor t c.args.factors.now in
    let own = λ (y2 : Bool). residue_at 4 (luma_residue y2 t c.args.factors.now) in
    let whole = is_sub ∙ c.if-not-by_subblocks.true in
    let aligned = c.dim-known.ensures.aligned in
    let half = given_half m place p c.write_block.new.self c.write_block-2.new.self c.add_chroma.new.picture b (omega (arith, aligned)) (omega (arith, aligned)) (omega (arith, aligned)) (omega (arith, aligned))
    c.write_block.ensures c.write_block-2.ensures c.add_chroma.ensures in
    given_rebuilt m place p c.add_chroma.new.picture c.add_luma.new.picture b (λ q. with_block q x y 16 16 (λ r j. summed (get_or b.luma (r * 16 + j) 0) (own true r j))) given half
    (summed_onto c.add_chroma.new.picture c.write_block-3.new.self 0 x y 16 (λ r j. get_or b.luma (r * 16 + j) 0)
    (subst (λ (i : Image). x + 16 ≤ i.luma.width) (sym half) (omega (arith, aligned))) (subst (λ (i : Image). y + 16 ≤ i.luma.height) (sym half) (omega (arith, aligned)))
    c.write_block-3.ensures c.add_luma.new.picture (own true) c.add_luma.ensures)
    (sums_listed p.luma x y 16 b.luma (luma_prediction predictor place p.luma) (own true) (given.at_once whole)
    ∙ ap (λ (y2 : Bool). with_block p.luma x y 16 16 (λ r j. summed (luma_prediction predictor place p.luma r j) (own y2 r j))) (sym (has ∙ ap not c.if-not-by_subblocks.true))
    ∙ luma_at_once m place p.luma whole)

pub returns-else-not-by_subblocks : goal.returns-else-not-by_subblocks
returns-else-not-by_subblocks c predictor is_sub has given =
    let p : Image = c.args.picture.now in
    let t = c.args.tokens.now in
    let b = c.args.prediction.now in
    let place = c.args.place in
    let m : Macroblock = macroblock_of predictor t c.args.factors.now in
    let aligned = c.dim-known.ensures.aligned in
    let half = given_half m place p c.write_block.new.self c.write_block-2.new.self c.add_chroma.new.picture b (omega (arith, aligned)) (omega (arith, aligned)) (omega (arith, aligned)) (omega (arith, aligned))
    c.write_block.ensures c.write_block-2.ensures c.add_chroma.ensures in
    given_rebuilt m place p c.add_chroma.new.picture c.write_block-3.new.self b (λ q. with_block q (16 * c.args.place.column) (16 * c.args.place.row) 16 16 (λ r j. get_or b.luma (r * 16 + j) 0)) given half
    c.write_block-3.ensures (given.by_subblocks (is_sub ∙ c.if-not-by_subblocks.false))
