use Rattle.std.proofs.Common.{◌∙◌, List, ℤ, sym, ap, subst, arith}
use Rattle.vp_recon.proofs.Words.{with_plane, Factors, luma_residue, AreDcs, luma_dc, le_or_l, le_or_r}
use Rattle.vp_recon.proofs.ResidueLemmas.{luma_sums, luma_nothing, block_alone}
use Rattle.vp_recon.proofs.add.add_luma.Goals as goal

pub returns-then-ends-y2_end-eq0 : goal.returns-then-ends-y2_end-eq0
returns-then-ends-y2_end-eq0 c =
    let p = c.args.picture.now in
    let t = c.args.tokens.now in
    let l = le_or_l c.ends_in-ends.result c.y2_end.result in
    let r = le_or_r c.ends_in-ends.result c.y2_end.result in
    ap (with_plane p 0) (block_alone p.luma c.args.x c.args.y 4 (luma_residue c.args.y2 t c.args.factors.now) c.know_plane.ensures.whole c.know_plane.ensures.bytes
    (λ k below. luma_nothing t c.args.factors.now c.args.y2 k below
    (let own = c.ends_in-ends.ensures k below in (own.0, omega (arith, own.1, l, c.if-ends-y2_end-eq0.true)))
    (λ has. let own = c.y2_end.ensures has in (own.0, omega (arith, own.1, r, c.if-ends-y2_end-eq0.true)))))

pub returns : goal.returns
returns c =
    let p = c.args.picture.now in
    let t = c.args.tokens.now in
    let dcs : List ℤ = c.in-Some.dcs in
    c.add_to_block.ensures
    ∙ ap (with_plane p 0) (luma_sums t c.args.factors.now c.factors.inside.raw c.factors.view_is p.luma c.args.x c.args.y c.args.y2 dcs
    (subst (λ (f : Factors). AreDcs 16 dcs (luma_dc c.args.y2 t f)) (sym c.factors.view_is) (c.small_luma_dcs.ensures.value dcs c.in-Some.is)))
