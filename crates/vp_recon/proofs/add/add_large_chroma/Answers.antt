use Rattle.std.proofs.Common.{◌∙◌, ◌*◌, ap, ℕ}
use Rattle.vp_recon.proofs.Words.{Raster, with_plane, chroma_residue, with_sums}
use Rattle.vp_recon.proofs.ResidueLemmas.{chroma_sums}
use Rattle.vp_recon.proofs.PlaneLemmas.{both_chroma}
use Rattle.vp_recon.proofs.add.add_large_chroma.Goals as goal

pub returns : goal.returns
returns c =
    let p = c.args.picture.now in
    let one = c.add_large_to_block.new.picture in
    let t = c.args.tokens.now in
    let f = c.args.factors.now in
    let x : ℕ = 8 * c.args.place.column in
    let y : ℕ = 8 * c.args.place.row in
    let sums = λ (q : Raster). chroma_sums t f c.factors.inside.raw c.factors.view_is q x y in
    both_chroma p one c.add_large_to_block-2.new.picture (λ k q. with_sums 2 q x y (chroma_residue t f k))
    (c.add_large_to_block.ensures ∙ ap (with_plane p 1) (sums p.u 1 c.own_dcs.result c.own_dcs.ensures.value))
    (c.add_large_to_block-2.ensures ∙ ap (with_plane one 2) (sums one.v 2 c.own_dcs-2.result c.own_dcs-2.ensures.value))
