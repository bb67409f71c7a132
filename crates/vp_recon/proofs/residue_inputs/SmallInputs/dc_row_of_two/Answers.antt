use Rattle.std.proofs.Common.{◌≡◌, ◌∙◌, ◌+◌, ◌*◌, ◌<◌, ℕ, zero, suc, ℤ, pos, get_or, ap, arith}
use Rattle.vp_recon.proofs.Words.{lane, rounded}
use Rattle.vp_recon.proofs.ResidueLemmas.{alone_rows}
use Rattle.vp_recon.proofs.SumLemmas.{short_coded}
use Rattle.vp_recon.proofs.residue_inputs.SmallInputs.dc_row_of_two.Goals as goal

-- the first four lanes, and the others
lanes : (c : goal.After-flat_row) (i j : ℕ) → i < 2 → j < 4 → lane c.flat_row.result (4 * i + j) ≡ rounded (get_or c.args.self.now.dcs.now (c.args.k + i) (pos 0))
lanes c zero j iin jin =
    let r = c.args.self.now in
    let k : ℕ = c.args.k in
    let below = c.requires.subblocks.0 in
    let small = r.small k (omega arith) in
    ap (lane c.flat_row.result) (let e : 4 * 0 + j ≡ j = omega arith in e)
    ∙ c.flat_row.ensures.left j jin ∙ short_coded c.dc_residue.result (let w = c.dc_residue.ensures.within in omega arith)
    ∙ c.dc_residue.ensures.value ∙ ap (λ (z : ℤ). rounded z) (short_coded (get_or r.dcs.now k (pos 0)) (omega arith))
    ∙ ap (λ (n : ℕ). rounded (get_or r.dcs.now n (pos 0))) (let e : k ≡ k + 0 = omega arith in e)
lanes c (suc zero) j iin jin =
    let r = c.args.self.now in
    let below = c.requires.subblocks.0 in
    let small = r.small (c.args.k + 1) (omega arith) in
    c.flat_row.ensures.right j jin ∙ short_coded c.dc_residue-2.result (let w = c.dc_residue-2.ensures.within in omega arith)
    ∙ c.dc_residue-2.ensures.value ∙ ap (λ (z : ℤ). rounded z) (short_coded (get_or r.dcs.now (c.args.k + 1) (pos 0)) (omega arith))
lanes c (suc (suc i)) j iin jin = absurd (omega arith)

pub returns : goal.returns
returns c = alone_rows c.args.self.now c.args.k 2 c.flat_row.result c.requires.subblocks c.requires.dc_only (lanes c)
