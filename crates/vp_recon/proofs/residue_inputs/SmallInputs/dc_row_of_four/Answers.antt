use Rattle.std.proofs.Common.{◌≡◌, ◌∙◌, ◌+◌, ◌≤◌, ℤ, pos, get_or, unsigned_abs, sym, ap, subst, arith}
use Rattle.vp_recon.proofs.Words.{rounded, passed16}
use Rattle.vp_recon.proofs.ResidueLemmas.{alone_rows, loaded}
use Rattle.vp_recon.proofs.SumLemmas.{rounded_small}
use Rattle.vp_recon.proofs.residue_inputs.SmallInputs.dc_row_of_four.Goals as goal

pub dc_residues-requires : goal.dc_residues-requires
dc_residues-requires c j h =
    let r = c.args.self.now in
    let below = c.requires.subblocks.0 in
    let small = r.small (c.args.k + j) (omega arith) in
    subst (λ (z : ℤ). unsigned_abs z ≤ 2200) (sym (loaded r.dcs.now c.args.k j h (omega arith) small)) small

pub returns : goal.returns
returns c =
    let r = c.args.self.now in
    let below = c.requires.subblocks.0 in
    alone_rows r c.args.k 4 c.four_times.result c.requires.subblocks c.requires.dc_only
    (λ i j iin jin.
    let small = r.small (c.args.k + i) (omega arith) in
    let is : get_or c.dc_residues.result i (pos 0) ≡ rounded (get_or r.dcs.now (c.args.k + i) (pos 0)) =
    c.dc_residues.ensures i iin ∙ ap (λ (z : ℤ). rounded z) (loaded r.dcs.now c.args.k i iin (omega arith) small) in
    c.four_times.ensures i iin j jin
    ∙ passed16 c.dc_residues.result i 275 (omega arith) (subst (λ (z : ℤ). unsigned_abs z ≤ 275) (sym is) (rounded_small (get_or r.dcs.now (c.args.k + i) (pos 0)) small)) ∙ is)
