use Rattle.std.proofs.Common.{◌+◌, ℕ, subst, arith}
use Rattle.vp_recon.proofs.Words.{HasEqualSums, residue_in}
use Rattle.vp_recon.proofs.add.add_clamped_to_pair.Goals as goal

pub returns : goal.returns
returns c =
    let r = c.args.inputs.now in
    let k : ℕ = c.args.k in
    c.add_numbers_to_pair.ensures (λ i. residue_in r (k + i)) (subst (λ (n : ℕ). HasEqualSums c.clamped_residue.result (residue_in r n)) (omega arith) c.clamped_residue.ensures.value) c.clamped_residue-2.ensures.value
