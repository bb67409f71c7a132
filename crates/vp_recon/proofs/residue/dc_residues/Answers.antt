use Rattle.std.proofs.Common.{pos, arith}
use Rattle.vp_recon.proofs.Words.{ints, signed_param, signed_splat, stands_pos, signed_add, signed_shr, signed_out}
use Rattle.vp_recon.proofs.residue.dc_residues.Goals as goal

pub returns : goal.returns
returns c j h =
    signed_out (signed_shr (signed_add (signed_param 4 c.args.dcs _ c.well_formed.0) (signed_splat 4 4 (pos 4) (stands_pos 4 (omega arith)))
    (λ i k. let r = c.requires i k in (omega (arith, ints), omega (arith, ints)))) 3) j h
