use Rattle.std.proofs.Common.{arith}
use Rattle.vp_recon.proofs.Words.{signed_param, in_first, below_four}
use Rattle.vp_recon.proofs.residue.four_times.Goals as goal

pub returns : goal.returns
returns c =
    let v = signed_param 4 c.args.v _ c.well_formed.0 in
    let a = (in_first v v 0 (omega arith)).is in
    let b = (in_first v v 1 (omega arith)).is in
    let d = (in_first v v 2 (omega arith)).is in
    let e = (in_first v v 3 (omega arith)).is in
    below_four _ (below_four _ a a a a) (below_four _ b b b b) (below_four _ d d d d) (below_four _ e e e e)
