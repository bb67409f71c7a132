use Rattle.std.proofs.Common.{lit<}
use Rattle.vp_lanes.proofs.Signed.{signed_param}
use Rattle.vp_quant.proofs.Sixteen.{in_first, sixteen}
use Rattle.vp_quant.proofs.short.placed.Goals as goal

pub returns : goal.returns
returns c =
    let at = in_first (signed_param 16 c.args.v _ c.well_formed.0) _ in
    sixteen (at 0 (lit< tt)) (at 1 (lit< tt)) (at 5 (lit< tt)) (at 6 (lit< tt)) (at 2 (lit< tt)) (at 4 (lit< tt)) (at 7 (lit< tt)) (at 12 (lit< tt))
    (at 3 (lit< tt)) (at 8 (lit< tt)) (at 11 (lit< tt)) (at 13 (lit< tt)) (at 9 (lit< tt)) (at 10 (lit< tt)) (at 14 (lit< tt)) (at 15 (lit< tt))
