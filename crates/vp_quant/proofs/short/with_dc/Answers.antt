use Rattle.std.proofs.Common.{◌∙◌, ap, lit<, to_z, w16}
use Rattle.std.proofs.lemmas.Int.{to_z-of_z}
use Rattle.vp_lanes.proofs.Signed.{signed_param}
use Rattle.vp_quant.proofs.Sixteen.{in_first, in_second, sixteen}
use Rattle.vp_quant.proofs.short.with_dc.Goals as goal

pub returns : goal.returns
returns c =
    let v = signed_param 16 c.args.v _ c.well_formed.0 in
    let at = in_first v _ in
    sixteen (ap (to_z w16) (in_second v _ 0) ∙ to_z-of_z w16 c.args.dc c.ranges.dc)
    (at 1 (lit< tt)) (at 2 (lit< tt)) (at 3 (lit< tt)) (at 4 (lit< tt)) (at 5 (lit< tt)) (at 6 (lit< tt)) (at 7 (lit< tt))
    (at 8 (lit< tt)) (at 9 (lit< tt)) (at 10 (lit< tt)) (at 11 (lit< tt)) (at 12 (lit< tt)) (at 13 (lit< tt)) (at 14 (lit< tt)) (at 15 (lit< tt))
