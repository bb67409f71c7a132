use Rattle.std.proofs.Common.{◌≡◌, ◌∙◌, ◌+◌, ◌<◌, ◌++◌, ℕ, map, get_or, ap, lit<, to_z, of_z, w16}
use Rattle.vp_lanes.specs.Lane.{lane}
use Rattle.vp_lanes.proofs.Signed.{signed_param}
use Rattle.vp_quant.proofs.Sixteen.{in_first, in_second, sixteen}
use Rattle.vp_quant.proofs.short.alternated.Goals as goal

of_left : (c : goal.Start) (k : ℕ) → k < 16 → to_z w16 (get_or (map (of_z w16) c.args.left ++ map (of_z w16) c.args.right) k 0) ≡ lane c.args.left k
of_left c = in_first (signed_param 16 c.args.left _ c.well_formed.0) _

of_right : (c : goal.Start) (k : ℕ) → k < 16 → to_z w16 (get_or (map (of_z w16) c.args.left ++ map (of_z w16) c.args.right) (16 + k) 0) ≡ lane c.args.right k
of_right c k h =
    ap (to_z w16) (in_second (signed_param 16 c.args.left _ c.well_formed.0) _ k) ∙ ((signed_param 16 c.args.right _ c.well_formed.1.0).at k h).is

pub returns-clause-upper : goal.returns-clause-upper
returns-clause-upper c =
    let l = of_left c in
    let r = of_right c in
    sixteen (l 0 (lit< tt)) (r 0 (lit< tt)) (l 1 (lit< tt)) (r 1 (lit< tt)) (l 2 (lit< tt)) (r 2 (lit< tt)) (l 3 (lit< tt)) (r 3 (lit< tt))
    (l 4 (lit< tt)) (r 4 (lit< tt)) (l 5 (lit< tt)) (r 5 (lit< tt)) (l 6 (lit< tt)) (r 6 (lit< tt)) (l 7 (lit< tt)) (r 7 (lit< tt))

pub returns-clause-lower : goal.returns-clause-lower
returns-clause-lower c =
    let l = of_left c in
    let r = of_right c in
    sixteen (l 8 (lit< tt)) (r 8 (lit< tt)) (l 9 (lit< tt)) (r 9 (lit< tt)) (l 10 (lit< tt)) (r 10 (lit< tt)) (l 11 (lit< tt)) (r 11 (lit< tt))
    (l 12 (lit< tt)) (r 12 (lit< tt)) (l 13 (lit< tt)) (r 13 (lit< tt)) (l 14 (lit< tt)) (r 14 (lit< tt)) (l 15 (lit< tt)) (r 15 (lit< tt))
