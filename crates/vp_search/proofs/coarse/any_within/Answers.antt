use Rattle.std.proofs.Common.{ℕ, ◌∙◌, leb, get_or, sym, Fits, arith}
use Rattle.std.proofs.lemmas.Simd.{bitmask_splat}
use Rattle.vp_lanes.proofs.Shape.{lane_fits}
use mir.Syntax.{w8}
use Rattle.vp_search.proofs.SumLanes.{mask_none, zero_from}
use Rattle.vp_search.proofs.CoarseLemmas.{above_coarse}
use Rattle.vp_search.proofs.coarse.any_within.Goals as goal

pub returns : goal.returns
returns c none j h =
    let most : ℕ = c.min-most.result in
    let empty = sym (bitmask_splat w8 leb c.args.bounds 16 most c.fits-bounds.0 (omega arith)) ∙ zero_from _ none in
    above_coarse (get_or c.args.bounds j 0) most c.args.limit (mask_none (λ (x : ℕ). leb x most) c.args.bounds empty j (omega arith)) (omega arith)
    (lane_fits (Fits w8) 0 16 c.args.bounds c.fits-bounds.0 c.fits-bounds.1 j h).fits
