use Rattle.std.proofs.Common.{ℕ, ◌<◌, ◌∙◌, leb, get_or, sym, ap, subst, Fits, arith}
use Rattle.std.proofs.lemmas.Nat.Bits.{bit_at-zero}
use Rattle.std.specs.Int.{bit_at}
use Rattle.std.proofs.lemmas.Simd.{bitmask_splat}
use Rattle.vp_lanes.proofs.Shape.{lane_fits}
use mir.Syntax.{w16}
use Rattle.vp_search.proofs.SumLanes.{mask_clear, mask_small, above_from}
use Rattle.vp_search.proofs.sums.within.Goals as goal

pub returns-clause-eight : goal.returns-clause-eight
returns-clause-eight c =
    let most : ℕ = c.min-most.result in
    subst (λ (m : ℕ). m < 256) (sym (bitmask_splat w16 leb c.args.bounds 8 most c.fits-bounds.0 (omega arith))) (mask_small (λ (x : ℕ). leb x most) c.args.bounds c.fits-bounds.0)

pub returns-clause-others : goal.returns-clause-others
returns-clause-others c j h clear =
    let most : ℕ = c.min-most.result in
    above_from (get_or c.args.bounds j 0) most c.args.limit
    (mask_clear (λ (x : ℕ). leb x most) c.args.bounds _ j (bitmask_splat w16 leb c.args.bounds 8 most c.fits-bounds.0 (omega arith)) (omega arith) clear)
    c.min-most.ensures
    (lane_fits (Fits w16) 0 8 c.args.bounds c.fits-bounds.0 c.fits-bounds.1 j h).fits

pub returns-clause-none : goal.returns-clause-none
returns-clause-none c none j h = returns-clause-others c j h (ap (λ (n : ℕ). bit_at n j) none ∙ bit_at-zero j)
