use Rattle.std.proofs.Common.{◌∙◌, ℕ, pos, get_or, Fits, w8, arith}
use Rattle.vp_recon.proofs.Words.{lane, lane_fits, signed_param, widened, signed_add, signed_clamp, stands_pos, to_bytes_fits, to_bytes_out, ints, clamps}
use Rattle.vp_recon.proofs.SumLemmas.{lanes_summed}
use Rattle.vp_recon.proofs.add.summed.Goals as goal

pub overflow_cast-result-2 : goal.overflow_cast-result-2
overflow_cast-result-2 g c =
    let n : ℕ = g.row.N in
    let s = signed_add (widened n c.args.pixels c.fits-pixels.0 c.fits-pixels.1) (signed_param n c.args.numbers _ c.well_formed.1.0)
    (λ i k. let b = (lane_fits (Fits w8) 0 n c.args.pixels c.fits-pixels.0 c.fits-pixels.1 i k).fits in let r = c.requires.low i k in (omega (arith, ints), omega (arith, ints))) in
    to_bytes_fits (signed_clamp s 0 255 (pos 0) (pos 255) (stands_pos 0 (omega arith)) (stands_pos 255 (omega arith)))
    (λ i k. (omega (arith, ints, clamps), omega (arith, ints, clamps)))

pub returns : goal.returns
returns g c j h =
    let n : ℕ = g.row.N in
    let s = signed_add (widened n c.args.pixels c.fits-pixels.0 c.fits-pixels.1) (signed_param n c.args.numbers _ c.well_formed.1.0)
    (λ i k. let b = (lane_fits (Fits w8) 0 n c.args.pixels c.fits-pixels.0 c.fits-pixels.1 i k).fits in let r = c.requires.low i k in (omega (arith, ints), omega (arith, ints))) in
    to_bytes_out (signed_clamp s 0 255 (pos 0) (pos 255) (stands_pos 0 (omega arith)) (stands_pos 255 (omega arith))) j h
    ∙ lanes_summed (get_or c.args.pixels j 0) (lane c.args.numbers j)
